-- A file of two masks is read without a fault.
use Rattle.std.proofs.Common.{◌≢◌, ℕ, ◌<◌, ◌≤◌, inr, List, length, sym}
use Rattle.std.specs.List.{Contains}
use Rattle.dpl_spec_split.specs.declared.Rect.{Rect}
use Rattle.dpl_spec_format.specs.Tree.{Library, Structure, frame_of}
use Rattle.dpl_spec_format.specs.Layout.{Holds}
use Rattle.dpl_masks.specs.Bytes.{file_bytes}
use Rattle.dpl_layer.specs.Reading.{frame_bytes, limit}
use Rattle.dpl_law_outcome.specs.ReadBack.{AreMasksOf, IsMask, IsReadAs, most_slabs}
use Rattle.dpl_law_outcome.proofs.ReadBack.{read-back}
use Rattle.dpl_law_outcome.proofs.Faultless.{faultless, first-few, front, second-few}

pub masks-read : (bytes : List ℕ) (lib : Library) (s : Structure) (la lb : ℕ) (a b : List Rect) → Holds bytes lib
    → Contains lib.structures s → la ≢ lb → la < 65536 → lb < 65536 → IsMask a → IsMask b
    → length (file_bytes (frame_bytes (frame_of lib s)) la lb a b) ≤ limit → length a ≤ most_slabs → length b ≤ most_slabs
    → IsReadAs (file_bytes (frame_bytes (frame_of lib s)) la lb a b) la a × IsReadAs (file_bytes (frame_bytes (frame_of lib s)) la lb a b) lb b
masks-read bytes lib s la lb a b held s_in apart la_in lb_in a_is b_is small few_a few_b =
    let file = file_bytes (frame_bytes (frame_of lib s)) la lb a b in
    let m : AreMasksOf file la lb a b = read-back bytes lib s la lb a b held s_in apart la_in lb_in a_is b_is in
    let before = frame_bytes (frame_of m.lib m.top) in (
      (
        before,
        inr (
          small,
          (
            m.lib,
            m.holds,
            record {
              top = 0;
              is_top = m.found;
              faultless = faultless file la lb a b m a_is b_is la (first-few file la lb a b m a_is b_is (λ e. apart (sym e)) few_a);
              before = front file la lb a b m a_is b_is;
              squares = record { canonical = a_is.canonical; covers = λ p. ((m.first p).1, (m.first p).0) };
            },
          ),
        ),
      ),
      (
        before,
        inr (
          small,
          (
            m.lib,
            m.holds,
            record {
              top = 0;
              is_top = m.found;
              faultless = faultless file la lb a b m a_is b_is lb (second-few file la lb a b m a_is b_is apart few_b);
              before = front file la lb a b m a_is b_is;
              squares = record { canonical = b_is.canonical; covers = λ p. ((m.second p).1, (m.second p).0) };
            },
          ),
        ),
      ),
    )
