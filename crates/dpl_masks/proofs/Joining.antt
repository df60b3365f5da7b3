-- Bytes that are put one behind another.
use Rattle.std.proofs.Common.{◌≡◌, ◌∙◌, ℕ, ◌+◌, ◌<◌, List, ◌++◌, length, take, get_or, ap, append_assoc, append-nil}
use Rattle.std.proofs.lemmas.List.{take_more, map-append}
use Rattle.std.proofs.lemmas.List.Folds.{concat-append}
use Rattle.dpl_spec_split.specs.declared.Rect.{Rect}
use Rattle.dpl_masks.specs.Bytes.{boundary_bytes, boundaries_bytes}

-- one more slab's bytes
pub one_more : (layer : ℕ) (k : ℕ) (rs : List Rect) (d : Rect) (s0 s1 s2 : List ℕ) → k < length rs
    → s1 ≡ s0 ++ boundaries_bytes layer (take k rs) → s2 ≡ s1 ++ boundary_bytes layer (get_or rs k d)
    → s2 ≡ s0 ++ boundaries_bytes layer (take (k + 1) rs)
one_more layer k rs d s0 s1 s2 h e f =
    rw (take_more rs k d h, map-append, concat-append) (f ∙ ap (λ x. x ++ boundary_bytes layer (get_or rs k d)) e ∙ simp (append_assoc, append-nil))
