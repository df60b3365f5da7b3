-- Transposed sets, rectangles and trees: x and y are exchanged.
use Rattle.std.proofs.Common.{◌≡◌, ℕ, ◌<◌, List, length, get_or, map, sym, ap, ◌∙◌, subst, arith}
use Rattle.std.specs.Prelude.{ℤ, pos, ◌-ℤ◌}
use Rattle.std.proofs.lemmas.List.{get_or_default, get_or-map, length-map}
use Rattle.dpl_spec_split.specs.declared.Spacing.{Spacing}
use Rattle.dpl_spec_split.specs.declared.Rect.{Rect}
use Rattle.dpl_spec_split.specs.Squares.{Region, SameSquares, Has, Covers}
use Rattle.dpl_spec_split.specs.Slabs.{IsCanonical}
use Rattle.dpl_spec_split.specs.Zones.{at, IsClearRun, GoesOn, IsHorizontalZone, transposed, transposed_rect}
use Rattle.dpl_spec_split.specs.Loops.{farthest, AreRectsWithin}
use Rattle.dpl_shade.specs.Rows.{AreWithin}

-- the same zones, of the same sets
module _ (spacing : Spacing) (overlap : ℕ) (l m f g : Region) (layers : SameSquares l m) (features : SameSquares f g) where
  run-as : (y0 y1 x : ℤ) → IsClearRun spacing l f y0 y1 x → IsClearRun spacing m g y0 y1 x
  run-as y0 y1 x r =
      record {
        some = r.some;
        inside = λ y a b. (features (at x y)).0 (r.inside y a b);
        clear = λ y a b q in_m not_g. r.clear y a b q ((layers q).1 in_m) (λ in_f. not_g ((features q).0 in_f));
        below = λ h. r.below ((features (at x (y0 -ℤ pos 1))).1 h);
        above = λ h. r.above ((features (at x y1)).1 h);
      }

same-back : (a b : Region) → SameSquares a b → SameSquares b a
same-back a b s p = ((s p).1, (s p).0)

pub zone-as : (spacing : Spacing) (overlap : ℕ) (l m f g : Region) → SameSquares l m → SameSquares f g → (z : Rect) → IsHorizontalZone spacing overlap l f z → IsHorizontalZone spacing overlap m g z
zone-as spacing overlap l m f g layers features z h =
    let r : Rect = h.stretch in
    let st = h.is in
    let goes : (x : ℤ) → GoesOn f r.y0 r.y1 x → GoesOn g r.y0 r.y1 x = λ x (y, a, b, c). (y, a, b, (features (at x y)).0 c) in
    record {
      stretch = h.stretch;
      is = record {
        runs = λ x a b. run-as spacing overlap l m f g layers features r.y0 r.y1 x (st.runs x a b);
        maximal_left = λ run. st.maximal_left (run-as spacing overlap m l g f (same-back l m layers) (same-back f g features) r.y0 r.y1 (r.x0 -ℤ pos 1) run);
        maximal_right = λ run. st.maximal_right (run-as spacing overlap m l g f (same-back l m layers) (same-back f g features) r.y0 r.y1 r.x1 run);
        long = st.long;
        from = goes (r.x0 -ℤ pos 1) st.from;
        to = goes r.x1 st.to;
      };
      middle = h.middle;
    }

pub within-slabs : (rs : List Rect) → IsCanonical rs → AreRectsWithin farthest rs → AreWithin rs
within-slabs rs canonical within k d l =
    let w = within (get_or rs k d) (k, l, get_or_default rs k (get_or rs k d) d l) in
    let solid = canonical.solid k d l in
    record { wide = solid.wide; tall = solid.tall; left = w.left; right = w.right; low = w.low; high = w.high }

pub transposed-covers : (rects : List Rect) → SameSquares (Covers (map transposed_rect rects)) (transposed (Covers rects))
transposed-covers rects p = (
  λ (k, r, l, is, has). (let k_in : k < length rects = omega (arith, l, length-map rects transposed_rect) in
      let s : Rect = get_or rects k r in
      let same : transposed_rect (get_or rects k r) ≡ r = sym (get_or-map transposed_rect rects k r r k_in) ∙ is in
      let here : Has (transposed_rect (get_or rects k r)) p = subst (λ t. Has t p) (sym same) has in
      (k, get_or rects k r, k_in, get_or_default rects k _ r k_in, record { left = here.low; right = here.high; low = here.left; high = here.right })),
  λ (k, r, k_in, is, has). (
    k,
    transposed_rect r,
    omega (arith, k_in, length-map rects transposed_rect),
    get_or-map transposed_rect rects k r (transposed_rect r) k_in
        ∙ ap transposed_rect is,
    record { left = has.low; right = has.high; low = has.left; high = has.right },
  ),
)
