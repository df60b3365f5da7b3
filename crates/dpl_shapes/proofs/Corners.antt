-- The loop round a rectangle covers the rectangle.
use Rattle.std.proofs.Common.{◌≡◌, ℕ, zero, suc, ◌+◌, ◌≤◌, ◌<◌, inl, inr, List, length, get_or, refl, sym, ap, ◌∙◌, subst, arith}
use Rattle.std.specs.Prelude.{◌↔◌, ℤ, pos, negsuc, ◌+ℤ◌, ◌≤ℤ◌, ◌<ℤ◌, map}
use Rattle.std.specs.List.{All, Contains}
use Rattle.std.proofs.lemmas.Int.{ints, by_lt_z}
use Rattle.std.proofs.lemmas.List.{get_or-map, get_or_default}
use Rattle.std.proofs.Math.ListN.{length-map}
use Rattle.dpl_spec_split.specs.declared.Pt.{Pt}
use Rattle.dpl_spec_split.specs.declared.Rect.{Rect}
use Rattle.dpl_spec_split.specs.Squares.{Has, Covers}
use Rattle.dpl_spec_split.specs.Loops.{step, winding, LoopCovers, SomeLoopCovers, IsLevelOrUpright, IsRectilinear}
use Rattle.dpl_spec_elements.specs.Paths.{corners_of}

-- its corners stand in order
pub record IsProper (r : Rect) : Type 0 where
  pub across : r.x0 ≤ℤ r.x1
  pub up : r.y0 ≤ℤ r.y1

step-level : (p q s : Pt) → p.y ≡ q.y → step p q s ≡ pos 0
step-level p q s e = by_lt_z s.y p.y (λ a. grind (arith, ints, a, e)) (λ a. grind (arith, ints, a, e))

step-right : (p q s : Pt) → s.x <ℤ p.x → step p q s ≡ pos 0
step-right p q s h = grind (arith, ints, h)

step-off : (p q s : Pt) → (s.y <ℤ p.y) → (s.y <ℤ q.y) → step p q s ≡ pos 0
step-off p q s h k = grind (arith, ints, h, k)

step-over : (p q s : Pt) → (p.y ≤ℤ s.y) → (q.y ≤ℤ s.y) → step p q s ≡ pos 0
step-over p q s h k = grind (arith, ints, h, k)

step-up : (p q s : Pt) → p.x ≤ℤ s.x → p.y ≤ℤ s.y → s.y <ℤ q.y → step p q s ≡ pos 1
step-up p q s a h k = grind (arith, ints, a, h, k)

step-down : (p q s : Pt) → p.x ≤ℤ s.x → q.y ≤ℤ s.y → s.y <ℤ p.y → step p q s ≡ negsuc 0
step-down p q s a h k = grind (arith, ints, a, h, k)

abbrev pub low_left : Rect → Pt
low_left r = record { x = r.x0; y = r.y0 }

abbrev pub low_right : Rect → Pt
low_right r = record { x = r.x1; y = r.y0 }

abbrev pub high_right : Rect → Pt
high_right r = record { x = r.x1; y = r.y1 }

abbrev pub high_left : Rect → Pt
high_left r = record { x = r.x0; y = r.y1 }

-- the sum is that over the two upright edges
winding-sides : (r : Rect) (s : Pt) → winding (corners_of r) s ≡ step (low_right r) (high_right r) s +ℤ step (high_left r) (low_left r) s
winding-sides r s =
    let low = step-level (low_left r) (low_right r) s refl in
    let high = step-level (high_right r) (high_left r) s refl in
    let whole : winding (corners_of r) s ≡ pos 0 +ℤ step (low_left r) (low_right r) s +ℤ step (low_right r) (high_right r) s +ℤ step
    (high_right r) (high_left r) s +ℤ step (high_left r) (low_left r) s = refl in
    whole ∙ omega (arith, ints, low, high)

sides-none : (r : Rect) (s : Pt) (a b : ℤ) → step (low_right r) (high_right r) s ≡ a → step (high_left r) (low_left r) s ≡ b → a +ℤ b ≡ pos 0 → LoopCovers (corners_of r) s → ⊥
sides-none r s a b a_is b_is none covers =
    let w = winding-sides r s in
    covers (omega (arith, ints, w, a_is, b_is, none))

pub corners-cover : (r : Rect) (s : Pt) → IsProper r → LoopCovers (corners_of r) s ↔ Has r s
corners-cover r s proper = (
  λ covers.
      by_lt_z s.y r.y0
      (λ below. absurd (sides-none r s _ _ (step-off (low_right r) (high_right r) s below (omega (arith, ints, below, proper.up)))
      (step-off (high_left r) (low_left r) s (omega (arith, ints, below, proper.up)) below) refl covers))
      (λ low. by_lt_z s.y r.y1
      (λ high. by_lt_z s.x r.x0
      (λ before. absurd (sides-none r s _ _ (step-right (low_right r) (high_right r) s (omega (arith, ints, before, proper.across)))
      (step-right (high_left r) (low_left r) s before) refl covers))
      (λ left. by_lt_z s.x r.x1
      (λ right. record { left = left; right = right; low = low; high = high })
      (λ past. absurd (sides-none r s _ _ (step-up (low_right r) (high_right r) s past low high) (step-down (high_left r) (low_left r) s left low high) refl covers))))
      (λ above. absurd (sides-none r s _ _ (step-over (low_right r) (high_right r) s (omega (arith, ints, above, proper.up)) above)
      (step-over (high_left r) (low_left r) s above (omega (arith, ints, above, proper.up))) refl covers))),
  λ has none.
      let up = step-right (low_right r) (high_right r) s has.right in
      let down = step-down (high_left r) (low_left r) s has.left has.low has.high in
      let w = winding-sides r s in
      omega (arith, ints, w, up, down, none),
)

pub corners-straight : (r : Rect) → IsRectilinear (corners_of r)
corners-straight r = record { between = sides; closing = λ d. inl refl }
  where
    sides : (k : ℕ) (d : Pt) → suc k ≤ 3 → IsLevelOrUpright (get_or (corners_of r) k d) (get_or (corners_of r) (k + 1) d)
    sides zero d within = inr refl
    sides (suc zero) d within = inl refl
    sides (suc (suc zero)) d within = inr refl
    sides (suc (suc (suc k))) d within = absurd (omega (arith, within))

pub loops-straight : (rs : List Rect) → All IsRectilinear (map corners_of rs)
loops-straight rs k d within =
    let inside : k < length rs = subst (λ n. k < n) (length-map rs corners_of) within in
    let r : Rect = record { x0 = pos 0; y0 = pos 0; x1 = pos 0; y1 = pos 0 } in
    subst IsRectilinear (sym (get_or-map corners_of rs k r d inside)) (corners-straight (get_or rs k r))

pub loops-cover : (rs : List Rect) → ((r : Rect) → Contains rs r → IsProper r) → (s : Pt) → SomeLoopCovers (map corners_of rs) s ↔ Covers rs s
loops-cover rs proper s = (
  λ (k, l, within, is, covers).
      let inside : k < length rs = subst (λ n. k < n) (length-map rs corners_of) within in
      let d : Rect = record { x0 = pos 0; y0 = pos 0; x1 = pos 0; y1 = pos 0 } in
      let r : Rect = get_or rs k d in
      let here : get_or rs k r ≡ r = get_or_default rs k r d inside in
      let same : l ≡ corners_of r = sym is ∙ get_or-map corners_of rs k d l inside in
      (k, r, inside, here, (corners-cover r s (proper r (k, inside, here))).0 (subst (λ ps. LoopCovers ps s) same covers)),
  λ (k, r, inside, is, has).
      let within : k < length (map corners_of rs) = subst (λ n. k < n) (sym (length-map rs corners_of)) inside in
      (k, corners_of r, within, get_or-map corners_of rs k r (corners_of r) inside ∙ ap corners_of is, (corners-cover r s (proper r (k, inside, is))).1 has),
)
