-- Composing motions.
use Rattle.std.proofs.Common.{◌≡◌, ℕ, ◌+◌, ◌-◌, ◌%◌, ◌<◌, Bool, true, false, not, refl, sym, ap, ◌∙◌, arith}
use Rattle.std.specs.Prelude.{if◌then◌else◌}
use mathlib.Core.Bool.{beq}
use Rattle.dpl_spec_split.specs.declared.Pt.{Pt}
use Rattle.dpl_spec_elements.specs.Motions.{Motion, reflected, turned, moved, image, IsComposed}
use Rattle.dpl_place.proofs.Turning.{turned-add, turned-mod, reflected-twice, reflected-turned, turned-moved, reflected-moved, moved-moved}

-- reflected where b says so
abbrev pub mirrored : Bool → Pt → Pt
mirrored b p = if b then reflected p else p

-- reflected and turned, not moved
abbrev pub turn_of : Bool → ℕ → Pt → Pt
turn_of b n p = turned n (mirrored b p)

mirrored-moved : (b : Bool) (v p : Pt) → mirrored b (moved v.x v.y p) ≡ moved (mirrored b v).x (mirrored b v).y (mirrored b p)
mirrored-moved true v p = reflected-moved v p
mirrored-moved false v p = refl

turn_of-moved : (b : Bool) (n : ℕ) (v p : Pt) → turn_of b n (moved v.x v.y p) ≡ moved (turn_of b n v).x (turn_of b n v).y (turn_of b n p)
turn_of-moved b n v p = ap (turned n) (mirrored-moved b v p) ∙ turned-moved n (mirrored b v) (mirrored b p)

-- the turns of two motions, one after the other
abbrev pub turns_after : Bool → ℕ → ℕ → ℕ
turns_after b m n = if b then (m + 4 - n) % 4 else (m + n) % 4

abbrev pub reflect_after : Bool → Bool → Bool
reflect_after true b = not b
reflect_after false b = b

pub reflect_after-is : (b c : Bool) → not (beq b c) ≡ reflect_after b c
reflect_after-is true true = refl
reflect_after-is true false = refl
reflect_after-is false true = refl
reflect_after-is false false = refl

mirrored-mirrored : (b c : Bool) (p : Pt) → mirrored b (mirrored c p) ≡ mirrored (reflect_after b c) p
mirrored-mirrored true true p = reflected-twice p
mirrored-mirrored true false p = refl
mirrored-mirrored false c p = refl

turn_of-turn_of : (b c : Bool) (m n : ℕ) (p : Pt) → m < 4 → n < 4 → turn_of b m (turn_of c n p) ≡ turn_of (reflect_after b c) (turns_after b m n) p
turn_of-turn_of true c m n p fm fn =
    let e : m + (4 - n) ≡ m + 4 - n = omega arith in
    ap (turned m) (reflected-turned n (mirrored c p) fn)
    ∙ (sym (turned-add m (4 - n) (reflected (mirrored c p)))
    ∙ (ap (λ k. turned k (reflected (mirrored c p))) e
    ∙ (turned-mod (m + 4 - n) (reflected (mirrored c p)) (omega arith)
    ∙ ap (turned ((m + 4 - n) % 4)) (mirrored-mirrored true c p))))
turn_of-turn_of false c m n p fm fn =
    sym (turned-add m n (mirrored c p)) ∙ turned-mod (m + n) (mirrored c p) (omega arith)

-- the composed motion
pub composed : (outer inner m : Motion) (at : Pt) → outer.turns < 4 → inner.turns < 4
    → m.reflect ≡ reflect_after outer.reflect inner.reflect → m.turns ≡ turns_after outer.reflect outer.turns inner.turns
    → at ≡ image outer (record { x = inner.dx; y = inner.dy }) → m.dx ≡ at.x → m.dy ≡ at.y → m.turns < 4 → IsComposed outer inner m
composed outer inner m at fo fi reflect_is turns_is at_is dx_is dy_is few = (
  few,
  λ p.
      let shift : Pt = record { x = inner.dx; y = inner.dy } in
      let b : Bool = outer.reflect in
      let n : ℕ = outer.turns in
      let c : Bool = inner.reflect in
      let k : ℕ = inner.turns in
      let start : turn_of m.reflect m.turns p ≡ turn_of b n (turn_of c k p) =
      ap (λ r. turn_of r m.turns p) reflect_is ∙ (ap (λ t. turn_of (reflect_after b c) t p) turns_is ∙ sym (turn_of-turn_of b c n k p fo fi)) in
      let where_to : moved m.dx m.dy (turn_of m.reflect m.turns p) ≡ moved at.x at.y (turn_of b n (turn_of c k p)) =
      ap (λ x. moved x m.dy (turn_of m.reflect m.turns p)) dx_is ∙ (ap (λ y. moved at.x y (turn_of m.reflect m.turns p)) dy_is ∙ ap (moved at.x at.y) start) in
      let from_at : moved at.x at.y (turn_of b n (turn_of c k p)) ≡ moved (image outer shift).x (image outer shift).y (turn_of b n (turn_of c k p)) =
      ap (λ q. let s : Pt = q in moved s.x s.y (turn_of b n (turn_of c k p))) at_is in
      let back : image outer (moved shift.x shift.y (turn_of c k p)) ≡ moved (image outer shift).x (image outer shift).y (turn_of b n (turn_of c k p)) =
      ap (moved outer.dx outer.dy) (turn_of-moved b n shift (turn_of c k p))
      ∙ moved-moved (record { x = outer.dx; y = outer.dy }) (turn_of b n shift) (turn_of b n (turn_of c k p)) in
      where_to ∙ (from_at ∙ sym back),
)
