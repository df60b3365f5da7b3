-- A motion is known by where it takes points, so composing is associative and has a unit.
use Rattle.std.proofs.Common.{◌≡◌, ℕ, zero, suc, ◌+◌, ◌-◌, ◌<◌, ◌≤◌, ◌⊎◌, inl, inr, Bool, true, false, refl, sym, ap, ◌∙◌, arith}
use Rattle.std.specs.Prelude.{ℤ, pos, ◌+ℤ◌, neg_ℤ, if◌then◌else◌}
use Rattle.std.proofs.lemmas.Int.{ints}
use Rattle.std.proofs.lemmas.Bool.{cases_lt}
use Rattle.dpl_spec_split.specs.declared.Pt.{Pt}
use Rattle.dpl_spec_elements.specs.Motions.{Motion, reflected, quarter_turned, turned, moved, image, IsComposed}
use Rattle.dpl_place.proofs.Turning.{same_point, turned-four, turned-add}
use Rattle.dpl_place.proofs.Composing.{mirrored, turn_of}

abbrev origin : Pt
origin = record { x = pos 0; y = pos 0 }

abbrev east : Pt
east = record { x = pos 1; y = pos 0 }

abbrev north : Pt
north = record { x = pos 0; y = pos 1 }

turned-origin : (n : ℕ) → turned n origin ≡ origin
turned-origin zero = refl
turned-origin (suc n) = ap quarter_turned (turned-origin n)

turn_of-origin : (b : Bool) (n : ℕ) → turn_of b n origin ≡ origin
turn_of-origin true n = turned-origin n
turn_of-origin false n = turned-origin n

turned-back : (n : ℕ) (p : Pt) → n < 4 → turned (4 - n) (turned n p) ≡ p
turned-back n p few =
    let e : 4 - n + n ≡ 4 = omega (arith, few) in
    sym (turned-add (4 - n) n p) ∙ (ap (λ k. turned k p) e ∙ turned-four p)

turned-injective : (n : ℕ) (p q : Pt) → n < 4 → turned n p ≡ turned n q → p ≡ q
turned-injective n p q few e = sym (turned-back n p few) ∙ (ap (turned (4 - n)) e ∙ turned-back n q few)

no-turn : (k : ℕ) → k < 4 → east ≡ turned k east → k ≡ 0
no-turn zero few e = refl
no-turn (suc zero) few e = absurd (let x = ap (λ p. let q : Pt = p in q.x) e in omega (arith, ints, x))
no-turn (suc (suc zero)) few e = absurd (let x = ap (λ p. let q : Pt = p in q.x) e in omega (arith, ints, x))
no-turn (suc (suc (suc zero))) few e = absurd (let x = ap (λ p. let q : Pt = p in q.x) e in omega (arith, ints, x))
no-turn (suc (suc (suc (suc k)))) few e = absurd (omega (arith, few))

turns-order : (m n : ℕ) → m ≤ n → n < 4 → turned m east ≡ turned n east → m ≡ n
turns-order m n le few e =
    let split : n ≡ m + (n - m) = omega (arith, le) in
    let f : turned m east ≡ turned m (turned (n - m) east) = e ∙ (ap (λ k. turned k east) split ∙ turned-add m (n - m) east) in
    let h = no-turn (n - m) (omega (arith, few)) (turned-injective m east (turned (n - m) east) (omega (arith, le, few)) f) in
    omega (arith, h, le)

same_turns : (m n : ℕ) → m < 4 → n < 4 → turned m east ≡ turned n east → m ≡ n
same_turns m n fm fn e = elim (cases_lt m n) [ inl l ↦ turns-order m n (omega (arith, l)) fn e | inr g ↦ sym (turns-order n m g fm (sym e)) ]

mirrored-east : (b : Bool) → mirrored b east ≡ east
mirrored-east true = refl
mirrored-east false = refl

same_mirror : (b c : Bool) → mirrored b north ≡ mirrored c north → b ≡ c
same_mirror true true e = refl
same_mirror true false e = absurd (let y = ap (λ p. let q : Pt = p in q.y) e in omega (arith, ints, y))
same_mirror false true e = absurd (let y = ap (λ p. let q : Pt = p in q.y) e in omega (arith, ints, y))
same_mirror false false e = refl

-- what doesn't move the origin is the same where the images are
same_turn : (m n : Motion) → ((p : Pt) → image m p ≡ image n p) → m.dx ≡ n.dx → m.dy ≡ n.dy → (p : Pt) → turn_of m.reflect m.turns p ≡ turn_of n.reflect n.turns p
same_turn m n same dx dy p =
    let x = ap (λ q. let r : Pt = q in r.x) (same p) in
    let y = ap (λ q. let r : Pt = q in r.y) (same p) in
    same_point (turn_of m.reflect m.turns p) (turn_of n.reflect n.turns p) (omega (arith, ints, x, dx)) (omega (arith, ints, y, dy))

same_move : (m n : Motion) → ((p : Pt) → image m p ≡ image n p) → (m.dx ≡ n.dx) × (m.dy ≡ n.dy)
same_move m n same =
    let a = ap (moved m.dx m.dy) (turn_of-origin m.reflect m.turns) in
    let b = ap (moved n.dx n.dy) (turn_of-origin n.reflect n.turns) in
    let e : moved m.dx m.dy origin ≡ moved n.dx n.dy origin = sym a ∙ (same origin ∙ b) in
    let x = ap (λ q. let r : Pt = q in r.x) e in
    let y = ap (λ q. let r : Pt = q in r.y) e in
    (omega (arith, ints, x), omega (arith, ints, y))

pub one_motion : (m n : Motion) → m.turns < 4 → n.turns < 4 → ((p : Pt) → image m p ≡ image n p) → m ≡ n
one_motion m n fm fn same =
    let (dx, dy) = same_move m n same in
    let at_east : turned m.turns east ≡ turned n.turns east =
    ap (turned m.turns) (sym (mirrored-east m.reflect)) ∙ (same_turn m n same dx dy east ∙ ap (turned n.turns) (mirrored-east n.reflect)) in
    let turns = same_turns m.turns n.turns fm fn at_east in
    let at_north : turned n.turns (mirrored m.reflect north) ≡ turned n.turns (mirrored n.reflect north) =
    ap (λ k. turned k (mirrored m.reflect north)) (sym turns) ∙ same_turn m n same dx dy north in
    let reflect = same_mirror m.reflect n.reflect (turned-injective n.turns (mirrored m.reflect north) (mirrored n.reflect north) fn at_north) in
    λ i. record { reflect = reflect i; turns = turns i; dx = dx i; dy = dy i }

pub associative : (a b c ab bc x y : Motion) → IsComposed a b ab → IsComposed ab c x → IsComposed b c bc → IsComposed a bc y → x ≡ y
associative a b c ab bc x y (f1, first) (fx, left) (f2, second) (fy, right) =
    one_motion x y fx fy (λ p. left p ∙ (first (image c p) ∙ (ap (image a) (sym (second p)) ∙ sym (right p))))

pub unit_outer : (u m x : Motion) → ((p : Pt) → image u p ≡ p) → m.turns < 4 → IsComposed u m x → x ≡ m
unit_outer u m x stays few (fx, same) = one_motion x m fx few (λ p. same p ∙ stays (image m p))

pub unit_inner : (u m x : Motion) → ((p : Pt) → image u p ≡ p) → m.turns < 4 → IsComposed m u x → x ≡ m
unit_inner u m x stays few (fx, same) = one_motion x m fx few (λ p. same p ∙ ap (image m) (stays p))
