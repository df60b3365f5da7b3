-- Where placements take bars.
use Rattle.std.proofs.Common.{◌≡◌, ℕ, zero, suc, Bool, true, false, not, cond, ℤ, refl, ap, ◌∙◌}
use Rattle.dpl_spec_split.specs.declared.Pt.{Pt}
use Rattle.dpl_spec_elements.specs.Motions.{Motion, image, reflected, quarter_turned, turned, moved}
use Rattle.dpl_corners.specs.declared.bar.Bar.{Bar}
use Rattle.dpl_corners.specs.Corners.{over}
use Rattle.dpl_corners.proofs.BarLaws.{IsImage}

-- some bar has its corners where f takes those of the bar
abbrev pub HasImage : (Pt → Pt) → Bar → Type 0
HasImage f a = (b : Bar) × IsImage f a b

stays : (a : Bar) → IsImage (λ p. p) a a
stays a = record { corner = refl; opposite = refl; next = refl; last = refl; ends = refl }

composed : (f g : Pt → Pt) (a b c : Bar) → IsImage f a b → IsImage g b c → IsImage (λ p. g (f p)) a c
composed f g a b c i j = record {
  corner = j.corner ∙ ap g i.corner;
  opposite = j.opposite ∙ ap g i.opposite;
  next = j.next ∙ ap g i.next;
  last = j.last ∙ ap g i.last;
  ends = j.ends ∙ i.ends;
}

-- the corner behind p on the way to r
abbrev side : Bool → Pt → Pt → Pt
side u p r = cond u (over p r) (over r p)

reflected-side : (u : Bool) (p r : Pt) → side u (reflected p) (reflected r) ≡ reflected (side u p r)
reflected-side true p r = refl
reflected-side false p r = refl

quarter-side : (u : Bool) (p r : Pt) → side (not u) (quarter_turned p) (quarter_turned r) ≡ quarter_turned (side u p r)
quarter-side true p r = refl
quarter-side false p r = refl

moved-side : (dx dy : ℤ) (u : Bool) (p r : Pt) → side u (moved dx dy p) (moved dx dy r) ≡ moved dx dy (side u p r)
moved-side dx dy true p r = refl
moved-side dx dy false p r = refl

reflected-bar : (a : Bar) → HasImage reflected a
reflected-bar a = (
  record { corner = reflected a.corner; opposite = reflected a.opposite; upright = a.upright; closed = a.closed },
  record {
    corner = refl;
    opposite = refl;
    next = reflected-side a.upright a.corner a.opposite;
    last = reflected-side a.upright a.opposite a.corner;
    ends = refl;
  },
)

quarter-bar : (a : Bar) → HasImage quarter_turned a
quarter-bar a = (
  record { corner = quarter_turned a.corner; opposite = quarter_turned a.opposite; upright = not a.upright; closed = a.closed },
  record {
    corner = refl;
    opposite = refl;
    next = quarter-side a.upright a.corner a.opposite;
    last = quarter-side a.upright a.opposite a.corner;
    ends = refl;
  },
)

moved-bar : (dx dy : ℤ) (a : Bar) → HasImage (moved dx dy) a
moved-bar dx dy a = (
  record { corner = moved dx dy a.corner; opposite = moved dx dy a.opposite; upright = a.upright; closed = a.closed },
  record {
    corner = refl;
    opposite = refl;
    next = moved-side dx dy a.upright a.corner a.opposite;
    last = moved-side dx dy a.upright a.opposite a.corner;
    ends = refl;
  },
)

reflected-where : (t : Bool) (a : Bar) → HasImage (λ p. cond t (reflected p) p) a
reflected-where true a = reflected-bar a
reflected-where false a = (a, stays a)

turned-bar : (n : ℕ) (a : Bar) → HasImage (turned n) a
turned-bar zero a = (a, stays a)
turned-bar (suc n) a =
    let b = turned-bar n a in
    let c = quarter-bar b.0 in
    (c.0, composed (turned n) quarter_turned a b.0 c.0 b.1 c.1)

-- a placement takes the corners of a bar to those of a bar
pub placed-bar : (m : Motion) (a : Bar) → HasImage (image m) a
placed-bar m a =
    let b = reflected-where m.reflect a in
    let c = turned-bar m.turns b.0 in
    let d = moved-bar m.dx m.dy c.0 in (
      d.0,
      composed (λ p. turned m.turns (cond m.reflect (reflected p) p)) (moved m.dx m.dy) a c.0 d.0
          (composed (λ p. cond m.reflect (reflected p) p) (turned m.turns) a b.0 c.0 b.1 c.1) d.1,
    )
