-- A cut with a reported cycle has no stitches.
use Rattle.std.proofs.Common.{◌≡◌, ℕ, length, ap, ◌∙◌}
use Rattle.std.proofs.Math.ListN.{length-map}
use Rattle.dpl_spec_split.specs.declared.Spacing.{Spacing}
use Rattle.dpl_spec_split.specs.Decomposition.{Cut}
use Rattle.dpl_cert.specs.declared.cert.PlaceLine.{PlaceLine}
use Rattle.dpl_cert.specs.declared.cert.StitchLine.{StitchLine}
use Rattle.dpl_answer.specs.Flat.{Clash, IsClashOfCut, IsPaintedCut, Painted}
use Rattle.dpl_view.specs.declared.stitches.Seams.TheVariants.{Conflict, Stitches}
use Rattle.dpl_view.specs.Stitches.{AreSeams}
use Rattle.std.specs.Prelude.{false, None, List}
use Rattle.dpl_spec_fewer.proofs.Painting.{plain-masks}

pub no_seams : (spacing : Spacing) (overlap : ℕ) (cut : Cut) (x : Clash) (count : ℕ) → IsClashOfCut None spacing overlap cut x → count ≡ length x.cycle
    → AreSeams spacing cut (Conflict count)
no_seams spacing overlap cut x count h is = (h.cycle, (h.odd, h.reported), is ∙ (ap (λ (xs : List PlaceLine). length xs) h.places ∙ simp length-map))

-- a cut with masks has the stitches of these
pub some_seams : (spacing : Spacing) (overlap : ℕ) (cut : Cut) (p : Painted) (found : List StitchLine) → IsPaintedCut false None spacing overlap cut p → found ≡ p.stitches
    → AreSeams spacing cut (Stitches found)
some_seams spacing overlap cut p found h is =
    (h.masks, (h.even, (plain-masks None spacing cut h.masks).0 h.are_masks), is ∙ ap (λ (q : Painted). q.stitches) h.is)
