use Rattle.std.proofs.Common.{sym, ◌∙◌}
use Rattle.std.proofs.lemmas.Bool.{false≢true}
use Rattle.dpl_check.proofs.stitch.is_right.Goals as goal

pub returns-then-is_met : goal.returns-then-is_met
returns-then-is_met c = (λ test. absurd (false≢true test), λ right. absurd (right.on (rw c.of.ensures at (c.is_met.ensures.0 c.if-is_met.true))))

pub returns-then-not-is_long : goal.returns-then-not-is_long
returns-then-not-is_long c = (λ test. absurd (false≢true test), λ right. absurd (false≢true (sym c.if-not-is_long.true ∙ c.is_long.ensures.1 right.long)))

pub returns : goal.returns
returns c =
    let off = rw c.of.ensures at c.is_met.ensures in (
      λ test. record {
        on = λ met. false≢true (sym c.if-is_met.false ∙ off.1 met);
        long = c.is_long.ensures.0 c.if-not-is_long.false;
        parted = c.are_parted.ensures.0 test;
      },
      λ right. c.are_parted.ensures.1 right.parted,
    )
