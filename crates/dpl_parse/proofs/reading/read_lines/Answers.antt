use Rattle.std.proofs.Common.{List, ℕ, sym, subst}
use Rattle.dpl_cert.specs.Lines.{lines}
use Rattle.dpl_parse.specs.Reading.{IsFirstBad}
use Rattle.dpl_parse.proofs.Openings.{no_version, no_second}
use Rattle.dpl_parse.proofs.reading.read_lines.Goals as goal

pub returns-in_default : goal.returns-in_default
returns-in_default c = no_version (lines c.args.bytes.now) (λ v t e. c.in_default.ensures.none v t tt e)

pub returns-in_default-second_of : goal.returns-in_default-second_of
returns-in_default-second_of c =
    subst (λ (ls : List (List ℕ)). IsFirstBad ls 2) (sym c.in-Some.ensures.found.1)
    (no_second c.in-Some.version (lines c.in-Some.rest.now) (λ x t f g e. c.in_default-second_of.ensures.none x t f g e))
