use Rattle.std.proofs.Common.{◌≡◌, length, get_or}
use Rattle.dpl_stars.proofs.TableLaws.{ArePlacesTo}
use Rattle.dpl_stars.proofs.table.filled.Given as goal

abbrev pub invariant-loop-place : goal.invariant-loop-place
invariant-loop-place l = (l.least ≡ get_or l.numbers 0 0) × (length l.places.items ≡ l.span) × ArePlacesTo l.numbers l.least l.places.items l.place
