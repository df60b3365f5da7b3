-- What command lines ask for.
use Rattle.std.specs.Prelude.{}
use Rattle.dpl_view_words.specs.declared.words.Request.{Request}
use Rattle.dpl_view_words.specs.declared.words.Request.TheVariants.{Conflicts, Stitches, Layers}
use Rattle.dpl_view.specs.Findings.{IsInRange}

-- each number of a request lies in its range
abbrev pub IsSound : Request → Type 0
IsSound (Conflicts o) = IsInRange o.order
IsSound (Stitches o) = IsInRange o.order
IsSound (Layers o) = Unit {0}
