-- Letters of masks as truth values.
use Rattle.std.specs.Prelude.{Bool, false, true}
use Rattle.dpl_orient.specs.declared.mask.Mask.{Mask}
use Rattle.dpl_orient.specs.declared.mask.Mask.TheVariants.{A, B}

-- mask A is false, mask B is true
abbrev pub is_second : Mask → Bool
is_second A = false
is_second B = true
