-- The names of faults in certificates, each with where the fault stands.
use Rattle.std.specs.Prelude.{ℕ, Option, Some, None}
use Rattle.dpl_spec_format.specs.Faults.{Fault, truncated, bad_length, unknown_record, bad_data_type, bad_size, unexpected, bad_name, duplicate_structure}
use Rattle.dpl_spec_elements.specs.declared.PathFault.{PathFault}
use Rattle.dpl_spec_elements.specs.declared.PathFault.TheVariants as path
use Rattle.dpl_spec_layout.specs.declared.ElementFault.{ElementFault}
use Rattle.dpl_spec_layout.specs.declared.ElementFault.TheVariants as element
use Rattle.dpl_spec_layout.specs.declared.TopFault.{TopFault}
use Rattle.dpl_spec_layout.specs.declared.TopFault.TheVariants as top
use Rattle.dpl_spec_layout.specs.declared.FlattenFault.{FlattenFault}
use Rattle.dpl_spec_layout.specs.declared.FlattenFault.TheVariants as flatten
use Rattle.dpl_cert.specs.declared.name.Name.{Name}
use Rattle.dpl_cert.specs.declared.name.Name.TheVariants as name

abbrev pub syntax_name : Fault → Name × ℕ
syntax_name (truncated at) = (name.Truncated, at)
syntax_name (bad_length at) = (name.BadLength, at)
syntax_name (unknown_record at) = (name.UnknownRecord, at)
syntax_name (bad_data_type at) = (name.BadDataType, at)
syntax_name (bad_size at) = (name.BadSize, at)
syntax_name (unexpected at) = (name.Unexpected, at)
syntax_name (bad_name at) = (name.BadName, at)
syntax_name (duplicate_structure at) = (name.DuplicateStructure, at)

-- where there is no top, 0; where there are several, how many
abbrev pub top_name : TopFault → Option (Name × ℕ)
top_name top.NoMemory = None
top_name top.NoTop = Some (name.NoTop, 0)
top_name (top.ManyTops count) = Some (name.ManyTops, count)

abbrev pub path_name : PathFault → Name
path_name path.RoundPath = name.RoundPath
path_name path.BadPathType = name.BadPathType
path_name path.OddWidth = name.OddWidth
path_name path.SlantedPath = name.SlantedPath
path_name path.PathTurnsBack = name.PathTurnsBack
path_name path.NegativeExtension = name.NegativeExtension

abbrev pub element_name : ElementFault → Name
element_name element.AbsoluteTransform = name.AbsoluteTransform
element_name element.Magnified = name.Magnified
element_name element.AngleNotRight = name.AngleNotRight
element_name element.BadArray = name.BadArray
element_name element.SlantedBoundary = name.SlantedBoundary
element_name (element.Path f) = path_name f

-- too many points stand nowhere
abbrev pub flatten_name : FlattenFault → Option (Name × ℕ)
flatten_name flatten.NoMemory = None
flatten_name (flatten.MissingStructure at) = Some (name.MissingStructure, at)
flatten_name (flatten.Recursion at) = Some (name.Recursion, at)
flatten_name (flatten.Element at fault) = Some (element_name fault, at)
flatten_name flatten.TooManyPoints = Some (name.TooManyPoints, 0)
flatten_name (flatten.OutOfRange at) = Some (name.OutOfRange, at)
