-- The command line, as `clap` is told of it. A rule is clap's word for an argument, and a shape its word for a command.
use Rattle.std.specs.Prelude.{ℕ, true, false, pos, Some, List, [], ◌∷◌, codes, map}
use Rattle.clap.specs.Walk.{Rule, Text}
use Rattle.clap.specs.Simple.{App, Shape, new_rule, new_shape}
use Rattle.clap.specs.declared.builder.action.ArgAction.TheVariants.{Append, SetTrue}
use Rattle.clap.specs.declared.builder.value_parser.ValueParser.TheVariants as vp
use Rattle.dpl_words.specs.declared.definition.Argument.{Argument}
use Rattle.dpl_words.specs.declared.definition.Given.{Given}
use Rattle.dpl_words.specs.declared.definition.Given.TheVariants.{Required, Default, IfAny, ByPlace}
use Rattle.dpl_words.specs.declared.definition.Level.{Level}
use Rattle.dpl_words.specs.declared.definition.Values.{Values}
use Rattle.dpl_words.specs.declared.definition.Values.TheVariants as values

-- an option that must be given, with a whole number from low to high
abbrev pub required_number : Text → ℕ → ℕ → Rule
required_number id low high = record (new_rule id) {
  long = Some id;
  required = true;
  parser = Some (vp.Signed (pos low) (pos high));
}

-- an option that must be given, with any whole number of 64 bits
abbrev pub required_word : Text → Rule
required_word id = record (new_rule id) {
  long = Some id;
  required = true;
  parser = Some (vp.Unsigned 0 18446744073709551615);
}

-- an option with a whole number from low to high, and a default
abbrev pub optional_number : Text → ℕ → ℕ → Text → Rule
optional_number id low high default = record (new_rule id) {
  long = Some id;
  defaults = default ∷ [];
  parser = Some (vp.Signed (pos low) (pos high));
}

-- an option with a whole number from low to high, that may be left out
abbrev pub number_if_given : Text → ℕ → ℕ → Rule
number_if_given id low high = record (new_rule id) {
  long = Some id;
  parser = Some (vp.Signed (pos low) (pos high));
}

-- an option with a text
abbrev pub optional_text : Text → Rule
optional_text id = record (new_rule id) { long = Some id }

-- a flag, that may be left out
abbrev pub flag : Text → Rule
flag id = record (new_rule id) {
  long = Some id;
  action = Some SetTrue;
}

-- a name of a file, by its place
abbrev pub file_name : Text → Rule
file_name id = record (new_rule id) { required = true }

-- a whole number from low to high, by its place, that is given once or more
abbrev pub repeated_number : Text → ℕ → ℕ → Rule
repeated_number id low high = record (new_rule id) {
  action = Some Append;
  required = true;
  parser = Some (vp.Signed (pos low) (pos high));
}

-- an option of this name
abbrev pub new_option : Text → Rule
new_option id = record (new_rule id) { long = Some id }

-- the rule of an argument that is given so, with any value
abbrev pub rule_given : Given → Text → Rule
rule_given Required id = record (new_option id) { required = true }
rule_given (Default text) id = record (new_option id) { defaults = text.now ∷ [] }
rule_given IfAny id = new_option id
rule_given ByPlace id = record (new_rule id) { required = true }

-- the rule with these values
abbrev pub rule_reading : Values → Rule → Rule
rule_reading (values.Number low high) rule = record rule { parser = Some (vp.Signed (pos low) (pos high)) }
rule_reading values.Word rule = record rule { parser = Some (vp.Unsigned 0 18446744073709551615) }
rule_reading values.Text rule = rule
rule_reading values.Flag rule = record rule { action = Some SetTrue }
rule_reading (values.Numbers low high) rule = record rule {
  action = Some Append;
  parser = Some (vp.Signed (pos low) (pos high));
}

-- the rule of an argument
abbrev pub rule_for : Argument → Rule
rule_for a = rule_reading a.2 (rule_given a.1 a.0.now)

-- a command of this name, with these rules
abbrev pub shape_with : Text → List Rule → Shape
shape_with name rules = record (new_shape name) { rules = rules }

-- the shape of a subcommand
abbrev pub shape_for : Level → Shape
shape_for level = shape_with level.name.now (map rule_for level.arguments.now)

abbrev pub split_shape : Shape
split_shape = record (new_shape (codes "split")) {
  rules = required_number (codes "layer") 0 65535
      ∷ required_number (codes "rule") 1 1000000
      ∷ required_number (codes "overlap") 1 1000000
      ∷ number_if_given (codes "corner") 1 1000000
      ∷ optional_number (codes "datatype") 0 65535 (codes "0")
      ∷ optional_text (codes "top")
      ∷ optional_number (codes "a") 0 65535 (codes "101")
      ∷ optional_number (codes "b") 0 65535 (codes "102")
      ∷ number_if_given (codes "mark-a") 0 65535
      ∷ number_if_given (codes "mark-b") 0 65535
      ∷ optional_number (codes "tile") 1 1073741824 (codes "4096")
      ∷ optional_number (codes "workers") 1 64 (codes "4")
      ∷ flag (codes "fewer")
      ∷ file_name (codes "in") ∷ file_name (codes "out") ∷ file_name (codes "cert") ∷ [];
}

abbrev pub check_shape : Shape
check_shape = record (new_shape (codes "check")) {
  rules = required_number (codes "layer") 0 65535
      ∷ required_number (codes "rule") 1 1000000
      ∷ required_number (codes "overlap") 1 1000000
      ∷ number_if_given (codes "corner") 1 1000000
      ∷ optional_number (codes "datatype") 0 65535 (codes "0")
      ∷ optional_text (codes "top")
      ∷ optional_number (codes "a") 0 65535 (codes "101")
      ∷ optional_number (codes "b") 0 65535 (codes "102")
      ∷ number_if_given (codes "mark-a") 0 65535
      ∷ number_if_given (codes "mark-b") 0 65535
      ∷ file_name (codes "in") ∷ file_name (codes "out") ∷ file_name (codes "cert") ∷ [];
}

abbrev pub demo_shape : Shape
demo_shape = record (new_shape (codes "demo")) {
  rules = required_word (codes "seed")
      ∷ required_number (codes "rows") 1 1000000
      ∷ optional_number (codes "tile") 1 1073741824 (codes "4096")
      ∷ optional_number (codes "workers") 1 64 (codes "4") ∷ [];
}

abbrev pub batch_shape : Shape
batch_shape = record (new_shape (codes "batch")) {
  rules = required_number (codes "rule") 1 1000000
      ∷ required_number (codes "overlap") 1 1000000
      ∷ number_if_given (codes "corner") 1 1000000
      ∷ optional_number (codes "datatype") 0 65535 (codes "0")
      ∷ optional_text (codes "top")
      ∷ optional_number (codes "a") 0 65535 (codes "101")
      ∷ optional_number (codes "b") 0 65535 (codes "102")
      ∷ optional_number (codes "tile") 1 1073741824 (codes "4096")
      ∷ optional_number (codes "workers") 1 64 (codes "4")
      ∷ file_name (codes "in") ∷ file_name (codes "prefix") ∷ repeated_number (codes "layer") 0 65535 ∷ [];
}

abbrev pub edit_shape : Shape
edit_shape = record (new_shape (codes "edit")) {
  rules = required_number (codes "layer") 0 65535
      ∷ required_number (codes "rule") 1 1000000
      ∷ required_number (codes "overlap") 1 1000000
      ∷ number_if_given (codes "corner") 1 1000000
      ∷ optional_number (codes "datatype") 0 65535 (codes "0")
      ∷ optional_text (codes "top")
      ∷ optional_number (codes "a") 0 65535 (codes "101")
      ∷ optional_number (codes "b") 0 65535 (codes "102")
      ∷ optional_number (codes "tile") 1 1073741824 (codes "4096")
      ∷ file_name (codes "in") ∷ file_name (codes "edits") ∷ file_name (codes "out") ∷ file_name (codes "cert") ∷ [];
}

-- the program: a subcommand must be there, and nothing answers with help or a version
abbrev pub top_shape : Shape
top_shape = record (new_shape (codes "dpl")) {
  disable_help_flag = true;
  disable_help_subcommand = true;
  disable_version_flag = true;
  subcommand_required = true;
}

abbrev pub dpl_app : App
dpl_app = record {
  top = record top_shape { is_leaf = false };
  subs = split_shape ∷ check_shape ∷ demo_shape ∷ batch_shape ∷ edit_shape ∷ [];
}
