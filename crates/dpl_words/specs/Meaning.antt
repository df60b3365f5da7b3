-- What the words of a command line mean.
use Rattle.std.specs.Prelude.{◌^◌, ◌&&◌, ◌==◌, ℕ, Bool, false, not, List, Option, Some, None, if◌then◌else◌, nat_lt, codes, option_map}
use Rattle.std.specs.Prelude.{[], ◌++◌, unwrap_or, map, length, count_by}
use Rattle.std.specs.List.{list_all}
use Rattle.std.specs.Fmt.{decimal}
use Rattle.std.specs.Str.{bytes_eq}
use Rattle.std.specs.Str.Parse.{digits_value, without_leading_plus}
use Rattle.clap.specs.ValueTests.{is_numeral}
use Rattle.clap.specs.Walk.{Row, Text, is_empty, first_of, many_of, one_of}
use Rattle.clap.specs.Simple.{subcommand_of}
use Rattle.clap.specs.Faults.{fault_of}
use Rattle.dpl_words.specs.Definition.{dpl_app}
use Rattle.dpl_words.specs.declared.values.SplitOptions.{SplitOptions}
use Rattle.dpl_words.specs.declared.values.CheckOptions.{CheckOptions}
use Rattle.dpl_words.specs.declared.values.DemoOptions.{DemoOptions}
use Rattle.dpl_words.specs.declared.values.BatchOptions.{BatchOptions}
use Rattle.dpl_words.specs.declared.values.EditOptions.{EditOptions}
use Rattle.dpl_words.specs.declared.values.Request.{Request}
use Rattle.dpl_words.specs.declared.values.Request.TheVariants.{Split, Check, Demo, Batch, Edit}

-- what a command line of `split` says
pub record SplitValues : Type 0 where
  pub layer : ℕ
  pub datatype : ℕ
  pub rule : ℕ
  pub overlap : ℕ
  pub corner : ℕ
  pub top : Option Text
  pub a : ℕ
  pub b : ℕ
  pub mark_a : Option ℕ
  pub mark_b : Option ℕ
  pub tile : ℕ
  pub workers : ℕ
  pub fewer : Bool
  pub input : Text
  pub output : Text
  pub certificate : Text

-- what a command line of `check` says
pub record CheckValues : Type 0 where
  pub layer : ℕ
  pub datatype : ℕ
  pub rule : ℕ
  pub overlap : ℕ
  pub corner : ℕ
  pub top : Option Text
  pub a : ℕ
  pub b : ℕ
  pub mark_a : Option ℕ
  pub mark_b : Option ℕ
  pub input : Text
  pub output : Text
  pub certificate : Text

-- what a command line of `demo` says
pub record DemoValues : Type 0 where
  pub seed : ℕ
  pub rows : ℕ
  pub tile : ℕ
  pub workers : ℕ

-- what a command line of `batch` says
pub record BatchValues : Type 0 where
  pub datatype : ℕ
  pub rule : ℕ
  pub overlap : ℕ
  pub corner : ℕ
  pub top : Option Text
  pub a : ℕ
  pub b : ℕ
  pub tile : ℕ
  pub workers : ℕ
  pub input : Text
  pub prefix : Text
  pub layers : List ℕ

-- what a command line of `edit` says
pub record EditValues : Type 0 where
  pub layer : ℕ
  pub datatype : ℕ
  pub rule : ℕ
  pub overlap : ℕ
  pub corner : ℕ
  pub top : Option Text
  pub a : ℕ
  pub b : ℕ
  pub tile : ℕ
  pub input : Text
  pub edits : Text
  pub output : Text
  pub certificate : Text

pub data RequestValues : Type 0 where
  AsksSplit : SplitValues → RequestValues
  AsksCheck : CheckValues → RequestValues
  AsksDemo : DemoValues → RequestValues
  AsksBatch : BatchValues → RequestValues
  AsksEdit : EditValues → RequestValues

-- the number below 2 ^ k that a text writes, with a plus before it or not
abbrev pub number_below : ℕ → Text → Option ℕ
number_below k text = let digits = without_leading_plus text in
    if is_numeral digits && nat_lt (digits_value 10 digits) (2 ^ k) then Some (digits_value 10 digits) else None

infixl 10 ◌>>=◌
abbrev pub ◌>>=◌ : {A B : Type 0} → Option A → (A → Option B) → Option B
None >>= f = None
(Some x) >>= f = f x

-- the number of an option, where it is there
abbrev pub number_at : ℕ → Text → List Row → Option ℕ
number_at k id rows = one_of id rows >>= number_below k

-- the number of an option, and the text of an argument, of which `clap` has seen that they are there
abbrev pub number_in : ℕ → Text → List Row → ℕ
number_in k id rows = unwrap_or (number_at k id rows) 0

abbrev pub text_in : Text → List Row → Text
text_in id rows = unwrap_or (first_of id rows) []

-- the numbers of an argument that may be given more than once, in order
abbrev pub numbers_in : ℕ → Text → List Row → List ℕ
numbers_in k id rows = map (λ t. unwrap_or (number_below k t) 0) (unwrap_or (many_of id rows) [])

-- the corner rule is the rule, where it isn't given
abbrev pub corner_in : List Row → ℕ
corner_in rows = unwrap_or (number_at 32 (codes "corner") rows) (number_in 32 (codes "rule") rows)

-- a flag's text says that it is given
abbrev pub says_given : Option Text → Bool
says_given None = false
says_given (Some text) = bytes_eq text (codes "true")

-- a flag is given
abbrev pub flag_in : Text → List Row → Bool
flag_in id rows = says_given (one_of id rows)

-- the values of `split` among the entries that `clap` finds
abbrev pub split_values : List Row → SplitValues
split_values rows = record {
  layer = number_in 16 (codes "layer") rows;
  datatype = number_in 16 (codes "datatype") rows;
  rule = number_in 32 (codes "rule") rows;
  overlap = number_in 32 (codes "overlap") rows;
  corner = corner_in rows;
  top = first_of (codes "top") rows;
  a = number_in 16 (codes "a") rows;
  b = number_in 16 (codes "b") rows;
  mark_a = number_at 16 (codes "mark-a") rows;
  mark_b = number_at 16 (codes "mark-b") rows;
  tile = number_in 32 (codes "tile") rows;
  workers = number_in 32 (codes "workers") rows;
  fewer = flag_in (codes "fewer") rows;
  input = text_in (codes "in") rows;
  output = text_in (codes "out") rows;
  certificate = text_in (codes "cert") rows;
}

-- the values of `check`
abbrev pub check_values : List Row → CheckValues
check_values rows = record {
  layer = number_in 16 (codes "layer") rows;
  datatype = number_in 16 (codes "datatype") rows;
  rule = number_in 32 (codes "rule") rows;
  overlap = number_in 32 (codes "overlap") rows;
  corner = corner_in rows;
  top = first_of (codes "top") rows;
  a = number_in 16 (codes "a") rows;
  b = number_in 16 (codes "b") rows;
  mark_a = number_at 16 (codes "mark-a") rows;
  mark_b = number_at 16 (codes "mark-b") rows;
  input = text_in (codes "in") rows;
  output = text_in (codes "out") rows;
  certificate = text_in (codes "cert") rows;
}

-- the values of `demo`
abbrev pub demo_values : List Row → DemoValues
demo_values rows = record {
  seed = number_in 64 (codes "seed") rows;
  rows = number_in 32 (codes "rows") rows;
  tile = number_in 32 (codes "tile") rows;
  workers = number_in 32 (codes "workers") rows;
}

-- the values of `batch`
abbrev pub batch_values : List Row → BatchValues
batch_values rows = record {
  datatype = number_in 16 (codes "datatype") rows;
  rule = number_in 32 (codes "rule") rows;
  overlap = number_in 32 (codes "overlap") rows;
  corner = corner_in rows;
  top = first_of (codes "top") rows;
  a = number_in 16 (codes "a") rows;
  b = number_in 16 (codes "b") rows;
  tile = number_in 32 (codes "tile") rows;
  workers = number_in 32 (codes "workers") rows;
  input = text_in (codes "in") rows;
  prefix = text_in (codes "prefix") rows;
  layers = numbers_in 16 (codes "layer") rows;
}

-- the values of `edit`
abbrev pub edit_values : List Row → EditValues
edit_values rows = record {
  layer = number_in 16 (codes "layer") rows;
  datatype = number_in 16 (codes "datatype") rows;
  rule = number_in 32 (codes "rule") rows;
  overlap = number_in 32 (codes "overlap") rows;
  corner = corner_in rows;
  top = first_of (codes "top") rows;
  a = number_in 16 (codes "a") rows;
  b = number_in 16 (codes "b") rows;
  tile = number_in 32 (codes "tile") rows;
  input = text_in (codes "in") rows;
  edits = text_in (codes "edits") rows;
  output = text_in (codes "out") rows;
  certificate = text_in (codes "cert") rows;
}

-- `clap` takes the words
abbrev pub is_taken : List Text → Bool
is_taken words = is_empty (fault_of dpl_app words)

-- both masks have layers of their own, and each file a name of its own
abbrev pub is_apart : ℕ → ℕ → Text → Text → Text → Bool
is_apart a b input output certificate = not (a == b) && (not (bytes_eq input output) && (not (bytes_eq input certificate) && not (bytes_eq output certificate)))

-- and the corner rule isn't above the rule
abbrev pub split_if_sound : SplitValues → Option RequestValues
split_if_sound v = if is_apart v.a v.b v.input v.output v.certificate && not (nat_lt v.rule v.corner) then Some (AsksSplit v) else None

abbrev pub check_if_sound : CheckValues → Option RequestValues
check_if_sound v = if is_apart v.a v.b v.input v.output v.certificate && not (nat_lt v.rule v.corner) then Some (AsksCheck v) else None

-- the files of a layer of `batch`: the prefix, the number of the layer, and what the file holds, with dots between
abbrev pub mask_name : Text → ℕ → Text
mask_name prefix layer = prefix ++ (codes "." ++ (decimal layer ++ codes ".gds"))

abbrev pub certificate_name : Text → ℕ → Text
certificate_name prefix layer = prefix ++ (codes "." ++ (decimal layer ++ codes ".cert"))

-- each number stands once
abbrev pub are_single : List ℕ → Bool
are_single numbers = list_all (λ n. count_by (λ m. m == n) numbers == 1) numbers

-- the file of this name isn't one of a layer's files
abbrev pub is_beside : Text → Text → ℕ → Bool
is_beside input prefix layer = not (bytes_eq input (mask_name prefix layer)) && not (bytes_eq input (certificate_name prefix layer))

-- both masks have layers of their own, each of at most 64 layers is named once, and IN isn't written
abbrev pub is_batch_apart : BatchValues → Bool
is_batch_apart v = not (v.a == v.b) && (not (nat_lt 64 (length v.layers)) && (are_single v.layers && list_all (is_beside v.input v.prefix) v.layers))

abbrev pub batch_if_sound : BatchValues → Option RequestValues
batch_if_sound v = if is_batch_apart v && not (nat_lt v.rule v.corner) then Some (AsksBatch v) else None

-- no two of four names are the same text
abbrev pub are_four_apart : Text → Text → Text → Text → Bool
are_four_apart s t u v =
    not (bytes_eq s t) && (not (bytes_eq s u) && (not (bytes_eq s v) && (not (bytes_eq t u) && (not (bytes_eq t v) && not (bytes_eq u v)))))

-- both masks of `edit` have layers of their own, and each of its four files a name of its own
abbrev pub is_edit_apart : EditValues → Bool
is_edit_apart v = not (v.a == v.b) && are_four_apart v.input v.edits v.output v.certificate

abbrev pub edit_if_sound : EditValues → Option RequestValues
edit_if_sound v = if is_edit_apart v && not (nat_lt v.rule v.corner) then Some (AsksEdit v) else None

-- what the entries of a subcommand ask for, by its name
abbrev pub asked_by : Text → List Row → Option RequestValues
asked_by name rows =
    if bytes_eq name (codes "split") then split_if_sound (split_values rows)
    else (if bytes_eq name (codes "check") then check_if_sound (check_values rows)
    else (if bytes_eq name (codes "demo") then Some (AsksDemo (demo_values rows))
    else (if bytes_eq name (codes "batch") then batch_if_sound (batch_values rows)
    else (if bytes_eq name (codes "edit") then edit_if_sound (edit_values rows) else None))))

-- what the entries of the subcommand that was met ask for
abbrev pub asked_of : Option (Text × List Row) → Option RequestValues
asked_of met = met >>= λ p. asked_by p.0 p.1

-- what the words ask for, and None where they are no command of the program's
unfoldable pub request_of : List Text → Option RequestValues
request_of words = if is_taken words then asked_of (subcommand_of dpl_app words) else None

abbrev pub split_view : SplitOptions → SplitValues
split_view s = record {
  layer = s.layer;
  datatype = s.datatype;
  rule = s.rule;
  overlap = s.overlap;
  corner = s.corner;
  top = option_map
      (λ t. t.now) s.top;
  a = s.a;
  b = s.b;
  mark_a = s.mark_a;
  mark_b = s.mark_b;
  tile = s.tile;
  workers = s.workers;
  fewer = s.fewer;
  input = s.input.now;
  output = s.output.now;
  certificate = s.certificate.now;
}

abbrev pub check_view : CheckOptions → CheckValues
check_view s = record {
  layer = s.layer;
  datatype = s.datatype;
  rule = s.rule;
  overlap = s.overlap;
  corner = s.corner;
  top = option_map
      (λ t. t.now) s.top;
  a = s.a;
  b = s.b;
  mark_a = s.mark_a;
  mark_b = s.mark_b;
  input = s.input.now;
  output = s.output.now;
  certificate = s.certificate.now;
}

abbrev pub demo_view : DemoOptions → DemoValues
demo_view s = record { seed = s.seed; rows = s.rows; tile = s.tile; workers = s.workers }

abbrev pub batch_view : BatchOptions → BatchValues
batch_view s = record {
  datatype = s.datatype;
  rule = s.rule;
  overlap = s.overlap;
  corner = s.corner;
  top = option_map
      (λ t. t.now) s.top;
  a = s.a;
  b = s.b;
  tile = s.tile;
  workers = s.workers;
  input = s.input.now;
  prefix = s.prefix.now;
  layers = s.layers.items;
}

abbrev pub edit_view : EditOptions → EditValues
edit_view s = record {
  layer = s.layer;
  datatype = s.datatype;
  rule = s.rule;
  overlap = s.overlap;
  corner = s.corner;
  top = option_map
      (λ t. t.now) s.top;
  a = s.a;
  b = s.b;
  tile = s.tile;
  input = s.input.now;
  edits = s.edits.now;
  output = s.output.now;
  certificate = s.certificate.now;
}

abbrev pub request_view : Request → RequestValues
request_view (Split s) = AsksSplit (split_view s)
request_view (Check s) = AsksCheck (check_view s)
request_view (Demo s) = AsksDemo (demo_view s)
request_view (Batch s) = AsksBatch (batch_view s)
request_view (Edit s) = AsksEdit (edit_view s)
