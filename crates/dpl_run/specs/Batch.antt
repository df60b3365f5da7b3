-- What `batch` does with a file: for each layer what `split` does with it, whatever the other layers hold.
use Rattle.std.specs.Prelude.{◌≡◌, ℕ, false, List, Option, Some, None, map, nat_lt, if◌then◌else◌}
use Rattle.std.specs.List.{AllZip, flat_map, fold, zip}
use Rattle.dpl_words.specs.Meaning.{BatchValues, SplitValues, certificate_name, mask_name}
use Rattle.dpl_texts.specs.Texts.{layer_line}
use Rattle.dpl_run.specs.Outcome.{Outcome, code_of, silent}
use Rattle.dpl_run.specs.Split.{IsSplit}
use Rattle.dpl_run.specs.declared.status.Status.{Status}
use Rattle.dpl_run.specs.declared.status.Status.TheVariants.{Done, ReadFault}

-- the command line of `split` that asks for one of the layers, with the names of its files
abbrev pub split_of : BatchValues → ℕ → SplitValues
split_of v layer = record {
  layer = layer;
  datatype = v.datatype;
  rule = v.rule;
  overlap = v.overlap;
  corner = v.corner;
  top = v.top;
  a = v.a;
  b = v.b;
  mark_a = None;
  mark_b = None;
  tile = v.tile;
  workers = v.workers;
  fewer = false;
  input = v.input;
  output = mask_name v.prefix layer;
  certificate = certificate_name v.prefix layer;
}

-- the answer with the greatest code
abbrev pub greater : Status → Status → Status
greater s t = if nat_lt (code_of s) (code_of t) then t else s

abbrev pub greatest : List Status → Status
greatest statuses = fold greater Done statuses

-- The files of each layer are written, in the order of the layers, and then the line of each is said. The answer is the one with the greatest code.
abbrev pub together : List ℕ → List Outcome → Outcome
together layers xs = record {
  status = greatest (map (λ (x : Outcome). x.status) xs);
  writes = flat_map (λ (x : Outcome). x.writes) xs;
  line = flat_map (λ (p : ℕ × Outcome). layer_line p.0 p.1.line) (zip layers xs);
}

-- what is done with the bytes of the file
abbrev pub IsBatch : BatchValues → List ℕ → Outcome → Type 0
IsBatch v bytes x = (xs : List Outcome) × AllZip (λ layer y. IsSplit (split_of v layer) bytes y) v.layers xs × (x ≡ together v.layers xs)

-- what is done with the file, if it is there
abbrev pub IsBatchOf : BatchValues → Option (List ℕ) → Outcome → Type 0
IsBatchOf v None x = x ≡ silent ReadFault
IsBatchOf v (Some bytes) x = IsBatch v bytes x
