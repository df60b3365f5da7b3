-- A library without where its parts lie in memory.
use Rattle.std.specs.Prelude.{ℕ, List, map, All}
use Rattle.std.specs.Borrow.{Bor}
use Rattle.dpl_spec_format.specs.Tree as tree
use Rattle.dpl_syntax.specs.declared.library.Structure.{Structure}
use Rattle.dpl_syntax.specs.declared.library.Library.TheInside.{Inside}
use Rattle.dpl_syntax.specs.Elements.{element_seen, IsSized}

abbrev pub structure_seen : List ℕ → Structure → tree.Structure
structure_seen name s = record {
  at = s.at;
  bgnstr = s.bgnstr.now;
  strname = s.strname.now;
  name = name;
  elements = map element_seen s.elements.items;
}

abbrev pub library_seen : Inside → tree.Library
library_seen l = record {
  header = l.header.now;
  bgnlib = l.bgnlib.now;
  libname = l.libname.now;
  units = l.units.now;
  structures = map (λ e. structure_seen e.0.now e.1) l.structures.entries;
}

-- the elements of each structure have their points
abbrev pub IsSizedEach : List (Bor (List ℕ) × Structure) → Type 0
IsSizedEach entries = All (λ e. All IsSized e.1.elements.items) entries

abbrev pub Entries : Type 0
Entries = List (Bor (List ℕ) × Structure)

-- the structures that are known, and their names
abbrev pub structures_seen : Entries → List tree.Structure
structures_seen entries = map (λ e. structure_seen e.0.now e.1) entries

abbrev pub known_names : Entries → List (List ℕ)
known_names entries = map (λ e. e.0.now) entries
