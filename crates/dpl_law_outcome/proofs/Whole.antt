-- A whole file: six records, one boundary for each shape, and the end.
use Rattle.std.proofs.Common.{◌≡◌, ℕ, ◌+◌, ◌<◌, ◌≤◌, Bool, true, false, cond, eqb, List, [], ◌∷◌, ◌++◌, length, Result, Ok, Err, refl, sym, subst, ap, ◌∙◌, append_assoc, arith}
use Rattle.std.specs.Prelude.{nat_eq}
use Rattle.std.specs.List.{Contains, list_any}
use Rattle.std.specs.Cmp.Lexicographic.{pointwise}
use Rattle.std.proofs.lemmas.List.{length-append, append-nil}
use Rattle.dpl_spec_format.specs.Kinds as kinds
use Rattle.dpl_spec_format.specs.Faults.{Fault, bad_name, duplicate_structure}
use Rattle.dpl_spec_format.specs.Fields.{name_of}
use Rattle.dpl_spec_format.specs.Grammar as grammar
use Rattle.dpl_spec_format.specs.Grammar.{a, both, many}
use Rattle.dpl_spec_format.specs.Records.{Record, record_at}
use Rattle.dpl_spec_format.specs.Table.{form_of, table}
use Rattle.dpl_spec_format.specs.Stream.{is_empty}
use Rattle.dpl_spec_format.specs.Tree as tree
use Rattle.dpl_spec_format.specs.Layout.{Holds}
use Rattle.dpl_masks.specs.Bytes.{closing_bytes, boundary_bytes}
use Rattle.dpl_syntax.specs.Reading as reading
use Rattle.dpl_syntax.specs.Reading.{◌>>=◌}
use Rattle.dpl_syntax.specs.Passing.{Passes, PassesPart, PassesNamed, is_part, same, class_first, elements_first, endstr_first}
use Rattle.dpl_syntax.specs.Passing.{structure_then, structures_first, endlib_first, IsNext, IsStructure, AreElements, AreStructures, AreTakenElements}
use Rattle.dpl_syntax.proofs.Languages.{ends_many, exists_rest}
use Rattle.dpl_syntax.proofs.Steps.{agreed}
use Rattle.dpl_syntax.proofs.Taking.{same_record}
use Rattle.dpl_syntax.proofs.Lists.{avoids_a}
use Rattle.dpl_syntax.proofs.Ends.{passes_none}
use Rattle.dpl_syntax.proofs.Heads.{no_skips, skips_done, part_ok}
use Rattle.dpl_syntax.proofs.ElementLists.{no_elements, class_done, elements_done}
use Rattle.dpl_syntax.proofs.WholeStructures.{structure_ok, inside}
use Rattle.dpl_syntax.proofs.StructureLists.{no_structure, structures_more}
use Rattle.dpl_syntax.proofs.WholeLibraries.{holds}
use Rattle.dpl_law_outcome.proofs.Moving.{built-of}
use Rattle.dpl_law_outcome.proofs.Putting.{IsRecord, rec, put}
use Rattle.dpl_law_outcome.proofs.Layers.{Shape, elements_from}
use Rattle.dpl_law_outcome.proofs.Boundaries.{takes, leaves, w1, found-1, shapes_bytes, read-shapes}

abbrev e1 : List ℕ
e1 = 0 ∷ 4 ∷ 7 ∷ 0 ∷ []

abbrev e2 : List ℕ
e2 = 0 ∷ 4 ∷ 4 ∷ 0 ∷ []

is-e1 : IsRecord e1 kinds.endstr []
unfolding record_at form_of table
is-e1 = refl

is-e2 : IsRecord e2 kinds.endlib []
unfolding record_at form_of table
is-e2 = refl

-- a record has at least four bytes
pub four : (w : List ℕ) (kind : ℕ) (body : List ℕ) → IsRecord w kind body → 4 ≤ length w
four w kind body e = (let b = built-of w 0 (record { at = 0; next = length w; kind = kind; body = body }) e in let l = b.long in let f = b.fits in omega (arith, l, f))

seven : (h b l u g n x : List ℕ) → (h ++ (b ++ (l ++ (u ++ (g ++ n))))) ++ x ≡ h ++ (b ++ (l ++ (u ++ (g ++ (n ++ x)))))
seven h b l u g n x = simp append_assoc

-- a part of the head, with nothing passed over behind it
part-read : (out : List ℕ) (kind at : ℕ) (r next : Record) → is_part kind ≡ true → record_at out at ≡ Ok r → eqb r.kind kind ≡ true
    → record_at out r.next ≡ Ok next → kinds.is_skipped next.kind ≡ false → PassesPart out kind r at r.next
part-read out kind at r next part found is behind kept =
    part_ok out kind at part (r, r.next) (takes out kind at r found is) r.next (skips_done out r.next r.next (no_skips out r.next) (next, behind, kept))

-- what stands behind STRNAME is no class
first-element : (out pre post : List ℕ) (ss : List Shape) (r : Record) → ((s : Shape) → Contains ss s → s.layer < 65536)
    → out ≡ pre ++ (shapes_bytes ss ++ post) → (ss ≡ [] → (record_at out (length pre) ≡ Ok r) × (eqb r.kind kinds.structure_class ≡ false))
    → (q : Record) × (record_at out (length pre) ≡ Ok q) × (eqb q.kind kinds.structure_class ≡ false)
first-element out pre post [] r fits is none = (r, (none refl).0, (none refl).1)
first-element out pre post (s ∷ ss) r fits is none =
    let here : out ≡ pre ++ (boundary_bytes s.layer s.rect ++ (shapes_bytes ss ++ post)) = is
    ∙ ap (λ x. pre ++ x) (append_assoc (boundary_bytes s.layer s.rect) (shapes_bytes ss) post) in
    (rec pre w1 kinds.boundary [], found-1 out pre (shapes_bytes ss ++ post) s (fits s (0, omega arith, refl)) here, refl)

-- the end of the structures
structures-end : (out : List ℕ) (from at : ℕ) (ss : List tree.Structure) (other : Record)
    → PassesNamed out [] structures_first structures_first (AreStructures out ss) from at → record_at out at ≡ Ok other
    → eqb other.kind kinds.bgnstr ≡ false
    → PassesNamed out [] structures_first endlib_first (AreStructures out ss) from at
structures-end out from at ss other so_far found isnt before rest named reached =
    let p = so_far before rest named reached in (
      p.0,
      p.1,
      agreed out (before ++ p.0) at (structures_first rest) (endlib_first rest) p.2
          (λ x there. ends_many grammar.structure (a kinds.endlib) x.kind
          (avoids_a kinds.bgnstr x.kind inside (subst (λ (y : Record). eqb y.kind kinds.bgnstr ≡ false)
          (same_record (record_at out at) other x found there) isnt)))
          (exists_rest (many grammar.structure) (a kinds.endlib) p.2.some),
    )

module _ (h b l u g n hb bb lb ub gb nb : List ℕ) (is_h : IsRecord h kinds.header hb) (is_b : IsRecord b kinds.bgnlib bb)
    (is_l : IsRecord l kinds.libname lb) (is_u : IsRecord u kinds.units ub) (is_g : IsRecord g kinds.bgnstr gb)
    (is_n : IsRecord n kinds.strname nb) (named : is_empty (name_of nb) ≡ false) (ss : List Shape) (fits : (s : Shape) → Contains ss s
    → s.layer < 65536) where
  abbrev pub whole_file : List ℕ
  whole_file = (h ++ (b ++ (l ++ (u ++ (g ++ n))))) ++ (shapes_bytes ss ++ closing_bytes)

  abbrev p2 : List ℕ
  p2 = h ++ b

  abbrev p3 : List ℕ
  p3 = p2 ++ l

  abbrev p4 : List ℕ
  p4 = p3 ++ u

  abbrev p5 : List ℕ
  p5 = p4 ++ g

  abbrev p6 : List ℕ
  p6 = p5 ++ n

  abbrev p7 : List ℕ
  p7 = p6 ++ shapes_bytes ss

  abbrev p8 : List ℕ
  p8 = p7 ++ e1

  abbrev r6 : List ℕ
  r6 = shapes_bytes ss ++ (e1 ++ (e2 ++ []))

  out-1 : whole_file ≡ [] ++ (h ++ (b ++ (l ++ (u ++ (g ++ (n ++ r6))))))
  out-1 = seven h b l u g n (shapes_bytes ss ++ closing_bytes)

  out-2 : whole_file ≡ h ++ (b ++ (l ++ (u ++ (g ++ (n ++ r6)))))
  out-2 = out-1

  out-3 : whole_file ≡ p2 ++ (l ++ (u ++ (g ++ (n ++ r6))))
  out-3 = out-2 ∙ sym (append_assoc h b (l ++ (u ++ (g ++ (n ++ r6)))))

  out-4 : whole_file ≡ p3 ++ (u ++ (g ++ (n ++ r6)))
  out-4 = out-3 ∙ sym (append_assoc p2 l (u ++ (g ++ (n ++ r6))))

  out-5 : whole_file ≡ p4 ++ (g ++ (n ++ r6))
  out-5 = out-4 ∙ sym (append_assoc p3 u (g ++ (n ++ r6)))

  out-6 : whole_file ≡ p5 ++ (n ++ r6)
  out-6 = out-5 ∙ sym (append_assoc p4 g (n ++ r6))

  out-7 : whole_file ≡ p6 ++ r6
  out-7 = out-6 ∙ sym (append_assoc p5 n r6)

  out-8 : whole_file ≡ p7 ++ (e1 ++ (e2 ++ []))
  out-8 = out-7 ∙ sym (append_assoc p6 (shapes_bytes ss) (e1 ++ (e2 ++ [])))

  out-9 : whole_file ≡ p8 ++ (e2 ++ [])
  out-9 = out-8 ∙ sym (append_assoc p7 e1 (e2 ++ []))

  found-h : record_at whole_file 0 ≡ Ok (rec [] h kinds.header hb)
  found-h = put whole_file [] h (b ++ (l ++ (u ++ (g ++ (n ++ r6))))) kinds.header hb out-1 is_h

  found-b : record_at whole_file (length h) ≡ Ok (rec h b kinds.bgnlib bb)
  found-b = put whole_file h b (l ++ (u ++ (g ++ (n ++ r6)))) kinds.bgnlib bb out-2 is_b

  found-l : record_at whole_file (length p2) ≡ Ok (rec p2 l kinds.libname lb)
  found-l = put whole_file p2 l (u ++ (g ++ (n ++ r6))) kinds.libname lb out-3 is_l

  found-u : record_at whole_file (length p3) ≡ Ok (rec p3 u kinds.units ub)
  found-u = put whole_file p3 u (g ++ (n ++ r6)) kinds.units ub out-4 is_u

  found-g : record_at whole_file (length p4) ≡ Ok (rec p4 g kinds.bgnstr gb)
  found-g = put whole_file p4 g (n ++ r6) kinds.bgnstr gb out-5 is_g

  found-n : record_at whole_file (length p5) ≡ Ok (rec p5 n kinds.strname nb)
  found-n = put whole_file p5 n r6 kinds.strname nb out-6 is_n

  found-e1 : record_at whole_file (length p7) ≡ Ok (rec p7 e1 kinds.endstr [])
  found-e1 = put whole_file p7 e1 (e2 ++ []) kinds.endstr [] out-8 is-e1

  found-e2 : record_at whole_file (length p8) ≡ Ok (rec p8 e2 kinds.endlib [])
  found-e2 = put whole_file p8 e2 [] kinds.endlib [] out-9 is-e2

  header : reading.take whole_file kinds.header 0 ≡ Ok (rec [] h kinds.header hb, length h)
  header = takes whole_file kinds.header 0 (rec [] h kinds.header hb) found-h refl

  bgnlib : PassesPart whole_file kinds.bgnlib (rec h b kinds.bgnlib bb) (length h) (length p2)
  bgnlib = part-read whole_file kinds.bgnlib (length h) (rec h b kinds.bgnlib bb) (rec p2 l kinds.libname lb) refl found-b refl found-l refl

  libname : PassesPart whole_file kinds.libname (rec p2 l kinds.libname lb) (length p2) (length p3)
  libname = part-read whole_file kinds.libname (length p2) (rec p2 l kinds.libname lb) (rec p3 u kinds.units ub) refl found-l refl found-u refl

  units : PassesPart whole_file kinds.units (rec p3 u kinds.units ub) (length p3) (length p4)
  units = part-read whole_file kinds.units (length p3) (rec p3 u kinds.units ub) (rec p4 g kinds.bgnstr gb) refl found-u refl found-g refl

  strname : reading.take_strname whole_file [] (length p5) ≡ Ok (rec p5 n kinds.strname nb, length p6)
  strname =
      ap (λ (x : Result (Record × ℕ) Fault). x >>= (λ r. cond (is_empty (name_of r.0.body)) (Err (bad_name r.0.at))
      (cond (list_any (pointwise nat_eq (name_of r.0.body)) []) (Err (duplicate_structure r.0.at)) (Ok r))))
      (takes whole_file kinds.strname (length p5) (rec p5 n kinds.strname nb) found-n refl)
      ∙ ap (λ (x : Bool). cond x (Err (bad_name (length p5))) (Ok (rec p5 n kinds.strname nb, length p6))) named

  classes : Passes whole_file class_first elements_first (AreElements []) (length p6) (length p6)
  classes =
      let (q, found, isnt) = first-element whole_file p6 (e1 ++ (e2 ++ [])) ss (rec p7 e1 kinds.endstr []) fits out-7
      (λ none. (ap (λ x. record_at whole_file (length x)) (sym (ap (λ x. p6 ++ shapes_bytes x) none ∙ append-nil p6)) ∙ found-e1, refl))
      in
      class_done whole_file (length p6) (length p6) (length p6) (passes_none whole_file class_first (AreElements [])
      (length p6) no_elements) (leaves whole_file kinds.structure_class (length p6) q found isnt)

  elements : Passes whole_file elements_first endstr_first (AreElements (elements_from (length p6) ss)) (length p6) (length p7)
  elements =
      elements_done whole_file (length p6) (length p7) (elements_from (length p6) ss)
      (read-shapes whole_file p6 (e1 ++ (e2 ++ [])) ss (length p6) [] fits out-7 (passes_none whole_file elements_first (AreElements []) (length p6) no_elements))
      (rec p7 e1 kinds.endstr [], found-e1, refl)

  abbrev pub top_made : tree.Structure
  top_made = record {
    at = length p4;
    bgnstr = tree.whole whole_file (rec p4 g kinds.bgnstr gb);
    strname = tree.whole whole_file
        (rec p5 n kinds.strname nb);
    name = name_of nb;
    elements = elements_from (length p6) ss;
  }

  taken-elements : AreTakenElements whole_file (elements_from (length p6) ss) (length p6) (length p8)
  taken-elements = record {
    first = length p6;
    end = length p7;
    endstr = rec p7 e1 kinds.endstr [];
    classes = classes;
    elements = elements;
    ends = takes whole_file kinds.endstr (length p7) (rec p7 e1 kinds.endstr []) found-e1 refl;
  }

  one-structure : PassesNamed whole_file [] structure_then same (IsStructure whole_file top_made) (length p4) (length p8)
  one-structure =
      structure_ok whole_file (length p4) (rec p4 g kinds.bgnstr gb) [] found-g refl (rec p5 n kinds.strname nb, length p6) strname
      (length p8) (elements_from (length p6) ss) taken-elements

  next-g : IsNext whole_file (length p4) kinds.bgnstr (rec p4 g kinds.bgnstr gb)
  next-g =
      let size = length-append p4 g in
      let all : length whole_file ≡ length p5 + length (n ++ r6) = ap length out-6 ∙ length-append p5 (n ++ r6) in
      let long = four g kinds.bgnstr gb is_g in
      record { found = found-g; at_is = refl; after = omega (arith, size, long); within = omega (arith, all); is = refl }

  structures : PassesNamed whole_file [] structures_first endlib_first (AreStructures whole_file (top_made ∷ [])) (length p4) (length p8)
  structures =
      structures-end whole_file (length p4) (length p8) (top_made ∷ []) (rec p8 e2 kinds.endlib [])
      (structures_more whole_file (length p4) (length p4) [] (no_structure whole_file (length p4)) (length p8) (rec p4 g kinds.bgnstr gb) top_made next-g one-structure)
      found-e2 refl

  abbrev pub library_made : tree.Library
  library_made = record {
    header = tree.whole whole_file (rec [] h kinds.header hb);
    bgnlib = tree.whole whole_file (rec h b kinds.bgnlib bb);
    libname = tree.whole whole_file (rec p2 l kinds.libname lb);
    units = tree.whole whole_file (rec p3 u kinds.units ub);
    structures = top_made ∷ [];
  }

  pub file-holds : Holds whole_file library_made
  file-holds =
      holds whole_file (rec [] h kinds.header hb, length h) header (rec h b kinds.bgnlib bb) (length p2) bgnlib (rec p2 l kinds.libname lb)
      (length p3) libname (rec p3 u kinds.units ub) (length p4) units (top_made ∷ []) (length p8) structures
      (rec p8 e2 kinds.endlib [], length (p8 ++ e2)) (takes whole_file kinds.endlib (length p8) (rec p8 e2 kinds.endlib []) found-e2 refl)
