-- Reading a whole library.
use Rattle.std.proofs.Common.{◌≡◌, ℕ, Bool, false, cond, eqb, List, [], ◌∷◌, ◌++◌, map, Option, Some}
use Rattle.std.proofs.Common.{Ok, Err, refl, sym, subst, ap, ◌∙◌, append_assoc}
use Rattle.std.proofs.lemmas.Bool.{eqb-false, eq-eqb}
use Rattle.std.proofs.lemmas.List.{append-nil}
use Rattle.dpl_spec_format.specs.Kinds as kinds
use Rattle.dpl_spec_format.specs.Faults.{Fault}
use Rattle.dpl_spec_format.specs.Records.{Record, record_at, Lies}
use Rattle.dpl_spec_format.specs.Grammar.{Grammar, Has, many, a, library}
use Rattle.dpl_spec_format.specs.Grammar as grammar
use Rattle.dpl_spec_format.specs.Stream.{kinds_of, names, refusal_in}
use Rattle.dpl_spec_format.specs.Tree as tree
use Rattle.dpl_spec_format.specs.Tree.{first_of, structure_of}
use Rattle.dpl_spec_format.specs.Layout.{IsSound, IsFirstFault, Holds}
use Rattle.dpl_syntax.specs.Reading as reading
use Rattle.dpl_syntax.specs.Reached.{Reached}
use Rattle.dpl_syntax.specs.Passing.{skips_then, part_then, SkipsNone, AreSkipped, IsPart, PassesPart, FailsSkips, PassesNamed}
use Rattle.dpl_syntax.specs.Passing.{FailsNamed, structures_first, endlib_first, split_structures, AreStructures}
use Rattle.dpl_syntax.proofs.Languages.{Exists, exists_both, avoids_one, avoids_behind, avoids_many}
use Rattle.dpl_syntax.proofs.Steps.{lies_push, sound_push}
use Rattle.dpl_syntax.proofs.Taking.{took, take_ok, take_err}
use Rattle.dpl_syntax.proofs.Slotting.{names-append}
use Rattle.dpl_syntax.proofs.Lists.{avoids_a}
use Rattle.dpl_syntax.proofs.Ends.{IsNever, never}
use Rattle.dpl_syntax.proofs.Heads.{skipped_isnt}
use Rattle.dpl_syntax.proofs.WholeStructures.{structures_skip, names_other, inside}

-- ---- what is left, step by step

abbrev after_units : Grammar
after_units = structures_first (a kinds.endlib)

abbrev after_libname : Grammar
after_libname = part_then kinds.units after_units

abbrev after_bgnlib : Grammar
after_bgnlib = part_then kinds.libname after_libname

abbrev after_header : Grammar
after_header = part_then kinds.bgnlib after_bgnlib

part_skips_none : (kind : ℕ) (rest : Grammar) → kinds.is_skipped kind ≡ false → SkipsNone (part_then kind rest)
part_skips_none kind rest n k s = avoids_a kind k (skips_then rest) (skipped_isnt k kind s n)

structures_skip_none : SkipsNone after_units
structures_skip_none k s =
    avoids_behind (many grammar.structure) (a kinds.endlib) k
    (avoids_many grammar.structure k (avoids_a kinds.bgnstr k inside (skipped_isnt k kinds.bgnstr s refl)))
    (avoids_one (λ j. eqb j kinds.endlib) k (skipped_isnt k kinds.endlib s refl))

one_of : (kind : ℕ) → Exists (a kind)
one_of kind = (kind ∷ [], (kind, refl, eq-eqb kind kind refl))

none_many : (g : Grammar) → Exists (many g)
none_many g = ([], ([], refl, tt))

some_part : (kind : ℕ) (rest : Grammar) → Exists rest → Exists (part_then kind rest)
some_part kind rest some = exists_both (a kind) (skips_then rest) (one_of kind) (exists_both (many grammar.skip) rest (none_many grammar.skip) some)

some_library : Exists library
some_library =
    exists_both (a kinds.header) after_header (one_of kinds.header)
    (some_part kinds.bgnlib after_bgnlib
    (some_part kinds.libname after_libname
    (some_part kinds.units after_units
    (exists_both (many grammar.structure) (a kinds.endlib) (none_many grammar.structure) (one_of kinds.endlib)))))

never_header : IsNever kinds.header
unfolding refusal_in
never_header o known at body = refl

never_endlib : IsNever kinds.endlib
unfolding refusal_in
never_endlib o known at body = refl

-- ---- records by type

-- a record of another type is passed over
first_skip : (k : ℕ) (r : Record) (more : List Record) → eqb r.kind k ≡ false → first_of k (r ∷ more) ≡ first_of k more
first_skip k r more e = ap (λ (b : Bool). cond b (Some r) (first_of k more)) e

first_here : (k : ℕ) (r : Record) (more : List Record) → r.kind ≡ k → first_of k (r ∷ more) ≡ Some r
first_here k r more e = ap (λ (b : Bool). cond b (Some r) (first_of k more)) (eq-eqb r.kind k e)

first_skipped : (k : ℕ) (rs more : List Record) → AreSkipped rs → kinds.is_skipped k ≡ false → first_of k (rs ++ more) ≡ first_of k more
first_skipped k [] more are n = refl
first_skipped k (r ∷ rs) more are n = first_skip k r (rs ++ more) (skipped_isnt r.kind k are.0 n) ∙ first_skipped k rs more are.1 n

first_past : (k kind : ℕ) (r : Record) (rs more : List Record) → IsPart kind r rs → kinds.is_skipped k ≡ false → eqb kind k ≡ false → first_of k (rs ++ more) ≡ first_of k more
first_past k kind r rs more part n e =
    ap (λ (x : List Record). first_of k (x ++ more)) part.split ∙ first_skip k r (part.skipped ++ more) (ap (λ (j : ℕ). eqb j k) part.is
    ∙ e) ∙ first_skipped k part.skipped more part.are n

first_in : (kind : ℕ) (r : Record) (rs more : List Record) → IsPart kind r rs → first_of kind (rs ++ more) ≡ Some r
first_in kind r rs more part = ap (λ (x : List Record). first_of kind (x ++ more)) part.split ∙ first_here kind r (part.skipped ++ more) part.is

split_skipped : (rs more : List Record) → AreSkipped rs → split_structures (rs ++ more) ≡ split_structures more
split_skipped [] more are = refl
split_skipped (r ∷ rs) more are = structures_skip r (rs ++ more) (skipped_isnt r.kind kinds.bgnstr are.0 refl) ∙ split_skipped rs more are.1

split_part : (kind : ℕ) (r : Record) (rs more : List Record) → IsPart kind r rs → eqb kind kinds.bgnstr ≡ false → split_structures (rs ++ more) ≡ split_structures more
split_part kind r rs more part e =
    ap (λ (x : List Record). split_structures (x ++ more)) part.split ∙ structures_skip r (part.skipped ++ more)
    (ap (λ (j : ℕ). eqb j kinds.bgnstr) part.is ∙ e) ∙ split_skipped part.skipped more part.are

names_skipped : (rs : List Record) → AreSkipped rs → names rs ≡ []
names_skipped [] are = refl
names_skipped (r ∷ rs) are = names_other r rs (skipped_isnt r.kind kinds.strname are.0 refl) ∙ names_skipped rs are.1

names_part : (kind : ℕ) (r : Record) (rs : List Record) → IsPart kind r rs → eqb kind kinds.strname ≡ false → names rs ≡ []
names_part kind r rs part e = ap names part.split ∙ names_other r part.skipped (ap (λ (j : ℕ). eqb j kinds.strname) part.is ∙ e) ∙ names_skipped part.skipped part.are

names_more : (before rs : List Record) → names before ≡ [] → names rs ≡ [] → names (before ++ rs) ≡ []
names_more before rs e f = names-append before rs ∙ ap (λ (x : List (List ℕ)). x ++ names rs) e ∙ f

last_split : (each : List (Record × List Record)) → each ++ split_structures [] ≡ each
unfolding tree.parts
last_split each = append-nil each

kinds_last : (rs : List Record) (r : Record) → kinds_of (rs ++ r ∷ []) ≡ kinds_of rs ++ r.kind ∷ []
kinds_last [] r = refl
kinds_last (s ∷ rs) r = ap (λ (ks : List ℕ). s.kind ∷ ks) (kinds_last rs r)

-- ---- from the first byte on

module _ (bytes : List ℕ) where
  pub start : Reached bytes [] library 0
  start = record { lies = refl; sound = tt; goes_on = tt; begins = some_library; some = some_library; on = λ r found ks h. h; back = λ r found ks h. h }

  pub no_header : (f : Fault) → reading.take bytes kinds.header 0 ≡ Err f → IsFirstFault bytes f
  no_header f e = take_err bytes [] after_header 0 kinds.header f start e

  module _ (h : Record × ℕ) (taken : reading.take bytes kinds.header 0 ≡ Ok h) where
    header : (h.0.kind ≡ kinds.header) × Reached bytes (h.0 ∷ []) after_header h.1
    header =
        take_ok bytes [] after_header 0 kinds.header h start (λ r s. never [] r kinds.header never_header (ap (λ (x : Record). x.kind) s
        ∙ (took kinds.header 0 (record_at bytes 0) h taken).kind_is)) (eqb-false kinds.header kinds.endlib refl) taken

    pub no_bgnlib : (f : Fault) → FailsSkips bytes (part_then kinds.bgnlib) h.1 f → IsFirstFault bytes f
    no_bgnlib f fails = fails (h.0 ∷ []) after_bgnlib (part_skips_none kinds.libname after_libname refl) header.1

    module _ (b : Record) (n2 : ℕ) (bgnlib : PassesPart bytes kinds.bgnlib b h.1 n2) where
      second : (rs : List Record) × IsPart kinds.bgnlib b rs × Reached bytes (h.0 ∷ rs) after_bgnlib n2
      second = bgnlib (h.0 ∷ []) after_bgnlib (part_skips_none kinds.libname after_libname refl) header.1

      pub no_libname : (f : Fault) → FailsSkips bytes (part_then kinds.libname) n2 f → IsFirstFault bytes f
      no_libname f fails = fails (h.0 ∷ second.0) after_libname (part_skips_none kinds.units after_units refl) second.2

      module _ (l : Record) (n3 : ℕ) (libname : PassesPart bytes kinds.libname l n2 n3) where
        third : (rs : List Record) × IsPart kinds.libname l rs × Reached bytes ((h.0 ∷ second.0) ++ rs) after_libname n3
        third = libname (h.0 ∷ second.0) after_libname (part_skips_none kinds.units after_units refl) second.2

        pub no_units : (f : Fault) → FailsSkips bytes (part_then kinds.units) n3 f → IsFirstFault bytes f
        no_units f fails = fails ((h.0 ∷ second.0) ++ third.0) after_units structures_skip_none third.2

        module _ (u : Record) (n4 : ℕ) (units : PassesPart bytes kinds.units u n3 n4) where
          fourth : (rs : List Record) × IsPart kinds.units u rs × Reached bytes (((h.0 ∷ second.0) ++ third.0) ++ rs) after_units n4
          fourth = units ((h.0 ∷ second.0) ++ third.0) after_units structures_skip_none third.2

          abbrev head : List Record
          head = ((h.0 ∷ second.0) ++ third.0) ++ fourth.0

          head_names : names head ≡ []
          head_names =
              names_more ((h.0 ∷ second.0) ++ third.0) fourth.0
              (names_more (h.0 ∷ second.0) third.0
              (names_other h.0 second.0 (ap (λ (j : ℕ). eqb j kinds.strname) header.0) ∙ names_part kinds.bgnlib b second.0 second.1 refl)
              (names_part kinds.libname l third.0 third.1 refl))
              (names_part kinds.units u fourth.0 fourth.1 refl)

          pub no_structures : (f : Fault) → FailsNamed bytes [] structures_first n4 f → IsFirstFault bytes f
          no_structures f fails = fails head (a kinds.endlib) head_names fourth.2

          module _ (ss : List tree.Structure) (n5 : ℕ) (structures : PassesNamed bytes [] structures_first endlib_first (AreStructures bytes ss) n4 n5) where
            fifth : (rs : List Record) × AreStructures bytes ss rs × Reached bytes (head ++ rs) (a kinds.endlib) n5
            fifth = structures head (a kinds.endlib) head_names fourth.2

            module _ (z : Record × ℕ) (ended : reading.take bytes kinds.endlib n5 ≡ Ok z) where
              abbrev all : List Record
              all = h.0 ∷ (second.0 ++ (third.0 ++ (fourth.0 ++ (fifth.0 ++ z.0 ∷ []))))

              grouped : (head ++ fifth.0) ++ z.0 ∷ [] ≡ all
              grouped =
                  append_assoc head fifth.0 (z.0 ∷ []) ∙ append_assoc ((h.0 ∷ second.0) ++ third.0) fourth.0 (fifth.0 ++ z.0 ∷ [])
                  ∙ append_assoc (h.0 ∷ second.0) third.0 (fourth.0 ++ (fifth.0 ++ z.0 ∷ []))

              end_is : z.0.kind ≡ kinds.endlib
              end_is = (took kinds.endlib n5 (record_at bytes n5) z ended).kind_is

              end_found : record_at bytes n5 ≡ Ok z.0
              end_found = (took kinds.endlib n5 (record_at bytes n5) z ended).found

              abbrev rest2 : List Record
              rest2 = third.0 ++ (fourth.0 ++ (fifth.0 ++ z.0 ∷ []))

              abbrev rest3 : List Record
              rest3 = fourth.0 ++ (fifth.0 ++ z.0 ∷ [])

              header_found : first_of kinds.header all ≡ Some h.0
              header_found = first_here kinds.header h.0 (second.0 ++ rest2) header.0

              bgnlib_found : first_of kinds.bgnlib all ≡ Some b
              bgnlib_found = first_skip kinds.bgnlib h.0 (second.0 ++ rest2) (ap (λ (j : ℕ). eqb j kinds.bgnlib) header.0) ∙ first_in kinds.bgnlib b second.0 rest2 second.1

              libname_found : first_of kinds.libname all ≡ Some l
              libname_found =
                  first_skip kinds.libname h.0 (second.0 ++ rest2) (ap (λ (j : ℕ). eqb j kinds.libname) header.0)
                  ∙ first_past kinds.libname kinds.bgnlib b second.0 rest2 second.1 refl refl
                  ∙ first_in kinds.libname l third.0 rest3 third.1

              units_found : first_of kinds.units all ≡ Some u
              units_found =
                  first_skip kinds.units h.0 (second.0 ++ rest2) (ap (λ (j : ℕ). eqb j kinds.units) header.0)
                  ∙ first_past kinds.units kinds.bgnlib b second.0 rest2 second.1 refl refl
                  ∙ first_past kinds.units kinds.libname l third.0 rest3 third.1 refl refl
                  ∙ first_in kinds.units u fourth.0 (fifth.0 ++ z.0 ∷ []) fourth.1

              structures_found : split_structures all ≡ fifth.1.each
              structures_found =
                  structures_skip h.0 (second.0 ++ rest2) (ap (λ (j : ℕ). eqb j kinds.bgnstr) header.0)
                  ∙ split_part kinds.bgnlib b second.0 rest2 second.1 refl
                  ∙ split_part kinds.libname l third.0 rest3 third.1 refl
                  ∙ split_part kinds.units u fourth.0 (fifth.0 ++ z.0 ∷ []) fourth.1 refl
                  ∙ fifth.1.split (z.0 ∷ [])
                  ∙ ap (λ (x : List (Record × List Record)). fifth.1.each ++ x) (structures_skip z.0 [] (ap (λ (j : ℕ). eqb j kinds.bgnstr) end_is))
                  ∙ last_split fifth.1.each

              abbrev made : tree.Library
              made = record { header = tree.whole bytes h.0; bgnlib = tree.whole bytes b; libname = tree.whole bytes l; units = tree.whole bytes u; structures = ss }

              is_made : made ≡ tree.library_of bytes all
              is_made =
                  sym (ap (λ (o : Option Record). record {
                    header = tree.whole_or_none bytes o;
                    bgnlib = tree.whole_of bytes kinds.bgnlib
                        all;
                    libname = tree.whole_of bytes kinds.libname all;
                    units = tree.whole_of bytes kinds.units all;
                    structures = map
                        (structure_of bytes) (split_structures all);
                  }) header_found
                  ∙ ap (λ (o : Option Record). record {
                    header = tree.whole bytes h.0;
                    bgnlib = tree.whole_or_none bytes o;
                    libname = tree.whole_of bytes kinds.libname all;
                    units = tree.whole_of bytes kinds.units all;
                    structures = map
                        (structure_of bytes) (split_structures all);
                  }) bgnlib_found
                  ∙ ap (λ (o : Option Record). record {
                    header = tree.whole bytes h.0;
                    bgnlib = tree.whole bytes b;
                    libname = tree.whole_or_none bytes o;
                    units = tree.whole_of bytes kinds.units all;
                    structures = map
                        (structure_of bytes) (split_structures all);
                  }) libname_found
                  ∙ ap (λ (o : Option Record). record {
                    header = tree.whole bytes h.0;
                    bgnlib = tree.whole bytes b;
                    libname = tree.whole
                        bytes l;
                    units = tree.whole_or_none bytes o;
                    structures = map (structure_of bytes) (split_structures all);
                  }) units_found
                  ∙ ap (λ (x : List (Record × List Record)). record {
                    header = tree.whole bytes h.0;
                    bgnlib = tree.whole bytes b;
                    libname = tree.whole bytes l;
                    units = tree.whole bytes u;
                    structures = map (structure_of bytes) x;
                  }) structures_found
                  ∙ ap (λ (x : List tree.Structure). record {
                    header = tree.whole bytes h.0;
                    bgnlib = tree.whole bytes b;
                    libname = tree.whole bytes l;
                    units = tree.whole bytes u;
                    structures = x;
                  }) fifth.1.are)

              pub holds : Holds bytes made
              holds =
                  let before = head ++ fifth.0 in
                  let has : Has library (kinds_of (before ++ z.0 ∷ [])) = subst (Has library) (sym (kinds_last before z.0))
                  (fifth.2.back z.0 end_found [] (z.0.kind, refl, eq-eqb z.0.kind kinds.endlib end_is)) in
                  record {
                    records = all;
                    end = z.0.next;
                    lies = subst (λ (x : List Record). Lies bytes 0 x z.0.next) grouped (lies_push bytes 0 before n5 z.0 fifth.2.lies end_found);
                    has = subst (λ (x : List Record). Has library (kinds_of x)) grouped has;
                    sound = subst (IsSound []) grouped (sound_push [] before z.0 fifth.2.sound (never before z.0 kinds.endlib never_endlib end_is));
                    is = is_made;
                  }
