-- Counts of elements, one element and one structure more at a time.
use Rattle.std.proofs.Common.{◌≡◌, ◌≢◌, ℕ, ◌+◌, ◌*◌, inl, inr, ◌<◌, Bool, false, cond, List, [], Some, take, length, get_or, set, sym, refl, ap, subst, ◌∙◌, arith, get_or-set_same, get_or-set_other}
use Rattle.std.specs.List.{sum_by}
use Rattle.std.specs.List.Sorted.{IsStrictlyIncreasing, IsBinarySearchResult}
use Rattle.std.specs.List.{Contains}
use Rattle.std.specs.Ordering.{nat_cmp}
use Rattle.std.specs.Prelude.{Ok, Err, ◌≤◌}
use Rattle.std.proofs.lemmas.List.{get_or_default}
use Rattle.std.proofs.lemmas.List.Sorted.{searched}
use Rattle.std.proofs.lemmas.List.Kept.{AllPairs-from_increasing}
use Rattle.std.proofs.lemmas.Bool.{cases_eq, cases_lt}
use Rattle.std.proofs.lemmas.Bool.Decides.{nat_tests}
use Rattle.std.proofs.lemmas.List.Sums.{sum_by_more}
use Rattle.std.proofs.lemmas.Option.{slice_get-get_or}
use Rattle.std.proofs.Math.ListN.{length-set}
use Rattle.dpl_spec_format.specs.Tree.{Library, Structure, Body as TreeBody, is_boundary, is_path, is_sref, is_aref, is_text, is_node, is_box, elements_at, elements_or_none}
use Rattle.dpl_spec_layout.specs.declared.Layer.{Layer}
use Rattle.dpl_spec_layout.specs.Elements.{is_on}
use Rattle.dpl_view.specs.declared.counts.LayerCounts.{LayerCounts}
use Rattle.dpl_view.specs.Layers.{AreCounts, AreMore, IsMore, count_in, layer_in, unsigned, is_boundary_on, is_path_on, is_box_on, is_text_on, is_node_on}
use Rattle.dpl_view.specs.Ranks.{AreEntries, AreInOrder, IsNarrow, rank_of}

-- the first so many structures
abbrev pub count_below : Library → ℕ → (TreeBody → Bool) → ℕ
count_below lib n test = sum_by (λ (s : Structure). count_in test s.elements) (take n lib.structures)

elements_are : (lib : Library) (k : ℕ) (d : Structure) → k < length lib.structures → elements_at lib k ≡ (get_or lib.structures k d).elements
elements_are lib k d l = ap elements_or_none (slice_get-get_or lib.structures k d l)

no_structure : Structure
no_structure = record { at = 0; bgnstr = []; strname = []; name = []; elements = [] }

-- one structure more
pub structure_more : (lib : Library) (n : ℕ) (test : TreeBody → Bool) → n < length lib.structures
    → count_below lib (n + 1) test ≡ count_below lib n test + count_in test (elements_at lib n)
structure_more lib n test l =
    sum_by_more (λ (s : Structure). count_in test s.elements) lib.structures n no_structure l
    ∙ ap (λ es. count_below lib n test + count_in test es) (sym (elements_are lib n no_structure l))

-- ---- tables

abbrev Count : Type 0
Count = (TreeBody → Bool) → ℕ

-- nothing more
is_same : (f : Count) (x : LayerCounts) → f (is_boundary_on x.layer) ≡ 0 → f (is_path_on x.layer) ≡ 0 → f (is_box_on x.layer) ≡ 0
    → f (is_text_on x.layer) ≡ 0 → f (is_node_on x.layer) ≡ 0 → IsMore f x x
is_same f x p q r s t = record {
  layer = refl;
  boundaries = omega (arith, p);
  paths = omega (arith, q);
  boxes = omega (arith, r);
  texts = omega (arith, s);
  nodes = omega (arith, t);
}

is_add : (f g h : Count) (x y z : LayerCounts) → ((test : TreeBody → Bool) → h test ≡ f test + g test) → IsMore f x y → IsMore g y z → IsMore h x z
is_add f g h x y z sum p q =
    let at : IsMore g (record y { layer = x.layer }) z = subst (λ (l : Layer). IsMore g (record y { layer = l }) z) p.layer q in
    let p0 = p.boundaries in let p1 = p.paths in let p2 = p.boxes in let p3 = p.texts in let p4 = p.nodes in
    let q0 = at.boundaries in let q1 = at.paths in let q2 = at.boxes in let q3 = at.texts in let q4 = at.nodes in
    record {
      layer = at.layer;
      boundaries = omega (arith, p0, q0, sum (is_boundary_on x.layer));
      paths = omega (arith, p1, q1, sum (is_path_on x.layer));
      boxes = omega (arith, p2, q2, sum (is_box_on x.layer));
      texts = omega (arith, p3, q3, sum (is_text_on x.layer));
      nodes = omega (arith, p4, q4, sum (is_node_on x.layer));
    }

pub more_add : (f g h : Count) (a b c : List LayerCounts) → ((test : TreeBody → Bool) → h test ≡ f test + g test) → AreMore f a b → AreMore g b c → AreMore h a c
more_add f g h a b c sum p q =
    let many = p.as_many in
    record {
      as_many = q.as_many ∙ p.as_many;
      each = λ k d l. is_add f g h (get_or a k d) (get_or b k d) (get_or c k d) sum (p.each k d l) (q.each k d (omega (arith, l, many)));
    }

counted : (f : Count) (x y : LayerCounts) → AreCounts (λ test. 0) x.layer x.counts → IsMore f x y → AreCounts f y.layer y.counts
counted f x y p q =
    let p0 = p.boundaries in let p1 = p.paths in let p2 = p.boxes in let p3 = p.texts in let p4 = p.nodes in
    let q0 = q.boundaries in let q1 = q.paths in let q2 = q.boxes in let q3 = q.texts in let q4 = q.nodes in
    subst (λ (l : Layer). AreCounts f l y.counts) (sym q.layer) (record {
      boundaries = omega (arith, p0, q0);
      paths = omega (arith, p1, q1);
      boxes = omega (arith, p2, q2);
      texts = omega (arith, p3, q3);
      nodes = omega (arith, p4, q4);
    })

pub entries_counted : (f : Count) (ranks : List ℕ) (n : ℕ) (a b : List LayerCounts) → AreEntries (λ test. 0) ranks n a → AreMore f a b → AreEntries f ranks n b
entries_counted f ranks n a b h p =
    let each = h.each in
    record {
      each = p.as_many ∙ h.each;
      entry = λ k d l.
          let e = h.entry k d l in
          let m = p.each k d (omega (arith, l, each)) in
          record {
            rank = ap rank_of m.layer ∙ e.rank;
            narrow = subst (λ (x : Layer). IsNarrow x) (sym m.layer) e.narrow;
            counts = counted f (get_or a k d) (get_or b k d) e.counts m;
          };
    }

-- ---- one element

-- the element counts on no layer of another rank
abbrev pub once : TreeBody → Count
once b test = cond (test b) 1 0

off : (chosen : Layer) (l d : ℕ) → (rank_of chosen ≡ l * 65536 + d → ⊥) → is_on chosen l d ≡ false
off chosen l d apart = elim (cases_eq l chosen.layer) [
  | inl p ↦ elim (cases_eq d chosen.datatype) [
    | inl q ↦ absurd (apart (omega (arith, p, q)))
    | inr ne ↦ grind (arith, nat_tests, ne)
  ]
  | inr ne ↦ grind (arith, nat_tests, ne)
]

none : (b : TreeBody) (test : TreeBody → Bool) → test b ≡ false → once b test ≡ 0
none b test h = ap (λ v. cond v 1 0) h

pub is_elsewhere : (b : TreeBody) (x : LayerCounts) → ((l : Layer) → layer_in b ≡ Some l → rank_of x.layer ≡ rank_of l → ⊥) → IsMore (once b) x x
is_elsewhere (is_boundary b) x h =
    is_same (once (is_boundary b)) x (none (is_boundary b) (is_boundary_on x.layer) (off x.layer b.layer b.datatype (h _ refl))) refl refl refl refl
is_elsewhere (is_path b) x h =
    is_same (once (is_path b)) x refl (none (is_path b) (is_path_on x.layer) (off x.layer b.layer b.datatype (h _ refl))) refl refl refl
is_elsewhere (is_box b) x h =
    is_same (once (is_box b)) x refl refl (none (is_box b) (is_box_on x.layer) (off x.layer b.layer b.boxtype (h _ refl))) refl refl
is_elsewhere (is_text b) x h =
    is_same (once (is_text b)) x refl refl refl (none (is_text b) (is_text_on x.layer) (off x.layer b.layer (unsigned b.texttype) (h _ refl))) refl
is_elsewhere (is_node b) x h =
    is_same (once (is_node b)) x refl refl refl refl (none (is_node b) (is_node_on x.layer) (off x.layer b.layer (unsigned b.nodetype) (h _ refl)))
is_elsewhere (is_sref b) x h = is_same (once (is_sref b)) x refl refl refl refl refl
is_elsewhere (is_aref b) x h = is_same (once (is_aref b)) x refl refl refl refl refl

ranks_apart : (ranks : List ℕ) (i j : ℕ) → IsStrictlyIncreasing ranks → i < length ranks → j < length ranks → i ≢ j → get_or ranks i 0 ≡ get_or ranks j 0 → ⊥
ranks_apart ranks i j rises i_in j_in ne same = elim (cases_lt i j) [
  | inl less ↦ let l = AllPairs-from_increasing ranks rises i j 0 less j_in in omega (arith, l, same)
  | inr ge ↦ let l = AllPairs-from_increasing ranks rises j i 0 (omega (arith, ge, ne)) i_in in omega (arith, l, same)
]

pub on_one_layer : (b : TreeBody) (layer : Layer) (ranks : List ℕ) (xs : List LayerCounts) (k : ℕ) (y : LayerCounts) → layer_in b ≡ Some layer → AreInOrder ranks xs
    → k < length xs → get_or ranks k 0 ≡ rank_of layer → ((d : LayerCounts) → IsMore (once b) (get_or xs k d) y) → AreMore (once b) xs (set xs k y)
on_one_layer b layer ranks xs k y lies h k_in at one = record {
  as_many = length-set xs k y;
  each = λ j d l. elim (cases_eq j k) [
    | inl same ↦
        let this : get_or (set xs k y) j d ≡ y = ap (λ i. get_or (set xs k y) i d) same ∙ get_or-set_same xs k y d k_in in
        subst (λ z. IsMore (once b) (get_or xs j d) z) (sym this) (subst (λ i. IsMore (once b) (get_or xs i d) y) (sym same) (one d))
    | inr ne ↦
        let this : get_or (set xs k y) j d ≡ get_or xs j d = get_or-set_other xs k j y d ne in
        subst (λ z. IsMore (once b) (get_or xs j d) z) (sym this) (is_elsewhere b (get_or xs j d) (λ m is rank.
        let two : Some layer ≡ Some m = sym lies ∙ is in
        let one : layer ≡ m = cc two in
        absurd (ranks_apart ranks j k h.rises (omega (arith, l, h.each)) (omega (arith, k_in, h.each)) ne
        (sym (h.rank j d l) ∙ (rank ∙ (sym (ap rank_of one) ∙ sym at))))))
  ];
}

-- ---- where a rank stands

rise : (ranks : List ℕ) → IsStrictlyIncreasing ranks → (i j : ℕ) → i ≤ j → j < length ranks → get_or ranks i 0 ≤ get_or ranks j 0
rise ranks rises i j le j_in = elim (cases_eq i j) [
  | inl same ↦ let e : get_or ranks i 0 ≡ get_or ranks j 0 = ap (λ k. get_or ranks k 0) same in omega (arith, e)
  | inr ne ↦ let l = AllPairs-from_increasing ranks rises i j 0 (omega (arith, le, ne)) j_in in omega (arith, l)
]

pub found_at : (ranks : List ℕ) (place k : ℕ) → IsStrictlyIncreasing ranks → IsBinarySearchResult (λ y. nat_cmp y place) ranks (Ok k)
    → (k < length ranks) × (get_or ranks k 0 ≡ place)
found_at ranks place k rises h = searched ranks place (Ok k) h (rise ranks rises)

pub unfound : (ranks : List ℕ) (place i : ℕ) → IsStrictlyIncreasing ranks → IsBinarySearchResult (λ y. nat_cmp y place) ranks (Err i) → Contains ranks place → ⊥
unfound ranks place i rises h (k, k_in, at) =
    let (low, below, above) = searched ranks place (Err i) h (rise ranks rises) in
    let here : get_or ranks k 0 ≡ place = get_or_default ranks k 0 place k_in ∙ at in
    elim (cases_lt k i) [
      | inl l ↦ let less = below k l in omega (arith, less, here)
      | inr ge ↦ let more = above k ge k_in in omega (arith, more, here)
    ]

abbrev pub no_entry : LayerCounts
no_entry = record { layer = record { layer = 0; datatype = 0 }; counts = record { boundaries = 0; paths = 0; boxes = 0; texts = 0; nodes = 0 } }

pub one_at : (b : TreeBody) (xs : List LayerCounts) (k : ℕ) (y : LayerCounts) → k < length xs → IsMore (once b) (get_or xs k no_entry) y
    → (d : LayerCounts) → IsMore (once b) (get_or xs k d) y
one_at b xs k y l h d = subst (λ x. IsMore (once b) x y) (get_or_default xs k no_entry d l) h
