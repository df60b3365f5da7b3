-- The ranks of layers, and the layers of ranks.
use Rattle.std.proofs.Common.{◌≡◌, ℕ, Bool, ◌+◌, ◌<◌, ◌≤◌, inl, inr, List, [], ◌∷◌, ◌++◌, map, take, length, get_or, Option, Some, None, sym, refl, ap, subst, ◌∙◌, arith}
use Rattle.std.specs.Prelude.{IfSome, option_map}
use Rattle.std.specs.Option.{option_to_list}
use Rattle.std.specs.List.{Contains}
use Rattle.std.specs.List.Sorted.{IsStrictlyIncreasing}
use Rattle.std.proofs.lemmas.Bool.{cases_eq, cases_lt}
use Rattle.std.proofs.lemmas.List.{get_or_default, get_or_push, get_or_append_left, get_or-map, length_push, map_more}
use Rattle.std.proofs.Math.ListN.{length-map}
use Rattle.std.proofs.lemmas.List.Elements.{Contains-push, Contains-push_cases, Contains-append_left, Contains-append_cases}
use Rattle.std.proofs.lemmas.List.Kept.{AllPairs-from_increasing}
use Rattle.std.proofs.lemmas.Option.{slice_get_past}
use Rattle.dpl_spec_format.specs.Tree.{Library, Body as TreeBody, Element as TreeElement, elements_at, elements_or_none}
use Rattle.dpl_spec_layout.specs.declared.Layer.{Layer}
use Rattle.dpl_syntax.specs.Elements.{element_seen}
use Rattle.dpl_syntax.specs.declared.element.Element.{Element}
use Rattle.dpl_view.specs.declared.counts.LayerCounts.{LayerCounts}
use Rattle.dpl_view.specs.Layers.{AreLayerCounts, IsBefore, count_of, layer_in}
use Rattle.dpl_view.specs.Ranks.{rank_of, ranks_in, IsNarrow, HasRank, AreNoted, AreRanks, IsEntryOf, AreEntries, IsListed}

-- ---- one element more

noted-start : (ranks : List ℕ) → AreNoted [] ranks ranks
noted-start ranks = record {
  exactly = λ r. (λ h. inl h, λ h. elim h [ inl there ↦ there | inr has ↦ let (k, l, at) = has.inside in absurd (omega (arith, l)) ]);
  narrow = λ e (k, l, at). absurd (omega (arith, l));
}

-- more elements
widen : (es : List TreeElement) (e : TreeElement) (r : ℕ) → HasRank es r → HasRank (es ++ e ∷ []) r
widen es e r h = record { element = h.element; layer = h.layer; inside = Contains-append_left es (e ∷ []) h.element h.inside; lies = h.lies; rank = h.rank }

narrow-more : (es : List TreeElement) (e : TreeElement) → ((x : TreeElement) → Contains es x → IfSome (layer_in x.body) IsNarrow) → IfSome (layer_in e.body) IsNarrow
    → (x : TreeElement) → Contains (es ++ e ∷ []) x → IfSome (layer_in x.body) IsNarrow
narrow-more es e before here x there = elim (Contains-push_cases es e x there) [
  | inl h ↦ before x h
  | inr same ↦ subst (λ (y : TreeElement). IfSome (layer_in y.body) IsNarrow) same here
]

noted-by : (o : Option Layer) (es : List TreeElement) (e : TreeElement) (old ranks new : List ℕ) → layer_in e.body ≡ o → IfSome o IsNarrow
    → new ≡ ranks ++ option_to_list (option_map rank_of o) → AreNoted es old ranks → AreNoted (es ++ e ∷ []) old new
noted-by None es e old ranks new is narrow more h =
    let same : new ≡ ranks ++ [] = more in
    record {
      exactly = λ r. (
        λ there. elim ((h.exactly r).0 (unpushed r (subst (λ xs. Contains xs r) same there))) [ inl x ↦ inl x | inr x ↦ inr (widen es e r x) ],
        λ either. subst (λ xs. Contains xs r) (sym same) (Contains-append_left ranks [] r ((h.exactly r).1 (elim either [
          | inl x ↦ inl x
          | inr x ↦ elim (Contains-push_cases es e x.element x.inside) [
            | inl inside ↦ inr (record { element = x.element; layer = x.layer; inside = inside; lies = x.lies; rank = x.rank })
            | inr here ↦ let no : None ≡ Some x.layer = sym is ∙ (ap (λ (y : TreeElement). layer_in y.body) here ∙ x.lies) in absurd cc
          ]
        ]))),
      );
      narrow = narrow-more es e h.narrow (subst (λ p. IfSome p IsNarrow) (sym is) narrow);
    }
  where
    unpushed : (r : ℕ) → Contains (ranks ++ []) r → Contains ranks r
    unpushed r there = elim (Contains-append_cases ranks [] r there) [ inl x ↦ x | inr x ↦ let (k, l, at) = x in absurd (omega (arith, l)) ]
noted-by (Some layer) es e old ranks new is narrow more h = record {
  exactly = λ r. (
    λ there. elim (Contains-push_cases ranks (rank_of layer) r (subst (λ xs. Contains xs r) more there)) [
      | inl before ↦ elim ((h.exactly r).0 before) [ inl x ↦ inl x | inr x ↦ inr (widen es e r x) ]
      | inr same ↦ inr (record { element = e; layer = layer; inside = Contains-push es e; lies = is; rank = same })
    ],
    λ either. subst (λ xs. Contains xs r) (sym more) (elim either [
      | inl x ↦ Contains-append_left ranks (rank_of layer ∷ []) r ((h.exactly r).1 (inl x))
      | inr x ↦ elim (Contains-push_cases es e x.element x.inside) [
        | inl inside ↦ Contains-append_left ranks (rank_of layer ∷ []) r
            ((h.exactly r).1 (inr (record { element = x.element; layer = x.layer; inside = inside; lies = x.lies; rank = x.rank })))
        | inr here ↦
            let two : Some layer ≡ Some x.layer = sym is ∙ (ap (λ (y : TreeElement). layer_in y.body) here ∙ x.lies) in
            let one : layer ≡ x.layer = cc two in
            let rank : rank_of layer ≡ r = ap rank_of one ∙ x.rank in
            subst (λ y. Contains (ranks ++ rank_of layer ∷ []) y) rank (Contains-push ranks (rank_of layer))
      ]
    ]),
  );
  narrow = narrow-more es e h.narrow (subst (λ p. IfSome p IsNarrow) (sym is) narrow);
}

pub noted-more : (es : List Element) (i : ℕ) (d : Element) (old ranks new : List ℕ) → i < length es
    → new ≡ ranks ++ ranks_in (element_seen (get_or es i d)).body → IfSome (layer_in (element_seen (get_or es i d)).body) IsNarrow
    → AreNoted (map element_seen (take i es)) old ranks → AreNoted (map element_seen (take (i + 1) es)) old new
noted-more es i d old ranks new l more narrow h =
    let e : TreeElement = element_seen (get_or es i d) in
    subst (λ xs. AreNoted xs old new) (sym (map_more element_seen es i d l)) (noted-by (layer_in e.body) (map element_seen (take i es)) e old ranks new refl narrow more h)

-- ---- one structure more

pub ranks-none : (lib : Library) (ranks : List ℕ) → ranks ≡ [] → AreRanks lib 0 ranks
ranks-none lib ranks empty = record {
  exactly = λ r. (
    λ there. let (k, l, at) = subst (λ xs. Contains xs r) empty there in absurd (omega (arith, l)),
    λ (k, l, has). absurd (omega (arith, l)),
  );
  narrow = λ k e l there. absurd (omega (arith, l));
}

pub ranks-more : (lib : Library) (n : ℕ) (old new : List ℕ) → AreNoted (elements_at lib n) old new → AreRanks lib n old → AreRanks lib (n + 1) new
ranks-more lib n old new noted h = record {
  exactly = λ r. (
    λ there. elim ((noted.exactly r).0 there) [
      | inl x ↦ let (k, l, has) = (h.exactly r).0 x in (k, omega (arith, l), has)
      | inr has ↦ (n, omega arith, has)
    ],
    λ (k, l, has). elim (cases_eq k n) [
      | inl same ↦ (noted.exactly r).1 (inr (subst (λ j. HasRank (elements_at lib j) r) same has))
      | inr ne ↦ (noted.exactly r).1 (inl ((h.exactly r).1 (k, omega (arith, l, ne), has)))
    ],
  );
  narrow = λ k e l there. elim (cases_eq k n) [
    | inl same ↦ noted.narrow e (subst (λ j. Contains (elements_at lib j) e) same there)
    | inr ne ↦ h.narrow k e (omega (arith, l, ne)) there
  ];
}

-- ---- entries

pub entries-none : (count : (TreeBody → Bool) → ℕ) (ranks : List ℕ) (found : List LayerCounts) → found ≡ [] → AreEntries count ranks 0 found
entries-none count ranks found empty = record { each = ap (λ (xs : List LayerCounts). length xs) empty; entry = λ k d l. absurd (omega (arith, l)) }

pub entries-more : (count : (TreeBody → Bool) → ℕ) (ranks : List ℕ) (n : ℕ) (found more : List LayerCounts) (x : LayerCounts) → more ≡ found ++ x ∷ []
    → IsEntryOf count (get_or ranks n 0) x → AreEntries count ranks n found → AreEntries count ranks (n + 1) more
entries-more count ranks n found more x longer is h =
    let each = h.each in
    record {
      each = ap (λ (xs : List LayerCounts). length xs) longer ∙ (length_push found x ∙ ap (λ k. k + 1) each);
      entry = λ k d l. elim (cases_eq k n) [
        | inl same ↦
            let this : x ≡ get_or more k d = sym (ap (λ xs. get_or xs k d) longer ∙ get_or_push found x d k (each ∙ sym same)) in
            subst (λ y. IsEntryOf count (get_or ranks k 0) y) this (subst (λ j. IsEntryOf count (get_or ranks j 0) x) (sym same) is)
        | inr ne ↦
            let this : get_or found k d ≡ get_or more k d = sym (ap (λ xs. get_or xs k d) longer ∙ get_or_append_left found (x ∷ []) d k (omega (arith, l, ne, each))) in
            subst (λ y. IsEntryOf count (get_or ranks k 0) y) this (h.entry k d (omega (arith, l, ne)))
      ];
    }

layer_is : (a b : Layer) → a.layer ≡ b.layer → a.datatype ≡ b.datatype → a ≡ b
layer_is a b p q =
    let f : ℕ → Layer = λ x. record { layer = x; datatype = a.datatype } in
    let g : ℕ → Layer = λ y. record { layer = b.layer; datatype = y } in
    ap f p ∙ ap g q

rank-one : (a b : Layer) → IsNarrow a → IsNarrow b → rank_of a ≡ rank_of b → a ≡ b
rank-one a b p q same =
    let p0 = p.layer_fits in let p1 = p.datatype_fits in let q0 = q.layer_fits in let q1 = q.datatype_fits in
    layer_is a b (omega (arith, same, p0, p1, q0, q1)) (omega (arith, same, p0, p1, q0, q1))

rank-before : (a b : Layer) → IsNarrow a → IsNarrow b → rank_of a < rank_of b → IsBefore a b
rank-before a b p q less =
    let p1 = p.datatype_fits in let q1 = q.datatype_fits in
    elim (cases_lt a.layer b.layer) [
      | inl l ↦ inl l
      | inr ge ↦ let same : a.layer ≡ b.layer = omega (arith, less, p1, q1, ge) in inr (same, omega (arith, less, same))
    ]

known : (lib : Library) (k : ℕ) (e : TreeElement) → Contains (elements_at lib k) e → k < length lib.structures
known lib k e there = elim (cases_lt k (length lib.structures)) [
  | inl l ↦ l
  | inr past ↦
      let none : elements_at lib k ≡ [] = ap elements_or_none (slice_get_past lib.structures k past) in
      let (j, l, at) = subst (λ es. Contains es e) none there in
      absurd (omega (arith, l))
]

abbrev layers : List LayerCounts → List Layer
layers found = map (λ (x : LayerCounts). x.layer) found

no_entry : LayerCounts
no_entry = record { layer = record { layer = 0; datatype = 0 }; counts = record { boundaries = 0; paths = 0; boxes = 0; texts = 0; nodes = 0 } }

layer-at : (found : List LayerCounts) (k : ℕ) (d : Layer) → k < length found → get_or (layers found) k d ≡ (get_or found k no_entry).layer
layer-at found k d l = get_or-map (λ (x : LayerCounts). x.layer) found k no_entry d l

pub layers-of : (lib : Library) (all ranks : List ℕ) (found : List LayerCounts) → AreRanks lib (length lib.structures) all → IsStrictlyIncreasing ranks
    → ((r : ℕ) → Contains all r → Contains ranks r) → ((r : ℕ) → Contains ranks r → Contains all r) → (n : ℕ) → length ranks ≤ n → n ≤ length ranks
    → AreEntries (count_of lib) ranks n found → AreLayerCounts lib found
layers-of lib all ranks found are rises keeps adds n low high h =
    let each = h.each in
    let long : length (layers found) ≡ length found = simp length-map in
    let pairs = AllPairs-from_increasing ranks rises in
    record {
      layers = record {
        ordered = λ i j d less within.
            let i_in : i < length found = omega (arith, less, within, long) in
            let j_in : j < length found = omega (arith, within, long) in
            let a = h.entry i no_entry (omega (arith, i_in, each)) in
            let b = h.entry j no_entry (omega (arith, j_in, each)) in
            let ranks_less : get_or ranks i 0 < get_or ranks j 0 = pairs i j 0 less (omega (arith, j_in, each, high)) in
            let a_rank = a.rank in
            let b_rank = b.rank in
            subst (λ x. IsBefore x (get_or (layers found) j d)) (sym (layer-at found i d i_in))
            (subst (λ y. IsBefore (get_or found i no_entry).layer y) (sym (layer-at found j d j_in))
            (rank-before _ _ a.narrow b.narrow (omega (arith, ranks_less, a_rank, b_rank))));
        exactly = λ layer. (
          λ (k, l, at).
              let k_in : k < length found = omega (arith, l, long) in
              let a = h.entry k no_entry (omega (arith, k_in, each)) in
              let r_in : k < length ranks = omega (arith, k_in, each, high) in
              let (j, j_in, has) = (are.exactly (get_or ranks k 0)).0 (adds (get_or ranks k 0) (k, r_in, get_or_default ranks k (get_or ranks k 0) 0 r_in)) in
              let there = are.narrow j has.element j_in has.inside in
              let narrow : IsNarrow has.layer = subst (λ o. IfSome o IsNarrow) has.lies there in
              let same : has.layer ≡ layer = rank-one has.layer (get_or found k no_entry).layer narrow a.narrow (has.rank ∙ sym a.rank) ∙ (sym (layer-at found k layer k_in) ∙ at) in
              (j, has.element, has.inside, has.lies ∙ ap Some same),
          λ (k, e, there, lies).
              let k_in = known lib k e there in
              let narrow : IsNarrow layer = subst (λ o. IfSome o IsNarrow) lies (are.narrow k e k_in there) in
              let used : HasRank (elements_at lib k) (rank_of layer) = record { element = e; layer = layer; inside = there; lies = lies; rank = refl } in
              let (i, i_in, at) = keeps (rank_of layer) ((are.exactly (rank_of layer)).1 (k, k_in, used)) in
              let f_in : i < length found = omega (arith, i_in, each, low) in
              let a = h.entry i no_entry (omega (arith, f_in, each)) in
              let rank : rank_of (get_or found i no_entry).layer ≡ rank_of layer = a.rank ∙ (get_or_default ranks i 0 (rank_of layer) i_in ∙ at) in
              (i, omega (arith, f_in, long), layer-at found i layer f_in ∙ rank-one _ _ a.narrow narrow rank),
        );
      };
      counts = λ k d l. (h.entry k d (omega (arith, l, each))).counts;
    }

-- ---- each element lies on a layer whose rank is listed

pub all-listed : (lib : Library) (all ranks : List ℕ) → AreRanks lib (length lib.structures) all → ((r : ℕ) → Contains all r → Contains ranks r) → (k : ℕ) (e : TreeElement)
    → Contains (elements_at lib k) e → IsListed ranks e.body
all-listed lib all ranks are keeps k e there = by (layer_in e.body) refl
  where
    by : (o : Option Layer) → layer_in e.body ≡ o → IfSome o (λ layer. Contains ranks (rank_of layer))
    by None is = tt
    by (Some layer) is = keeps (rank_of layer) ((are.exactly (rank_of layer)).1
        (k, known lib k e there, record { element = e; layer = layer; inside = there; lies = is; rank = refl }))
