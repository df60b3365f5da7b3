-- Links, row by row.
use Rattle.std.proofs.Common.{◌≡◌, ◌≢◌, ℕ, ◌+◌, ◌<◌, inl, inr, Bool, true, false, List, [], ◌∷◌, ◌++◌, map, length, get_or, set, take, sym, refl, ap, ◌∙◌, subst, arith}
use Rattle.std.specs.List.{AllPairs, Contains}
use Rattle.std.proofs.lemmas.Bool.{true≢false, cases_eq}
use Rattle.std.proofs.lemmas.List.{get_or_default, take_more, length-set, get_or-map, length-map, get_or-set_same, get_or-set_other}
use Rattle.std.proofs.lemmas.List.Elements.{All-nil, All-push, All-contains, All-weaker, Contains-get_or, Contains-push, Contains-push_cases, Contains-append_left}
use Rattle.dpl_spec_split.specs.Graphs.{graph_of}
use Rattle.dpl_stars.specs.declared.list.Star.{Star}
use Rattle.dpl_stars.specs.Stars.{own_row, odd_row, IsStarList}
use Rattle.dpl_stars.specs.Links.{star, Joins, HasMates, IsNext, AreMates, IsLinked, AreLinks}
use Rattle.dpl_stars.proofs.PlaceLaws.{place-unique}
use Rattle.dpl_stars.proofs.Relabel.{contains-map}
use Rattle.dpl_stars.proofs.LinkLaws.{row-unique}

abbrev pub pieces_of : List Star → List ℕ
pieces_of rows = map (λ (r : Star). r.piece) rows

pub pieces-rising : (rows : List Star) → IsStarList rows → AllPairs (λ a b. a < b) (pieces_of rows)
pieces-rising rows listed i j d l within =
    let j_in : j < length rows = (let len = length-map rows (λ (r : Star). r.piece) in omega (arith, len, within)) in
    let first = get_or-map (λ (r : Star). r.piece) rows i (own_row 0) d (omega (arith, l, j_in)) in
    let second = get_or-map (λ (r : Star). r.piece) rows j (own_row 0) d j_in in
    let up = listed.rising i j (own_row 0) l j_in in
    omega (arith, first, second, up)

-- each root is one of the pieces
pub root-there : (rows : List Star) → IsStarList rows → (k : ℕ) (d : Star) → k < length rows → Contains (pieces_of rows) (get_or rows k d).root
root-there rows listed k d l = contains-map (λ (r : Star). r.piece) rows (own_row (get_or rows k d).root) (listed.rooted k d l)

module _ (pieces : List ℕ) (rising : AllPairs (λ a b. a < b) pieces) (rows prefix : List Star) (row : Star) (row_in : Contains rows row)
    (mates : List ℕ) (h : HasMates pieces rows prefix mates) where
  -- an odd row's piece is put at the place of its root
  mates-put : row.odd ≡ true → (p : ℕ) → p < length pieces → get_or pieces p 0 ≡ row.root → HasMates pieces rows (prefix ++ row ∷ []) (set mates p row.piece)
  mates-put is p p_in at = record {
    each = length-set mates p row.piece ∙ h.each;
    odd = λ k s k_in c s_odd here. elim (cases_eq k p) [
      | inl same ↦
          let root : row.root ≡ s.root = sym at ∙ (ap (λ i. get_or pieces i 0) (sym same) ∙ here) in
          let piece : row.piece ≡ get_or (set mates p row.piece) k 0 = sym (ap (λ i. get_or (set mates p row.piece) i 0) same
          ∙ get_or-set_same mates p row.piece 0 (let len = h.each in omega (arith, p_in, len))) in
          subst (λ v. Contains rows (odd_row v s.root)) piece (subst (λ r. Contains rows (odd_row row.piece r)) root
          (subst (λ b. Contains rows (star row.piece row.root b)) is row_in))
      | inr apart ↦ elim (Contains-push_cases prefix row s c) [
        | inl old ↦ subst (λ v. Contains rows (odd_row v s.root)) (sym (get_or-set_other mates p k row.piece 0 apart)) (h.odd k s k_in old s_odd here)
        | inr new ↦ absurd (apart (place-unique pieces rising k p k_in p_in (here ∙ (ap (λ (t : Star). t.root) (sym new) ∙ sym at))))
      ]
    ];
  }

  mates-pass : row.odd ≡ false → HasMates pieces rows (prefix ++ row ∷ []) mates
  mates-pass even = record {
    each = h.each;
    odd = λ k s k_in c s_odd here. elim (Contains-push_cases prefix row s c) [
      | inl old ↦ h.odd k s k_in old s_odd here
      | inr new ↦ absurd (true≢false (sym s_odd ∙ (ap (λ (t : Star). t.odd) (sym new) ∙ even)))
    ];
  }

pub mates-none : (pieces : List ℕ) (rows : List Star) (mates : List ℕ) → length mates ≡ length pieces → HasMates pieces rows [] mates
mates-none pieces rows mates each = record { each = each; odd = λ k s k_in c. (let l = c.1 in absurd (omega (arith, l))) }

module _ (rows : List Star) (listed : IsStarList rows) (pieces : List ℕ) (is : pieces ≡ pieces_of rows) (i : ℕ) (d : Star)
    (within : i < length rows) (mates : List ℕ) (h : HasMates pieces rows (take i rows) mates) where
  pub mates-step : (get_or rows i d).odd ≡ true → (p : ℕ) → p < length pieces → get_or pieces p 0 ≡ (get_or rows i d).root
      → HasMates pieces rows (take (i + 1) rows) (set mates p (get_or rows i d).piece)
  mates-step odd p p_in at =
      subst (λ prefix. HasMates pieces rows prefix (set mates p (get_or rows i d).piece)) (sym (take_more rows i d within))
      (mates-put pieces (subst (AllPairs (λ a b. a < b)) (sym is) (pieces-rising rows listed)) rows (take i rows) (get_or rows i d)
      (Contains-get_or rows i d within) mates h odd p p_in at)

  pub mates-skip : (get_or rows i d).odd ≡ false → HasMates pieces rows (take (i + 1) rows) mates
  mates-skip even =
      subst (λ prefix. HasMates pieces rows prefix mates) (sym (take_more rows i d within))
      (mates-pass pieces (subst (AllPairs (λ a b. a < b)) (sym is) (pieces-rising rows listed)) rows (take i rows) (get_or rows i d) (Contains-get_or rows i d within) mates h even)

module _ (rows : List Star) (listed : IsStarList rows) (row : Star) (row_in : Contains rows row) where
  -- each root has an odd row
  pub mate-next : (pieces mates : List ℕ) → HasMates pieces rows rows mates → row.odd ≡ false → (k : ℕ) → k < length pieces
      → get_or pieces k 0 ≡ row.root → (v d : ℕ) → v ≡ get_or mates k d → IsNext rows row v
  mate-next pieces mates h even k k_in at v d is =
      let (u, c) = All-contains (λ r. (v : ℕ) × Contains rows (odd_row v r.root)) rows row listed.paired row_in in
      let same : v ≡ get_or mates k 0 = is ∙ get_or_default mates k d 0 (let len = h.each in omega (arith, k_in, len)) in
      inr (even, subst (λ x. Contains rows (odd_row x row.root)) (sym same) (h.odd k (odd_row u row.root) k_in c refl at))

  pub next-apart : row.piece ≢ row.root → (v : ℕ) → IsNext rows row v → v ≢ row.piece
  next-apart apart v (inl (odd, is)) same = apart (sym same ∙ is)
  next-apart apart v (inr (even, c)) same = true≢false (ap (λ (s : Star). s.odd) (row-unique rows listed.rising (odd_row v row.root) row c row_in same) ∙ even)

  row-as : (odd : Bool) → row.odd ≡ odd → Contains rows (star row.piece row.root odd)
  row-as odd is = subst (λ b. Contains rows (star row.piece row.root b)) is row_in

  root-own : Contains rows (star row.root row.root false)
  root-own = All-contains (λ s. Contains rows (own_row s.root)) rows row listed.rooted row_in

  next-mates : (v : ℕ) → IsNext rows row v → AreMates rows v row.piece
  next-mates v (inl (odd, is)) = (row.root, false, subst (λ x. Contains rows (star x row.root false)) (sym is) root-own, row-as true odd)
  next-mates v (inr (even, c)) = (row.root, true, c, row-as false even)

  mates-back : (u v : ℕ) → AreMates rows u v → AreMates rows v u
  mates-back u v (r, true, first, second) = (r, false, second, first)
  mates-back u v (r, false, first, second) = (r, true, second, first)

  mates-at : (e : ℕ × ℕ) (a b : ℕ) → Joins e a b → AreMates rows a b → AreMates rows e.0 e.1
  mates-at e a b (inl (first, second)) m = subst (λ x. AreMates rows x e.1) (sym first) (subst (λ x. AreMates rows a x) (sym second) m)
  mates-at e a b (inr (first, second)) m = subst (λ x. AreMates rows x e.1) (sym first) (subst (λ x. AreMates rows b x) (sym second) (mates-back a b m))

  module _ (prefix : List Star) (es : List (ℕ × ℕ)) (h : AreLinks rows prefix es) where
    module _ (e : ℕ × ℕ) (v : ℕ) (next : IsNext rows row v) (joins : Joins e v row.piece) where
      joined-by : (a b : ℕ) → Joins e a b → graph_of (es ++ e ∷ []) a b
      joined-by a b (inl (first, second)) = inl (subst (λ (f : ℕ × ℕ). Contains (es ++ e ∷ []) f) (let same : e ≡ (a, b) = λ k. (first k, second k) in same) (Contains-push es e))
      joined-by a b (inr (first, second)) = inr (subst (λ (f : ℕ × ℕ). Contains (es ++ e ∷ []) f) (let same : e ≡ (b, a) = λ k. (first k, second k) in same) (Contains-push es e))

      more : (a b : ℕ) → graph_of es a b → graph_of (es ++ e ∷ []) a b
      more a b (inl c) = inl (Contains-append_left es (e ∷ []) (a, b) c)
      more a b (inr c) = inr (Contains-append_left es (e ∷ []) (b, a) c)

      still-linked : (r : Star) → IsLinked rows es r → IsLinked rows (es ++ e ∷ []) r
      still-linked r linked apart = (let (u, other, old) = linked apart in (u, other, more u r.piece old))

      link-mates : AreMates rows e.0 e.1
      link-mates = mates-at e v row.piece joins (next-mates v next)

      new-mates : (a b : ℕ) → graph_of (es ++ e ∷ []) a b → AreMates rows a b
      new-mates a b (inl c) = elim (Contains-push_cases es e (a, b) c) [
        | inl old ↦ h.mates a b (inl old)
        | inr same ↦ subst (λ (f : ℕ × ℕ). AreMates rows f.0 f.1) same link-mates
      ]
      new-mates a b (inr c) = elim (Contains-push_cases es e (b, a) c) [
        | inl old ↦ h.mates a b (inr old)
        | inr same ↦ mates-back b a (subst (λ (f : ℕ × ℕ). AreMates rows f.0 f.1) same link-mates)
      ]

      link-more : e.0 < e.1 → AreLinks rows (prefix ++ row ∷ []) (es ++ e ∷ [])
      link-more up = record {
        pairs = All-push (λ (f : ℕ × ℕ). f.0 < f.1) es e h.pairs up;
        mates = new-mates;
        linked = All-push (IsLinked rows (es ++ e ∷ [])) prefix row
            (All-weaker (IsLinked rows es) (IsLinked rows (es ++ e ∷ [])) still-linked prefix h.linked)
            (λ apart. (v, next, joined-by v row.piece joins));
      }

    no-link-more : row.piece ≡ row.root → AreLinks rows (prefix ++ row ∷ []) es
    no-link-more same = record { pairs = h.pairs; mates = h.mates; linked = All-push (IsLinked rows es) prefix row h.linked (λ apart. absurd (apart same)) }

pub links-none : (rows : List Star) → AreLinks rows [] []
links-none rows = record {
  pairs = All-nil (λ (f : ℕ × ℕ). f.0 < f.1);
  mates = λ u v g. absurd (elim g [ inl c ↦ (let l = c.1 in omega (arith, l)) | inr c ↦ (let l = c.1 in omega (arith, l)) ]);
  linked = All-nil (IsLinked rows []);
}

module _ (rows : List Star) (es : List (ℕ × ℕ)) (listed : IsStarList rows) (i : ℕ) (d : Star) (within : i < length rows) (h : AreLinks rows (take i rows) es) where
  pub links-step : (e : ℕ × ℕ) (v : ℕ) → IsNext rows (get_or rows i d) v → Joins e v (get_or rows i d).piece → e.0 < e.1 → AreLinks rows (take (i + 1) rows) (es ++ e ∷ [])
  links-step e v next joins up = subst (λ prefix. AreLinks rows prefix (es ++ e ∷ [])) (sym (take_more rows i d within))
      (link-more rows listed (get_or rows i d) (Contains-get_or rows i d within) (take i rows) es h e v next joins up)

  pub links-skip : (get_or rows i d).piece ≡ (get_or rows i d).root → AreLinks rows (take (i + 1) rows) es
  links-skip same = subst (λ prefix. AreLinks rows prefix es) (sym (take_more rows i d within))
      (no-link-more rows listed (get_or rows i d) (Contains-get_or rows i d within) (take i rows) es h same)
