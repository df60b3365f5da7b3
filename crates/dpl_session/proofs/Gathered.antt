-- The tiles of cells, one after the other.
use Rattle.std.proofs.Common.{◌≡◌, ◌≢◌, ◌∙◌, ◌+◌, ◌<◌, ℕ, ◌⊎◌, inl, inr, List, [], ◌∷◌, ◌++◌, length, get_or, subst, sym, refl, ap, arith}
use Rattle.std.specs.Prelude.{◌↔◌}
use Rattle.std.specs.List.{All, AllPairs, Contains, dedup}
use Rattle.std.specs.List.Sorted.{IsSorted, IsPermutation}
use Rattle.std.proofs.lemmas.Bool.{cases_eq}
use Rattle.std.proofs.lemmas.List.{get_or_default, length-append}
use Rattle.std.proofs.lemmas.List.Elements.{All-contains, All-push, Contains-append_left, Contains-push}
use Rattle.std.proofs.lemmas.List.Quantifiers.{all_pairs_push}
use Rattle.dpl_spec_split.specs.declared.Pt.{Pt}
use Rattle.dpl_spec_split.specs.declared.Rect.{Rect}
use Rattle.dpl_spec_split.specs.declared.Spacing.{Spacing}
use Rattle.dpl_spec_split.specs.Squares.{Covers, Has}
use Rattle.dpl_spec_split.specs.Slabs.{Before}
use Rattle.dpl_spec_split.specs.Pieces.{Conflict}
use Rattle.dpl_spec_split.proofs.SlabLaws.{Before-strict}
use Rattle.dpl_slabs.specs.Parts.{union_of}
use Rattle.dpl_tile.proofs.Orders.{pair_cmp, pair_eq, pairs-members, pairs-ordered}
use Rattle.dpl_session.specs.declared.tile.Tile.{Tile}
use Rattle.dpl_session.specs.Kept.{AddsConflicts, AddsTile, AreCells, AreFoundIn, AreTilesOf, HasItsEdges, IsChangedAmong, IsFresh, IsTileOf}
use Rattle.dpl_session.specs.Tiles.{IsCell, IsOccupied, TookFew}

no_tile : {X : Type 0} (x : X) → Contains [] x → ⊥
no_tile x (k, l, is) = omega (arith, l)

module _ (spacing : Spacing) (pieces : List (List Rect)) (owners : List ℕ) (cells : List Rect) where
  pub none_found : AreFoundIn spacing pieces owners cells 0 [] []
  none_found = record {
    rising = λ i j d l j_in. absurd (omega (arith, j_in));
    before = λ k d l. absurd (omega (arith, l));
    own = λ k d l. absurd (omega (arith, l));
    of = λ k d l. absurd (omega (arith, l));
    full = λ k d l. absurd (omega (arith, l));
    sound = λ e c. absurd (no_tile e c);
    all = λ e p q k d rise e_in apart in_a in_b near l. absurd (omega (arith, l));
  }

  -- a cell without a square of a piece
  pub found_skip : (n : ℕ) (cell : Rect) (tiles : List Tile) (edges : List (ℕ × ℕ)) → cell ≡ get_or cells n cell → ¬ IsOccupied (union_of pieces) cell
      → AreFoundIn spacing pieces owners cells n tiles edges
      → AreFoundIn spacing pieces owners cells (n + 1) tiles edges
  found_skip n cell tiles edges is empty f =
      let at : (k : ℕ) (d : Rect) → k ≡ n → k < length cells → get_or cells k d ≡ cell =
      λ k d e l. ap (λ m. get_or cells m d) e ∙ (get_or_default cells n d cell (subst (λ m. m < length cells) e l) ∙ sym is) in
      record {
        rising = f.rising;
        before = λ k d l. (let (m, m_in, rest, here) = f.before k d l in (m, omega (arith, m_in), rest, here));
        own = f.own;
        of = f.of;
        full = λ k d l k_in occupied. elim (cases_eq k n) [
          | inl e ↦ absurd (empty (subst (IsOccupied (union_of pieces)) (at k d e k_in) occupied))
          | inr ne ↦ f.full k d (omega (arith, l, ne)) k_in occupied
        ];
        sound = f.sound;
        all = λ e p q k d rise e_in apart in_a in_b near l k_in has. elim (cases_eq k n) [
          | inl same ↦ absurd (empty (
            p,
            (e.0, get_or pieces e.0 [], omega (arith, rise, e_in), get_or_default pieces e.0 (get_or pieces e.0 []) [] (omega (arith, rise, e_in)), in_a),
            subst (λ c. Has c p) (at k d same k_in) has,
          ))
          | inr ne ↦ f.all e p q k d rise e_in apart in_a in_b near (omega (arith, l, ne)) k_in has
        ];
      }

  -- the tile of a cell
  pub found_tile : (n : ℕ) (cell : Rect) (tiles : List Tile) (t : Tile) (edges more : List (ℕ × ℕ)) → AllPairs Before cells → n < length cells
      → cell ≡ get_or cells n cell → t.cell ≡ cell → IsTileOf spacing.rule pieces owners t
      → HasItsEdges spacing t → AddsConflicts spacing pieces owners cell edges more → AreFoundIn spacing pieces owners cells n tiles edges
      → AreFoundIn spacing pieces owners cells (n + 1) (tiles ++ t ∷ []) more
  found_tile n cell tiles t edges more rising n_in is t_is of its adds f =
      let at : (k : ℕ) (d : Rect) → k ≡ n → k < length cells → get_or cells k d ≡ cell =
      λ k d e l. ap (λ m. get_or cells m d) e ∙ (get_or_default cells n d cell (subst (λ m. m < length cells) e l) ∙ sym is) in
      let Place : Tile → Type 0 = λ (u : Tile). (k : ℕ) × (k < n + 1) × (k < length cells) × ((d : Rect) → get_or cells k d ≡ u.cell) in
      record {
        rising = all_pairs_push (λ (a b : Tile). Before a.cell b.cell) tiles t f.rising (λ k u l. (
            let (m, less, m_in, here) = f.before k u l in
            subst (λ c. Before c t.cell) (here cell) (subst (λ c. Before (get_or cells m cell) c) (sym is ∙ sym t_is) (rising m n cell less n_in))));
        before = All-push Place tiles t (λ k d l. (let (m, m_in, rest, here) = f.before k d l in (m, omega (arith, m_in), rest, here)))
            (n, omega arith, n_in, λ d. at n d refl n_in ∙ sym t_is);
        own = All-push (HasItsEdges spacing) tiles t f.own its;
        of = All-push (IsTileOf spacing.rule pieces owners) tiles t f.of of;
        full = λ k d l k_in occupied. elim (cases_eq k n) [
          | inl e ↦ (t, Contains-push tiles t, t_is ∙ sym (at k d e k_in))
          | inr ne ↦ (let (u, u_in, u_is) = f.full k d (omega (arith, l, ne)) k_in occupied in (u, Contains-append_left tiles (t ∷ []) u u_in, u_is))
        ];
        sound = λ e c. elim (adds.sound e c) [ inl old ↦ f.sound e old | inr new ↦ new ];
        all = λ e p q k d rise e_in apart in_a in_b near l k_in has. elim (cases_eq k n) [
          | inl same ↦ adds.full e p q rise e_in apart in_a in_b near (subst (λ c. Has c p) (at k d same k_in) has)
          | inr ne ↦ adds.kept e (f.all e p q k d rise e_in apart in_a in_b near (omega (arith, l, ne)) k_in has)
        ];
      }

  pub found_next : (n : ℕ) (cell : Rect) (tiles more_tiles : List Tile) (edges more_edges : List (ℕ × ℕ)) → AllPairs Before cells → n < length cells → cell ≡ get_or cells n cell
      → AddsTile spacing pieces owners cell tiles edges more_tiles more_edges → AreFoundIn spacing pieces owners cells n tiles edges
      → AreFoundIn spacing pieces owners cells (n + 1) more_tiles more_edges
  found_next n cell tiles more_tiles edges more_edges rising n_in is (inl (empty, same, too)) f =
      subst (λ ts. AreFoundIn spacing pieces owners cells (n + 1) ts more_edges) (sym same) (subst (λ es. AreFoundIn spacing pieces owners cells (n + 1) tiles es)
      (sym too) (found_skip n cell tiles edges is empty f))
  found_next n cell tiles more_tiles edges more_edges rising n_in is (inr (t, same, t_is, of, its, adds)) f =
      subst (λ ts. AreFoundIn spacing pieces owners cells (n + 1) ts more_edges) (sym same) (found_tile n cell tiles t edges more_edges rising n_in is t_is of its adds f)

  -- conflicts by cells are all conflicts
  members : (layer : List Rect) (side : ℕ) (tiles : List Tile) (edges : List (ℕ × ℕ)) → AreCells (Covers layer) side cells → ((p : Pt) → union_of pieces p → Covers layer p)
      → AreFoundIn spacing pieces owners cells (length cells) tiles edges → (e : ℕ × ℕ) → Contains edges e ↔ ((e.0 < e.1) × Conflict spacing pieces owners e.0 e.1)
  members layer side tiles edges grid inside f e = (
    f.sound e,
    λ (rise, c). (
        let (p, q, in_a, in_b, near) = c.near in
        let (cell, (k, k_in, is), has) = grid.full p (inside p (e.0, get_or pieces e.0 [], c.first, get_or_default pieces e.0 (get_or pieces e.0 []) [] c.first, in_a)) in
        f.all e p q k cell rise c.second c.apart in_a in_b near k_in k_in (subst (λ r. Has r p) (sym is) has)),
  )

  pub all_tiles : (layer : List Rect) (side : ℕ) (tiles : List Tile) (edges sorted once : List (ℕ × ℕ)) → AreCells (Covers layer) side cells
      → ((p : Pt) → union_of pieces p → Covers layer p)
      → AreFoundIn spacing pieces owners cells (length cells) tiles edges → IsPermutation edges sorted → IsSorted pair_cmp sorted → once ≡ dedup pair_eq sorted
      → AreTilesOf spacing pieces owners cells tiles once
  all_tiles layer side tiles edges sorted once grid inside f same rising is =
      let Kind = λ (e : ℕ × ℕ). (e.0 < e.1) × Conflict spacing pieces owners e.0 e.1 in
      let all = members layer side tiles edges grid inside f in
      record {
        kept = record { rising = f.rising; edges = f.own };
        of = f.of;
        full = λ c (k, k_in, here) occupied. (
            let (t, t_in, t_is) = f.full k c k_in k_in (subst (IsOccupied (union_of pieces)) (sym here) occupied) in
            (t, t_in, t_is ∙ here));
        conflicts = record {
          ordered = pairs-ordered Kind edges sorted once all same rising is;
          exactly = λ u v. pairs-members Kind edges sorted once all same rising is (u, v);
        };
      }

-- steps for some of the first n cells
pub record TookBelow (Kind : Rect → Type 0) (cells : List Rect) (n from to : ℕ) : Type 0 where
  pub tiles : List Rect
  pub kind : All Kind tiles
  pub below : All (λ c. (k : ℕ) × (k < n) × (k < length cells) × (get_or cells k c ≡ c)) tiles
  pub different : AllPairs ◌≢◌ tiles
  pub each : to ≡ from + length tiles

pub took_none : (Kind : Rect → Type 0) (cells : List Rect) (steps : ℕ) → TookBelow Kind cells 0 steps steps
took_none Kind cells steps = record {
  tiles = [];
  kind = λ k d l. absurd (omega (arith, l));
  below = λ k d l. absurd (omega (arith, l));
  different = λ i j d l j_in. absurd (omega (arith, j_in));
  each = omega arith;
}

pub took_skip : (Kind : Rect → Type 0) (cells : List Rect) (n from to : ℕ) → TookBelow Kind cells n from to → TookBelow Kind cells (n + 1) from to
took_skip Kind cells n from to t = record {
  tiles = t.tiles;
  kind = t.kind;
  below = λ k d l. (let (m, m_in, here, at) = t.below k d l in (m, omega (arith, m_in), here, at));
  different = t.different;
  each = t.each;
}

pub took_one : (Kind : Rect → Type 0) (cells : List Rect) (n from to next : ℕ) (cell : Rect) → AllPairs Before cells → n < length cells → cell ≡ get_or cells n cell
    → Kind cell → next ≡ to + 1
    → TookBelow Kind cells n from to → TookBelow Kind cells (n + 1) from next
took_one Kind cells n from to next cell rising n_in is here one t =
    let Place : Rect → Type 0 = λ c. (k : ℕ) × (k < n + 1) × (k < length cells) × (get_or cells k c ≡ c) in
    let each = t.each in
    let long : length (t.tiles ++ cell ∷ []) ≡ length t.tiles + 1 = length-append t.tiles (cell ∷ []) in
    record {
      tiles = t.tiles ++ cell ∷ [];
      kind = All-push Kind t.tiles cell t.kind here;
      below = All-push Place t.tiles cell (λ k d l. (let (m, m_in, here, at) = t.below k d l in (m, omega (arith, m_in), here, at))) (n, omega arith, n_in, sym is);
      different = all_pairs_push ◌≢◌ t.tiles cell t.different (λ k d l same. (
          let (m, less, m_in, at) = t.below k d l in
          let a : get_or cells m cell ≡ cell = get_or_default cells m cell (get_or t.tiles k d) m_in ∙ (at ∙ same) in
          let before : Before cell cell = subst (λ c. Before c cell) a (subst (λ c. Before (get_or cells m cell) c) (sym is) (rising m n cell less n_in)) in
          Before-strict cell cell before before));
      each = omega (arith, each, one, long);
    }

-- a step or none
pub took_next : (Kind : Rect → Type 0) (cells : List Rect) (n from to next : ℕ) (cell : Rect) → AllPairs Before cells → n < length cells → cell ≡ get_or cells n cell
    → (next ≡ to) ⊎ ((next ≡ to + 1) × Kind cell)
    → TookBelow Kind cells n from to → TookBelow Kind cells (n + 1) from next
took_next Kind cells n from to next cell rising n_in is (inl same) t = subst (λ m. TookBelow Kind cells (n + 1) from m) (sym same) (took_skip Kind cells n from to t)
took_next Kind cells n from to next cell rising n_in is (inr (one, here)) t = took_one Kind cells n from to next cell rising n_in is here one t

pub took_all : (Kind Other : Rect → Type 0) (cells : List Rect) (n from to : ℕ) → ((c : Rect) → Contains cells c → Kind c → Other c) → TookBelow Kind cells n from to
    → TookFew Other from to
took_all Kind Other cells n from to into t = record {
  tiles = t.tiles;
  kind = λ k d l. (let (m, less, m_in, at) = t.below k d l in into (get_or t.tiles k d) (m, m_in, at) (t.kind k d l));
  different = t.different;
  each = t.each;
}

pub took_other : (Kind Other : Rect → Type 0) (from to : ℕ) → ((c : Rect) → Kind c → Other c) → TookFew Kind from to → TookFew Other from to
took_other Kind Other from to into t = record { tiles = t.tiles; kind = λ k d l. into (get_or t.tiles k d) (t.kind k d l); different = t.different; each = t.each }

pub took_nothing : (Kind : Rect → Type 0) (from to : ℕ) → to ≡ from → TookFew Kind from to
took_nothing Kind from to same = record {
  tiles = [];
  kind = λ k d l. absurd (omega (arith, l));
  different = λ i j d l j_in. absurd (omega (arith, j_in));
  each = omega (arith, same);
}

-- a cell with a square of a piece, among those over the layer
pub fresh_of : (rule : ℕ) (old : List Tile) (layer : List Rect) (side : ℕ) (pieces : List (List Rect)) (owners : List ℕ) (cells : List Rect)
    → AreCells (Covers layer) side cells → (c : Rect)
    → IsChangedAmong cells rule old pieces owners c → IsFresh rule old side pieces owners c
fresh_of rule old layer side pieces owners cells grid c (c_in, (occupied, new)) = ((All-contains (IsCell side) cells c grid.each c_in, occupied), new)
