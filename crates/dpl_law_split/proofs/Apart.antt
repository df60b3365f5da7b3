-- Without an odd cycle of conflicts a mask keeps squares of different features apart.
use Rattle.std.proofs.Common.{◌≡◌, ◌≢◌, ℕ, suc, ◌+◌, ◌%◌, ◌<◌, ◌≤◌, inl, inr, Bool, true, false, List, [], ◌∷◌, drop, length, get_or, sym, refl, ap, ◌∙◌, subst, arith}
use Rattle.std.specs.Prelude.{Option, Some, None, ◌==◌, ◌<ℤ◌}
use Rattle.std.specs.List.{Contains}
use Rattle.std.proofs.lemmas.Int.{ints}
use Rattle.std.proofs.lemmas.Bool.{cases_order}
use Rattle.std.proofs.lemmas.Bool.Decides.{nat_tests}
use Rattle.dpl_spec_split.proofs.SpacingLaws.{few-swapped, near-or_far}
use Rattle.dpl_spec_split.specs.declared.Spacing.{Spacing}
use Rattle.dpl_spec_split.specs.declared.Pt.{Pt}
use Rattle.dpl_spec_split.specs.declared.Rect.{Rect}
use Rattle.dpl_spec_split.specs.declared.Zone.{Zone}
use Rattle.dpl_spec_split.specs.Squares.{Region, Covers, Has, Near}
use Rattle.dpl_spec_split.specs.Zones.{at, IsStretch, IsMiddle, IsHorizontalZone, IsKeptZone, transposed, transposed_rect, part_at}
use Rattle.dpl_spec_split.specs.Pieces.{Conflict}
use Rattle.dpl_spec_split.specs.Graphs.{Graph, stay, step, IsDistance}
use Rattle.dpl_spec_split.specs.Summary.{HasOddCycle}
use Rattle.dpl_spec_split.specs.Colours.{differ, AreRoots, colour_at, on_mask}
use Rattle.dpl_spec_split.specs.Marks.{Marks, Anchored, MarkEdge, letters_by, vertex, conflict, up, down, anchors, fixed_to_a, fixed_to_b}
use Rattle.dpl_spec_split.specs.Decomposition.{Cut, IsCut, conflicts, cut_graph, Masks}
use Rattle.dpl_law_split.specs.Letters.{AreLettered, AreSound}
use Rattle.dpl_spec_split.proofs.SquareLaws.{AreNear-sym, far-sym}
use Rattle.dpl_spec_split.proofs.GraphLaws.{root-unique}
use Rattle.dpl_stars.specs.Laws.{HasLevelEdge}
use Rattle.dpl_stars.proofs.Walks.{IsUndirected, root-along, distance-step}
use Rattle.dpl_stars.proofs.Forks.{level-cycle}
use Rattle.dpl_law_split.proofs.Parts.{part-within, part-inside, part-same, kept, zone-own, owner-is}

-- the squares of a zone are clear
module _ (spacing : Spacing) (overlap : ℕ) (layer f : Region) where
  margins : (r z : Rect) → IsStretch spacing overlap layer f r → IsMiddle overlap r z → (r.x0 <ℤ z.x0) × (z.x1 <ℤ r.x1)
  margins r z a m = elim m.middle [
    | inl e ↦ (omega (arith, ints, e, a.long, m.width), omega (arith, ints, e, a.long, m.width))
    | inr e ↦ (omega (arith, ints, e, a.long, m.width), omega (arith, ints, e, a.long, m.width))
  ]

  level-clear : (z : Rect) (p q : Pt) → IsHorizontalZone spacing overlap layer f z → Has z p → layer q → (f q → ⊥) → ¬ Near spacing p q
  level-clear z p q h has in_layer other =
      let g = margins h.stretch z h.is h.middle in
      let rows = h.middle.rows in
      let run = h.is.runs p.x (omega (arith, ints, g.0, has.left)) (omega (arith, ints, g.1, has.right)) in
      run.clear p.y (omega (arith, ints, has.low, rows.0)) (omega (arith, ints, has.high, rows.1)) q in_layer other

kept-clear : (spacing : Spacing) (overlap : ℕ) (layer f : Region) (z : Rect) (p q : Pt) → IsKeptZone spacing overlap layer f z → Has z p → layer q → (f q → ⊥) → ¬ Near spacing p q
kept-clear spacing overlap layer f z p q (inl h) has in_layer other near = level-clear spacing overlap layer f z p q h has in_layer other near
kept-clear spacing overlap layer f z p q (inr (v, apart)) has in_layer other near =
    level-clear spacing overlap (transposed layer) (transposed f) (transposed_rect z) (at p.y p.x) (at q.y q.x) v
    (record { left = has.low; right = has.high; low = has.left; high = has.right }) in_layer other (few-swapped spacing _ _ near)

-- letters
differ-same : (a b f : Bool) → differ a f ≡ differ b f → a ≡ b
differ-same false false f e = refl
differ-same true true f e = refl
differ-same false true false e = e
differ-same false true true e = sym e
differ-same true false false e = e
differ-same true false true e = sym e

same-parity : (n m : ℕ) → (n % 2 == 1) ≡ (m % 2 == 1) → n ≤ suc m → m ≤ suc n → n ≡ m
same-parity n m e a b = grind (arith, nat_tests)

module _ (joined : Graph) (un : IsUndirected joined) (count : ℕ) (roots : List ℕ) (odds : List Bool) (rooted : AreRoots joined count roots odds) where
  level : (root u v n : ℕ) → joined u v → IsDistance joined root u n → IsDistance joined root v n → HasLevelEdge joined root
  level root u v n e a b = elim (cases_order u v) [
    | inl same ↦ absurd (un.different u v e same)
    | inr h ↦ elim h [
      | inl l ↦ ((u, v), record { order = l; joined_by = e; level = (n, a, b) })
      | inr l ↦ ((v, u), record { order = l; joined_by = un.both u v e; level = (n, b, a) })
    ]
  ]

  -- neighbours have one root
  one-root : (u v : ℕ) → u < count → v < count → joined u v → get_or roots u 0 ≡ get_or roots v 0
  one-root u v u_in v_in e =
      root-unique joined v (get_or roots u 0) (get_or roots v 0) (root-along joined un u v (get_or roots u 0) (1, step e stay) (rooted.stars u u_in).0) (rooted.stars v v_in).0

  -- neighbours of one parity show an odd cycle
  parity-cycle : (u v : ℕ) → u < count → v < count → joined u v → get_or odds u false ≡ get_or odds v false → HasOddCycle joined
  parity-cycle u v u_in v_in e same =
      let root = get_or roots u 0 in
      let (a_root, n, a, a_odd) = rooted.stars u u_in in
      let (b_root, m, b_far, b_odd) = rooted.stars v v_in in
      let b : IsDistance joined root v m = subst (λ r. IsDistance joined r v m) (sym (one-root u v u_in v_in e)) b_far in
      let n_is : n ≡ m = same-parity n m (sym a_odd ∙ (same ∙ b_odd)) (distance-step joined root v u m n b (un.both u v e) a) (distance-step joined root u v n m a e b) in
      let (cycle, odd, reached) = level-cycle joined un root (level root u v m e (subst (λ k. IsDistance joined root u k) n_is a) b) in
      (cycle, odd)

  -- without an odd cycle neighbours have different letters
  pub letters-differ : (flips : ℕ → Bool) (colours : List Bool)
      → ((v : ℕ) → v < count → colour_at colours v ≡ differ (get_or odds v false) (flips (get_or roots v 0))) → (HasOddCycle joined → ⊥)
      → (u v : ℕ) → u < count → v < count → joined u v → colour_at colours u ≡ colour_at colours v → ⊥
  letters-differ flips colours coloured even u v u_in v_in e same =
      let one : flips (get_or roots v 0) ≡ flips (get_or roots u 0) = ap flips (sym (one-root u v u_in v_in e)) in
      let both : differ (get_or odds u false) (flips (get_or roots u 0)) ≡ differ (get_or odds v false) (flips (get_or roots u 0)) =
      sym (coloured u u_in) ∙ (same ∙ (coloured v v_in ∙ ap (λ f. differ (get_or odds v false) f) one)) in
      even (parity-cycle u v u_in v_in e (differ-same (get_or odds u false) (get_or odds v false) (flips (get_or roots u 0)) both))

conflicts-undirected : (spacing : Spacing) (c : Cut) → IsUndirected (conflicts spacing c)
conflicts-undirected spacing c = record {
  both = λ u v h. record { first = h.second; second = h.first; apart = λ e. h.apart (sym e); near = AreNear-sym spacing _ _ h.near };
  different = λ u v h e. h.apart (ap (λ k. get_or c.owners k 0) e);
}

edges-differ : (m : Marks) (pieces : List (List Rect)) (u v : ℕ) → MarkEdge m pieces u v → u ≡ v → ⊥
edges-differ m pieces u v (anchors a b) e = omega (arith, a, b, e)
edges-differ m pieces u v (fixed_to_b k k_in some a b) e = omega (arith, a, b, e)
edges-differ m pieces u v (fixed_to_a k k_in some a b) e = omega (arith, a, b, e)

-- with anchors or without, what is joined is joined both ways, and to no vertex itself
pub graph-undirected : (marks : Option Marks) (spacing : Spacing) (c : Cut) → IsUndirected (cut_graph marks spacing c)
graph-undirected None spacing c = conflicts-undirected spacing c
graph-undirected (Some m) spacing c = record { both = both; different = different }
  where
    both : (u v : ℕ) → Anchored spacing m c.pieces c.owners u v → Anchored spacing m c.pieces c.owners v u
    both u v (conflict i j h a b) = conflict j i ((conflicts-undirected spacing c).both i j h) b a
    both u v (up e) = down e
    both u v (down e) = up e

    different : (u v : ℕ) → Anchored spacing m c.pieces c.owners u v → u ≡ v → ⊥
    different u v (conflict i j h a b) e = (conflicts-undirected spacing c).different i j h (omega (arith, a, b, e))
    different u v (up h) e = edges-differ m c.pieces u v h e
    different u v (down h) e = edges-differ m c.pieces v u h (sym e)

-- conflicts join vertices
joined-vertices : (marks : Option Marks) (spacing : Spacing) (c : Cut) (k l : ℕ) → Conflict spacing c.pieces c.owners k l → cut_graph marks spacing c (vertex marks k) (vertex marks l)
joined-vertices None spacing c k l h = h
joined-vertices (Some m) spacing c k l h = conflict k l h refl refl

vertex-below : (marks : Option Marks) (k n : ℕ) → k < n → vertex marks k < vertex marks n
vertex-below None k n l = l
vertex-below (Some m) k n l = omega (arith, l)

behind-two : (cs : List Bool) (k : ℕ) → get_or (drop 2 cs) k false ≡ get_or cs (suc (suc k)) false
behind-two [] k = refl
behind-two (x ∷ []) k = refl
behind-two (x ∷ y ∷ cs) k = refl

-- a piece has its vertex's letter
pub letter-at : (marks : Option Marks) (colours : List Bool) (k : ℕ) → colour_at (letters_by marks colours) k ≡ colour_at colours (vertex marks k)
letter-at None colours k = refl
letter-at (Some m) colours k = let two : suc (suc k) ≡ k + 2 = omega arith in behind-two colours k ∙ ap (λ n. get_or colours n false) two

module _ (marks : Option Marks) (spacing : Spacing) (overlap : ℕ) (layer : Region) (c : Cut) (m : Masks) (cut : IsCut marks spacing overlap layer c)
    (masks : AreLettered marks c m) (sound : AreSound marks spacing c masks.colours) where
  -- a zone's square is clear of other features
  zone-far : (z : Zone) (i j : ℕ) (p q : Pt) → Contains c.zones z → Has z.rect p → part_at c.features i p → part_at c.features j q → i ≢ j → ¬ Near spacing p q
  zone-far z i j p q z_in has in_i in_j ne =
      let mine : z.feature ≡ i = part-same layer c.features z.feature i p cut.features (zone-own marks spacing overlap layer c cut z p z_in has) in_i in
      kept-clear spacing overlap layer (part_at c.features z.feature) z.rect p q (kept marks spacing overlap layer c cut z z_in).1 has
      (part-inside layer c.features j q cut.features in_j)
      (λ in_z. ne (sym mine ∙ part-same layer c.features z.feature j q cut.features in_z in_j))

  pieces-far : (letter : Bool) (k l i j : ℕ) (p q : Pt) → part_at c.pieces k p → part_at c.pieces l q → colour_at (letters_by marks masks.colours) k ≡ letter
      → colour_at (letters_by marks masks.colours) l ≡ letter → part_at c.features i p → part_at c.features j q → i ≢ j → ¬ Near spacing p q
  pieces-far letter k l i j p q in_k in_l k_is l_is in_i in_j ne = elim (near-or_far spacing p q) [
    | inr far ↦ far
    | inl close ↦ (let k_in = part-within c.pieces k p in_k in
        let l_in = part-within c.pieces l q in_l in
        let apart : get_or c.owners k 0 ≢ get_or c.owners l 0 = λ e. ne (sym (owner-is marks spacing overlap layer c cut k i p in_k in_i)
        ∙ (e ∙ owner-is marks spacing overlap layer c cut l j q in_l in_j)) in
        let joined : Conflict spacing c.pieces c.owners k l = record { first = k_in; second = l_in; apart = apart; near = (p, q, in_k, in_l, close) } in
        absurd (sound.apart (vertex marks k) (vertex marks l) (vertex-below marks k (length c.pieces) k_in) (vertex-below marks l (length c.pieces) l_in)
        (joined-vertices marks spacing c k l joined) (sym (letter-at marks masks.colours k) ∙ (k_is ∙ (sym l_is ∙ letter-at marks masks.colours l)))))
  ]

  masked-far : (letter : Bool) (i j : ℕ) (p q : Pt) → i ≢ j → part_at c.features i p → part_at c.features j q
      → on_mask c.pieces c.zones c.sides (letters_by marks masks.colours) letter p → on_mask c.pieces c.zones c.sides (letters_by marks masks.colours) letter q
      → ¬ Near spacing p q
  masked-far letter i j p q ne in_i in_j (inr (k, z, side, l, z_is, side_is, letter_is, has)) b = zone-far z i j p q (k, l, z_is) has in_i in_j ne
  masked-far letter i j p q ne in_i in_j (inl a) (inr (k, z, side, l, z_is, side_is, letter_is, has)) =
      far-sym spacing q p (zone-far z j i q p (k, l, z_is) has in_j in_i (λ e. ne (sym e)))
  masked-far letter i j p q ne in_i in_j (inl (k, k_in, k_is, in_k)) (inl (l, l_in, l_is, in_l)) = pieces-far letter k l i j p q in_k in_l k_is l_is in_i in_j ne

  pub far-on-a : (i j : ℕ) (p q : Pt) → i ≢ j → part_at c.features i p → part_at c.features j q → Covers m.a p → Covers m.a q → ¬ Near spacing p q
  far-on-a i j p q ne in_i in_j a b = masked-far false i j p q ne in_i in_j ((masks.a.covers p).0 a) ((masks.a.covers q).0 b)

  pub far-on-b : (i j : ℕ) (p q : Pt) → i ≢ j → part_at c.features i p → part_at c.features j q → Covers m.b p → Covers m.b q → ¬ Near spacing p q
  far-on-b i j p q ne in_i in_j a b = masked-far true i j p q ne in_i in_j ((masks.b.covers p).0 a) ((masks.b.covers q).0 b)
