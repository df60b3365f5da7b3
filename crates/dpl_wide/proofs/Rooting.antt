-- The slabs whose numbers have one root are a component.
use Rattle.std.proofs.Common.{◌≡◌, ℕ, ◌+◌, ◌*◌, ◌<◌, ◌≤◌, inl, inr, List, length, get_or, sym, ap, subst, ◌∙◌, arith}
use Rattle.std.specs.Prelude.{◌/◌}
use Rattle.std.proofs.lemmas.Int.{ints}
use Rattle.std.proofs.lemmas.List.{get_or_default}
use Rattle.dpl_spec_split.specs.declared.Pt.{Pt}
use Rattle.dpl_spec_split.specs.declared.Rect.{Rect}
use Rattle.dpl_spec_split.specs.Squares.{AreTouching, Covers, Has}
use Rattle.dpl_spec_split.specs.Slabs.{IsCanonical, IsSolid}
use Rattle.dpl_spec_split.specs.Components.{on}
use Rattle.dpl_spec_split.specs.Graphs.{Walk, stay, step, Reaches, graph_of}
use Rattle.dpl_spec_split.proofs.ComponentLaws.{Linked-trans}
use Rattle.dpl_spec_split.proofs.GraphLaws.{root-unique}
use Rattle.dpl_stars.proofs.Walks.{graph_of-undirected, root-along, Reaches-edge}
use Rattle.dpl_feature.specs.Meeting.{AreLinked, AreMet, InSlab, Meet}
use Rattle.dpl_feature.proofs.Links.{AreLinked-refl, AreLinked-sym, AreLinked-trans}
use Rattle.dpl_wide.specs.Touching.{AreParents, AreTouchEdges, SlabsTouch, no_slab, slab_at}
use Rattle.dpl_wide.proofs.Crossing.{ends-touch, touch-joins, touch-pairs}
use Rattle.dpl_wide.proofs.Rects.{close-touch}

module _ (slabs : List Rect) (canonical : IsCanonical slabs) where
  pub slab-solid : (k : ℕ) → k < length slabs → IsSolid (slab_at slabs k)
  slab-solid k l = canonical.solid k no_slab l

  in-slab : (k : ℕ) (p : Pt) → k < length slabs → Has (slab_at slabs k) p → InSlab slabs k p
  in-slab k p l has = (slab_at slabs k, l, get_or_default slabs k (slab_at slabs k) no_slab l, has)

  -- slabs that touch lie in one component
  touch-linked : (i j : ℕ) → SlabsTouch slabs i j → AreLinked slabs i j
  touch-linked i j both p q in_i in_j =
      let (a, b, a_in, b_in, touch) = both.touching in
      Linked-trans (Covers slabs) (AreLinked-refl slabs canonical i p a in_i (in-slab i a both.first a_in))
      (on (i, slab_at slabs i, both.first, get_or_default slabs i (slab_at slabs i) no_slab both.first, a_in) touch
      (AreLinked-refl slabs canonical j b q (in-slab j b both.second b_in) in_j))

  pub touch-itself : (k : ℕ) → k < length slabs → SlabsTouch slabs k k
  touch-itself k l =
      let solid = slab-solid k l in
      let wide = solid.wide in
      let tall = solid.tall in
      record {
        first = l;
        second = l;
        touching = close-touch (slab_at slabs k) (slab_at slabs k) solid solid (omega (arith, ints, wide)) (omega (arith, ints, wide))
            (omega (arith, ints, tall)) (omega (arith, ints, tall));
      }

  meet-touch : (i j : ℕ) (s r : Rect) → i < length slabs → j < length slabs → get_or slabs i s ≡ s → get_or slabs j r ≡ r → Meet s r → SlabsTouch slabs i j
  meet-touch i j s r i_in j_in s_is r_is m =
      let s_at : slab_at slabs i ≡ s = get_or_default slabs i no_slab s i_in ∙ s_is in
      let r_at : slab_at slabs j ≡ r = get_or_default slabs j no_slab r j_in ∙ r_is in
      let s_solid : IsSolid s = subst IsSolid s_at (slab-solid i i_in) in
      let r_solid : IsSolid r = subst IsSolid r_at (slab-solid j j_in) in
      let row = m.row in
      let s_tall = s_solid.tall in
      let r_tall = r_solid.tall in
      let touch : AreTouching (Has s) (Has r) = close-touch s r s_solid r_solid m.left m.right (omega (arith, ints, row)) (omega (arith, ints, row, s_tall, r_tall)) in
      record {
        first = i_in;
        second = j_in;
        touching = subst (λ (u : Rect). AreTouching (Has u) (Has (slab_at slabs j))) (sym s_at) (subst (λ (u : Rect). AreTouching (Has s) (Has u)) (sym r_at) touch);
      }

  module _ (edges : List (ℕ × ℕ)) (are : AreTouchEdges slabs edges) where
    -- the slabs of two numbers that are joined
    record AreHalves (u v : ℕ) : Type 0 where
      first : u / 2 < length slabs
      second : v / 2 < length slabs
      linked : AreLinked slabs (u / 2) (v / 2)

    halves-at : (i j u v : ℕ) → SlabsTouch slabs i j → u / 2 ≡ i → v / 2 ≡ j → AreHalves u v
    halves-at i j u v both u_is v_is = record {
      first = rw u_is both.first;
      second = rw v_is both.second;
      linked = rw (u_is, v_is) (touch-linked i j both);
    }

    halves-back : (u v : ℕ) → AreHalves u v → AreHalves v u
    halves-back u v h = record { first = h.second; second = h.first; linked = AreLinked-sym slabs canonical (u / 2) (v / 2) h.linked }

    halves-of : (u v : ℕ) → graph_of edges u v → AreHalves u v
    halves-of u v g =
        let (i, j, both, ends) = ends-touch slabs edges are u v g in
        elim ends [
          | inl (even, odd) ↦ halves-at i j u v both (omega (arith, even)) (omega (arith, odd))
          | inr (even, odd) ↦ halves-back v u (halves-at i j v u both (omega (arith, even)) (omega (arith, odd)))
        ]

    walk-linked : {u v n : ℕ} → Walk (graph_of edges) u v n → AreLinked slabs (u / 2) (v / 2)
    walk-linked {u = u} stay = AreLinked-refl slabs canonical (u / 2)
    walk-linked {u = u} {v = v} (step {v = w} g rest) =
        let h = halves-of u w g in
        AreLinked-trans slabs canonical (u / 2) (w / 2) (v / 2) h.second h.linked (walk-linked rest)

    module _ (parents : List ℕ) (parented : AreParents edges (length slabs) parents) where
      low : (k : ℕ) → k < length slabs → get_or parents k 0 ≤ k
      low k l =
          let (root, is, e) = parented.parent k l in
          let least : root ≤ 2 * k = is.least (2 * k) (0, stay) in
          omega (arith, least, e)

      linked : (k : ℕ) → k < length slabs → AreLinked slabs k (get_or parents k 0)
      linked k l =
          let (root, is, e) = parented.parent k l in
          let (n, walk) = is.reached in
          let back : AreLinked slabs (root / 2) k = subst (λ (m : ℕ). AreLinked slabs (root / 2) m) (let half : 2 * k / 2 ≡ k = omega arith in half) (walk-linked walk) in
          rw e (AreLinked-sym slabs canonical (root / 2) k back)

      -- slabs that touch have one parent
      same-parent : (i j : ℕ) → SlabsTouch slabs i j → get_or parents i 0 ≡ get_or parents j 0
      same-parent i j both =
          let (root, is, e) = parented.parent i both.first in
          let (other, other_is, f) = parented.parent j both.second in
          let un = graph_of-undirected edges (touch-pairs slabs edges are) in
          let there : Reaches (graph_of edges) (2 * i) (2 * j) =
          Reaches-edge (graph_of edges) (1, step (touch-joins slabs edges are i j both) stay)
          (un.both (2 * j) (2 * j + 1) (touch-joins slabs edges are j j (touch-itself j both.second))) in
          let same : root ≡ other = root-unique (graph_of edges) (2 * j) root other (root-along (graph_of edges) un (2 * i) (2 * j) root there is) other_is in
          e ∙ (ap (λ (m : ℕ). m / 2) same ∙ sym f)

      pub parents-met : AreMet slabs parents
      parents-met =
          let each : length parents ≡ length slabs = parented.each in
          record {
            sound = record {
              same_length = each;
              forest = λ k l. low k (omega (arith, each, l));
              linked = λ k l. linked k (omega (arith, each, l));
            };
            met = λ f labels i j s r i_in j_in s_is r_is m.
                labels i (omega (arith, each, i_in))
                ∙ (ap f (same-parent i j (meet-touch i j s r i_in j_in s_is r_is m)) ∙ sym (labels j (omega (arith, each, j_in))));
          }
