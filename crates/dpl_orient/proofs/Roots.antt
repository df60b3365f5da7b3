-- The rows of a graph's summary give each vertex its root and its parity.
use Rattle.std.proofs.Common.{◌≡◌, ◌≢◌, ℕ, zero, suc, ◌%◌, ◌<◌, ◌⊎◌, inl, inr, Bool, false, List, map, get_or, refl, ap, ◌∙◌, subst, arith}
use Rattle.std.specs.Prelude.{◌==◌}
use Rattle.std.specs.List.{All, Contains}
use Rattle.std.proofs.lemmas.Bool.{cases_lt}
use Rattle.std.proofs.lemmas.List.{get_or-map, length-map}
use Rattle.std.proofs.lemmas.List.Elements.{All-contains, All-map}
use Rattle.dpl_spec_split.specs.Graphs.{Graph, Walk, stay, step, IsDistance, IsRoot, Reaches, graph_of}
use Rattle.dpl_spec_split.specs.Summary.{Row, IsStar, AreStars}
use Rattle.dpl_spec_split.specs.Colours.{AreRoots}
use Rattle.dpl_stars.specs.declared.list.Star.{Star}
use Rattle.dpl_stars.specs.Sums.{row_of}
use Rattle.dpl_orient.specs.Oriented.{AreColoursOfRows, IsColouring}
use Rattle.dpl_orient.specs.Rooted.{AreRooted, star}
use Rattle.dpl_orient.specs.Roots.{AreRootsOfRows}

contains-map : {X Y : Type 0} (f : X → Y) (xs : List X) (x : X) → Contains xs x → Contains (map f xs) (f x)
contains-map f xs x (k, within, is) = (k, let l = length-map xs f in omega (arith, l, within), get_or-map f xs k x (f x) within ∙ ap f is)

module _ (joined : Graph) where
  -- a vertex that reaches another has a last step on the way
  arrive : {u v n : ℕ} → Walk joined u v n → (u ≡ v) ⊎ ((w : ℕ) × joined w v)
  arrive stay = inl refl
  arrive (step {u} {v} {w} e rest) = elim (arrive rest) [
    | inl same ↦ inr (u, subst (λ x. joined u x) same e)
    | inr before ↦ inr before
  ]

  none-reaches : (v : ℕ) → ((r : ℕ) → IsRoot joined v r → ⊥) → (k u : ℕ) → u < k → Reaches joined u v → ⊥
  none-reaches v none zero u l reach = omega (arith, l)
  none-reaches v none (suc k) u l reach = none u
      (record {
        reached = reach;
        least = λ w other. elim (cases_lt w u) [
          | inl below ↦ absurd
              (none-reaches v none k w (omega (arith, l, below)) other)
          | inr above ↦ above
        ];
      })

  none-walks : (u v : ℕ) → ((n : ℕ) → IsDistance joined u v n → ⊥) → (k m : ℕ) → m < k → Walk joined u v m → ⊥
  none-walks u v none zero m l walk = omega (arith, l)
  none-walks u v none (suc k) m l walk = none m
      (record {
        walk = walk;
        least = λ n other. elim (cases_lt n m) [
          | inl below ↦ absurd
              (none-walks u v none k n (omega (arith, l, below)) other)
          | inr above ↦ above
        ];
      })

  module _ (back : (u v : ℕ) → joined u v → joined v u) (rows : List Row) (stars : AreStars joined rows) where
    row-missing : (v u : ℕ) → All (λ r. r.vertex ≢ v) rows → joined v u → (r : ℕ) → IsRoot joined v r → (n : ℕ) → IsDistance joined r v n → ⊥
    row-missing v u none e r root n distance =
        let row : Row = record { vertex = v; root = r; odd = (n % 2 == 1) } in
        let in_rows : Contains rows row = (stars.exactly row).1 ((u, e), (root, n, distance, refl)) in
        All-contains (λ s. s.vertex ≢ v) rows row none in_rows refl

    -- a vertex without a row isn't joined to any
    untouched : (v u : ℕ) → All (λ r. r.vertex ≢ v) rows → joined v u → ⊥
    untouched v u none e = none-reaches v (λ r root. none-walks r v (λ n distance. row-missing v u none e r root n distance)
        (suc root.reached.0) root.reached.0 (omega arith) root.reached.1) (suc v) v (omega arith) (0, stay)

    own-star : (v : ℕ) → All (λ r. r.vertex ≢ v) rows → IsStar joined v v false
    own-star v none = (
      record {
        reached = (0, stay);
        least = λ u reach. elim (arrive reach.1) [
          | inl same ↦ (let s : u ≡ v = same in omega (arith, s))
          | inr (w, e) ↦ absurd (untouched v w none (back w v e))
        ];
      },
      0,
      record { walk = stay; least = λ m walk. omega arith },
      refl,
    )

pub roots-from-rows : (joined : Graph) → ((u v : ℕ) → joined u v → joined v u)
    → (rows : List Star) (n : ℕ) (roots : List ℕ) (odds : List Bool) → AreStars joined (map row_of rows) → AreRooted rows n roots odds
    → AreRoots joined n roots odds
roots-from-rows joined back rows n roots odds stars h = record {
  lengths = (h.as_many_roots, h.as_many_odds);
  stars = λ v l. elim (h.star v l) [
    | inl in_rows ↦ ((stars.exactly (row_of (star v (get_or roots v 0) (get_or odds v false)))).0 (contains-map row_of rows _ in_rows)).1
    | inr (none, root_is, odd_is) ↦ rw (root_is, odd_is) (own-star joined back (map row_of rows) stars v (All-map (λ r. r.vertex ≢ v) row_of rows none))
  ];
}

pub graph-mutual : (edges : List (ℕ × ℕ)) (u v : ℕ) → graph_of edges u v → graph_of edges v u
graph-mutual edges u v (inl e) = inr e
graph-mutual edges u v (inr e) = inl e

-- the roots of a graph are those by the rows of its summary
pub rooted-from-rows : (edges : List (ℕ × ℕ)) (rows items : List Star) (n : ℕ) (roots : List ℕ) → items ≡ rows → AreRootsOfRows items n roots
    → AreStars (graph_of edges) (map row_of rows) → (odds : List Bool) × AreRoots (graph_of edges) n roots odds
rooted-from-rows edges rows items n roots is (odds, h) stars =
    (odds, roots-from-rows (graph_of edges) (graph-mutual edges) rows n roots odds stars (subst (λ r. AreRooted r n roots odds) is h))

-- a graph is coloured by the rows of its summary
pub coloured-from-rows : (edges : List (ℕ × ℕ)) (rows items : List Star) (n : ℕ) (sides : List (ℕ × ℕ)) (colours : List Bool)
    → items ≡ rows → AreColoursOfRows items n sides colours → AreStars (graph_of edges) (map row_of rows)
    → IsColouring (graph_of edges) n sides colours
coloured-from-rows edges rows items n sides colours is known stars = record {
  roots = known.roots;
  odds = known.odds;
  rooted = roots-from-rows (graph_of edges) (graph-mutual edges) rows n known.roots known.odds stars (subst (λ r. AreRooted r n known.roots known.odds) is known.rooted);
  coloured = known.coloured;
}
