-- Totals up to a ceiling.
use Rattle.std.proofs.Common.{◌≡◌, ◌≢◌, ℕ, zero, suc, ◌+◌, ◌*◌, ◌<◌, ◌≤◌, ⊎_elim, min, mul-zero, zero-mul, suc-mul, Bool, List, [], ◌∷◌}
use Rattle.std.proofs.Common.{Option, Some, None, map, length, get_or, set, take, replicate, refl, sym, ap, subst, ◌∙◌, arith}
use Rattle.std.proofs.Common.{get_or-set_other, get_or-set_same, length-set}
use Rattle.std.proofs.lemmas.Bool.{cases_lt, cases_eq}
use Rattle.std.proofs.lemmas.List.{length-replicate}
use Rattle.std.proofs.lemmas.List.Sums.{sum_by-cons, sum_by_more}
use Rattle.std.proofs.lemmas.List.Elements.{All-set, All-replicate}
use Rattle.std.specs.List.{Contains, All, sum_by}
use Rattle.dpl_spec_split.proofs.Ordered.{Contains-head, Contains-later}
use Rattle.dpl_spec_format.specs.Tree.{Library, Element, elements_at}
use Rattle.dpl_syntax.specs.declared.element.Element.{Element as Found}
use Rattle.dpl_syntax.specs.Elements.{element_seen}
use Rattle.dpl_spec_layout.specs.declared.Layer.{Layer}
use Rattle.dpl_spec_layout.specs.Elements.{point_count, columns_of, rows_of}
use Rattle.dpl_spec_layout.specs.Structures.{target_of}
use Rattle.dpl_spec_layout.specs.Points.{points_by, points_at, points_through, placed_points}
use Rattle.dpl_links.specs.Graph.{IsMarked}
use Rattle.dpl_links.specs.Order.{IsPlaced}
use Rattle.dpl_links.proofs.SpreadLaws.{marked_below}
use Rattle.dpl_flatten.specs.Links.{IsLinked, AlwaysFalls}
use Rattle.dpl_flatten.specs.Totals.{ceiling, AreTotals}
use Rattle.dpl_flatten.proofs.LeastLaws.{seen_at, seen_length}
use Rattle.dpl_flatten.proofs.BareLaws.{bare_of}

pub total_more : (f : Element → ℕ) (es : List Found) (ts : List Element) (i : ℕ) (d : Found) (total p new : ℕ) → map element_seen es ≡ ts
    → i < length es → p ≡ f (element_seen (get_or es i d)) → new ≡ min (total + p) ceiling → total ≡ min (sum_by f (take i ts)) ceiling
    → new ≡ min (sum_by f (take (i + 1) ts)) ceiling
total_more f es ts i d total p new e h is new_is total_is =
    let t : i < length ts = omega (arith, seen_length es ts e) in
    let more = sum_by_more f ts i (element_seen d) t in
    let here = ap f (seen_at es ts i d (element_seen d) e h) in
    omega (arith, more, here, is, new_is, total_is)

at_least : (c p : ℕ) → ceiling ≤ p → ceiling ≤ suc c * p
at_least c p h = rw suc-mul (omega (arith, h))

capped : (a c p : ℕ) → min (a + c * min p ceiling) ceiling ≡ min (a + c * p) ceiling
capped a zero p = rw (zero-mul, zero-mul) refl
capped a (suc c) p =
    ⊎_elim (λ (l : p < ceiling). let e : min p ceiling ≡ p = omega arith in rw e refl)
    (λ (l : ceiling ≤ p). let e : min p ceiling ≡ ceiling = omega arith in let x = at_least c p l in let y = at_least c ceiling (omega arith) in rw e (omega (arith, x, y)))
    (cases_lt p ceiling)

capped_sum : (f g : Element → ℕ) (es : List Element) → ((e : Element) → Contains es e → min (f e) ceiling ≡ min (g e) ceiling)
    → min (sum_by f es) ceiling ≡ min (sum_by g es) ceiling
capped_sum f g [] same = refl
capped_sum f g (e ∷ es) same =
    let rest = capped_sum f g es (λ x c. same x (Contains-later e x es c)) in
    let first = same e (Contains-head e es) in
    omega (arith, sum_by-cons f e es, sum_by-cons g e es, rest, first)

-- the totals of the marked structures of levels below a bound are right
pub record Totalled (lib : Library) (layer : Layer) (marks : List Bool) (levels : List ℕ) (bound : ℕ) (totals : List ℕ) : Type 0 where
  pub each : length totals ≡ length lib.structures
  pub small : All (λ n. n ≤ ceiling) totals
  pub right : (k n : ℕ) → IsMarked marks k → get_or levels k 0 < bound → get_or levels k 0 ≤ n → get_or totals k 0 ≡ min (points_through lib layer n k) ceiling

module _ (lib : Library) (layer : Layer) (graph : List (List ℕ)) (marks : List Bool) (levels : List ℕ) (links : IsLinked lib graph marks)
    (falls : AlwaysFalls graph marks levels) where
  same_at : (k n : ℕ) (totals : List ℕ) (e : Element)
      → ((j : ℕ) → target_of lib e ≡ Some j → get_or totals j 0 ≡ min (points_through lib layer n j) ceiling)
      → min (points_by lib layer (λ j. get_or totals j 0) e) ceiling ≡ min (points_by lib layer (points_through lib layer n) e) ceiling
  same_at k n totals e right = by_target (target_of lib e) right
    where
      own : ℕ
      own = point_count layer e.body

      copies : ℕ
      copies = columns_of e.body * rows_of e.body

      by_target : (o : Option ℕ) → ((j : ℕ) → o ≡ Some j → get_or totals j 0 ≡ min (points_through lib layer n j) ceiling)
          → min (point_count layer e.body + columns_of e.body * rows_of e.body * points_at (λ j. get_or totals j 0) o) ceiling ≡ min
          (point_count layer e.body + columns_of e.body * rows_of e.body * points_at (points_through lib layer n) o) ceiling
      by_target None right = refl
      by_target (Some j) right = rw (right j refl) (capped (point_count layer e.body) (columns_of e.body * rows_of e.body) (points_through lib layer n j))

  none_at : (totals : List ℕ) (e : Element) → ((j : ℕ) → target_of lib e ≡ Some j → ⊥) → points_by lib layer (λ j. get_or totals j 0) e ≡ point_count layer e.body
  none_at totals e none = by_target (target_of lib e) none
    where
      by_target : (o : Option ℕ) → ((j : ℕ) → o ≡ Some j → ⊥) → point_count layer e.body + columns_of e.body * rows_of e.body * points_at
          (λ j. get_or totals j 0) o ≡ point_count layer e.body
      by_target None none = rw mul-zero (omega arith)
      by_target (Some j) none = absurd (none j refl)

  -- a structure's total, where those below it are right
  total_right : (k n bound : ℕ) (totals : List ℕ) → Totalled lib layer marks levels bound totals → IsMarked marks k
      → get_or levels k 0 ≤ bound → get_or levels k 0 ≤ n
      → min (sum_by (points_by lib layer (λ j. get_or totals j 0)) (elements_at lib k)) ceiling ≡ min (points_through lib layer n k) ceiling
  total_right k zero bound totals t m b h =
      capped_sum (points_by lib layer (λ j. get_or totals j 0)) (λ (e : Element). point_count layer e.body) (elements_at lib k)
      (λ e c. rw (none_at totals e (λ j target. let f = falls k j m (links.graph_of.refers k j (e, c, target)) in omega (arith, f, h))) refl)
  total_right k (suc n) bound totals t m b h =
      capped_sum (points_by lib layer (λ j. get_or totals j 0)) (points_by lib layer (points_through lib layer n)) (elements_at lib k)
      (λ e c. same_at k n totals e (λ j target. let edge = links.graph_of.refers k j (e, c, target) in let f = falls k j m edge in
      t.right j n (links.closed k j m edge) (omega (arith, f, b)) (omega (arith, f, h))))

  pub totalled_start : (count : ℕ) (totals : List ℕ) → totals ≡ replicate count 0 → count ≡ length lib.structures → Totalled lib layer marks levels 0 totals
  totalled_start count totals e same = record {
    each = ap length e ∙ (length-replicate count 0 ∙ same);
    small = rw e (All-replicate (λ n. n ≤ ceiling) count 0 (omega arith));
    right = λ k n m below h. absurd (omega (arith, below));
  }

  stands : (k bound : ℕ) (vertices : List ℕ) → ((i : ℕ) → IsMarked marks i → IsPlaced levels vertices i) → IsMarked marks k
      → get_or levels k 0 ≡ bound → get_or vertices bound 0 ≡ k
  stands k bound vertices placed m w = let p : get_or vertices (get_or levels k 0) 0 ≡ k = (placed k m).stands in subst (λ (x : ℕ). get_or vertices x 0 ≡ k) w p

  pub totalled_more : (bound s : ℕ) (vertices totals new : List ℕ) → length marks ≡ length lib.structures
      → ((i : ℕ) → IsMarked marks i → IsPlaced levels vertices i) → get_or vertices bound 0 ≡ s
      → new ≡ set totals s (min (sum_by (points_by lib layer (λ j. get_or totals j 0)) (elements_at lib s)) ceiling)
      → Totalled lib layer marks levels bound totals → Totalled lib layer marks levels (bound + 1) new
  totalled_more bound s vertices totals new each placed some is t = rw is (record {
    each = length-set totals s (total s) ∙ t.each;
    small = All-set (λ n. n ≤ ceiling) totals s (total s) (omega arith) t.small;
    right = λ k n m below h. ⊎_elim (λ (e : k ≡ s). same k n m below h e) (λ (ne : k ≢ s). other k n m below h ne) (cases_eq k s);
  })
    where
      total : ℕ → ℕ
      total k = min (sum_by (points_by lib layer (λ j. get_or totals j 0)) (elements_at lib k)) ceiling

      same : (k n : ℕ) → IsMarked marks k → get_or levels k 0 < bound + 1 → get_or levels k 0 ≤ n → k ≡ s
          → get_or (set totals s (total s)) k 0 ≡ min (points_through lib layer n k) ceiling
      same k n m below h e =
          let i : s < length totals = rw (← e) (omega (arith, marked_below marks k m, each, t.each)) in
          rw (e, get_or-set_same) (rw (← e) (total_right k n bound totals t m (omega (arith, below)) h))

      other : (k n : ℕ) → IsMarked marks k → get_or levels k 0 < bound + 1 → get_or levels k 0 ≤ n → k ≢ s
          → get_or (set totals s (total s)) k 0 ≡ min (points_through lib layer n k) ceiling
      other k n m below h ne =
          rw get_or-set_other
          (⊎_elim (λ (l : get_or levels k 0 < bound). t.right k n m l h)
          (λ (l : bound ≤ get_or levels k 0). let w : get_or levels k 0 ≡ bound = omega (arith, below) in
          absurd (ne (sym (stands k bound vertices placed m w) ∙ some))) (cases_lt (get_or levels k 0) bound))

  pub totalled_all : (bound : ℕ) (vertices totals : List ℕ) → length vertices ≤ bound → length vertices ≤ length lib.structures
      → ((i : ℕ) → IsMarked marks i → IsPlaced levels vertices i) → Totalled lib layer marks levels bound totals
      → AreTotals lib layer marks totals
  totalled_all bound vertices totals h few placed t = record {
    each = t.each;
    small = t.small;
    right = λ k m. whole k m;
    bare = λ k m none. let l = (placed k m).inside in
        bare_of lib layer graph marks levels links falls (length lib.structures) k m (omega (arith, l, few)) (omega (arith, whole k m, none));
  }
    where
      whole : (k : ℕ) → IsMarked marks k → get_or totals k 0 ≡ min (placed_points lib layer k) ceiling
      whole k m = let l = (placed k m).inside in t.right k (length lib.structures) m (omega (arith, l, h)) (omega (arith, l, few))
