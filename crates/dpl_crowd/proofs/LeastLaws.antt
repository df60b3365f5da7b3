-- The least number of a kind, the parent of a number, and the least level edge.
use Rattle.std.proofs.Common.{◌≡◌, ◌∙◌, ℕ, ◌+◌, ◌-◌, ◌<◌, ◌≤◌, ◌⊎◌, inl, inr, Option, Some, None, List, length, get_or, refl, sym, ap, subst, arith}
use Rattle.std.specs.Prelude.{◌↔◌, MatchOption}
use Rattle.std.specs.List.{Contains}
use Rattle.std.proofs.lemmas.Bool.{cases_eq, cases_lt}
use Rattle.dpl_spec_split.specs.Graphs.{Graph, IsDistance}
use Rattle.dpl_spec_split.specs.Cycle.{IsLevelEdge, IsParent}
use Rattle.dpl_spec_split.proofs.GraphLaws.{distance-unique}
use Rattle.dpl_stars.proofs.Walks.{IsUndirected, distance-before}
use Rattle.dpl_crowd.specs.Walking.{AreLevelsTo, ArePast, IsLeast, IsLeastEdge, IsOn, nowhere}
use Rattle.dpl_crowd.proofs.MeetLaws.{IsSame, OfFirst, all-listed, first-more, first-none}

-- one number more
pub least-more : (Kind Other : ℕ → Type 0) (v : ℕ) → ((w : ℕ) → Other w ↔ (Kind w ⊎ (w ≡ v))) → (old new : Option ℕ) → IsLeast Kind old
    → MatchOption old (IsLeast (λ w. w ≡ v) new) (λ x. IsLeast (λ w. (w ≡ v) ⊎ (w ≡ x)) new) → IsLeast Other new
least-more Kind Other v other None None none step = absurd (step v refl)
least-more Kind Other v other None (Some w) none (is, low) = (
  (other w).1 (inr is),
  λ x k. elim ((other x).0 k) [ inl a ↦ absurd (none x a) | inr e ↦ low x e ],
)
least-more Kind Other v other (Some x) None least step = absurd (step v (inl refl))
least-more Kind Other v other (Some x) (Some w) (there, least) (is, low) = (
  elim is [ inl e ↦ (other w).1 (inr e) | inr e ↦ (other w).1 (inl (subst Kind (sym e) there)) ],
  λ y k. elim ((other y).0 k) [
    | inl a ↦ let l = least y a in let m = low x (inr refl) in omega (arith, l, m)
    | inr e ↦ low y (inl e)
  ],
)

pub least-as : (Kind Other : ℕ → Type 0) → ((w : ℕ) → Kind w ↔ Other w) → (least : Option ℕ) → IsLeast Kind least → IsLeast Other least
least-as Kind Other same None none = λ w k. none w ((same w).1 k)
least-as Kind Other same (Some w) (there, least) = ((same w).0 there, λ x k. least x ((same x).1 k))

module _ (joined : Graph) (n d : ℕ) (levels : List ℕ) (below : (u v : ℕ) → joined u v → v < n) (h : AreLevelsTo joined 0 n d levels) where
  -- the level of a number at some distance that isn't too far
  placed : (v m : ℕ) → v < n → m ≤ d → IsDistance joined 0 v m → (get_or levels v 0 ≡ m) × (get_or levels v 0 < nowhere)
  placed v m v_in up at = elim (cases_lt (get_or levels v 0) nowhere) [
    | inr out ↦ absurd (h.none v m v_in out up at.walk)
    | inl l ↦ (distance-unique joined 0 v (get_or levels v 0) m (h.known v v_in l).0 at, l)
  ]

  module _ (un : IsUndirected joined) (v : ℕ) (v_in : v < n) (reached : get_or levels v 0 < nowhere) (high : 0 < get_or levels v 0) where
    at : IsDistance joined 0 v (get_or levels v 0)
    at = (h.known v v_in reached).0

    before : (u : ℕ) × joined v u × IsDistance joined 0 u (get_or levels v 0 - 1)
    before = distance-before joined un 0 v (get_or levels v 0) (get_or levels v 0 - 1) at (omega (arith, high))

    pub parent-some : IsLeast (λ w. joined v w × IsOn levels 0 (get_or levels v 0 - 1) w) None → ⊥
    parent-some none =
        let (u, joins, there) = before in
        let up = (h.known v v_in reached).1 in
        none u (joins, record { late = omega arith; on = (placed u (get_or levels v 0 - 1) (below v u joins) (omega (arith, up)) there).0 })

    module _ (w : ℕ) (least : IsLeast (λ w. joined v w × IsOn levels 0 (get_or levels v 0 - 1) w) (Some w)) where
      pub parent-in : w < n
      parent-in = below v w least.0.0

      pub parent-lower : get_or levels w 0 + 1 ≡ get_or levels v 0
      parent-lower = let on = least.0.1.on in omega (arith, on, high)

      pub parent-is : IsParent joined 0 v w
      parent-is =
          let on = least.0.1.on in
          let up = (h.known v v_in reached).1 in
          let there : IsDistance joined 0 w (get_or levels w 0) = (h.known w parent-in (omega (arith, on, reached))).0 in
          record {
            joined_by = least.0.0;
            level = (get_or levels w 0, there, subst (λ m. IsDistance joined 0 v m) (sym parent-lower) at);
            least = λ u m joins a here.
                let level_v : get_or levels v 0 ≡ m + 1 = distance-unique joined 0 v (get_or levels v 0) (m + 1) at here in
                let level_u = (placed u m (below v u joins) (omega (arith, up, level_v)) a).0 in
                least.1 u (joins, record { late = omega arith; on = omega (arith, level_u, level_v) });
          }

  -- the levels of the ends of a level edge, of which the smaller is reached
  ends_level : (e : ℕ × ℕ) → IsLevelEdge joined 0 e → e.0 < n → get_or levels e.0 0 < nowhere → get_or levels e.1 0 ≡ get_or levels e.0 0
  ends_level e is e_in reached =
      let (m, a, b) = is.level in
      let (at_e, up) = h.known e.0 e_in reached in
      let same : get_or levels e.0 0 ≡ m = distance-unique joined 0 e.0 (get_or levels e.0 0) m at_e a in
      (placed e.1 m (below e.0 e.1 is.joined_by) (omega (arith, up, same)) b).0 ∙ sym same

  module _ (v : ℕ) (v_in : v < n) (reached : get_or levels v 0 < nowhere) (past : ArePast joined 0 v) where
    -- the larger end of a level edge of v
    mate : (e : ℕ × ℕ) → IsLevelEdge joined 0 e → e.0 ≡ v → joined v e.1 × IsOn levels (v + 1) (get_or levels v 0) e.1
    mate e is same =
        let order = is.order in
        let level : get_or levels e.1 0 ≡ get_or levels e.0 0 = ends_level e is (omega (arith, same, v_in)) (subst (λ u. get_or levels u 0 < nowhere) (sym same) reached) in
        (subst (λ u. joined u e.1) same is.joined_by, record { late = omega (arith, order, same); on = level ∙ ap (λ u. get_or levels u 0) same })

    pub past-more : IsLeast (λ w. joined v w × IsOn levels (v + 1) (get_or levels v 0) w) None → ArePast joined 0 (v + 1)
    past-more none e is = elim (cases_eq e.0 v) [
      | inl same ↦ absurd (none e.1 (mate e is same))
      | inr ne ↦ let l = past e is in omega (arith, l, ne)
    ]

    pub edge-found : (w : ℕ) → IsLeast (λ w. joined v w × IsOn levels (v + 1) (get_or levels v 0) w) (Some w) → IsLeastEdge joined levels (v, w)
    edge-found w ((joins, on), least) =
        let many = h.as_many in
        let w_in = below v w joins in
        let late = on.late in
        let level = on.on in
        record {
          first_in = omega (arith, v_in, many);
          second_in = omega (arith, w_in, many);
          reached = reached;
          level = level;
          on = record {
            order = omega (arith, late);
            joined_by = joins;
            level = (
              get_or levels v 0,
              (h.known v v_in reached).0,
              subst (λ m. IsDistance joined 0 w m) level (h.known w w_in (omega (arith, level, reached))).0,
            );
          };
          least = λ e is. elim (cases_eq e.0 v) [
            | inr ne ↦ let l = past e is in inr (inl (omega (arith, l, ne)))
            | inl same ↦
                let l = least e.1 (mate e is same) in
                elim (cases_eq w e.1) [
                  | inl also ↦ inl (let f : e.0 ≡ v = same in let g : w ≡ e.1 = also in let r : (v, w) ≡ (e.0, e.1) = cc in r)
                  | inr other ↦ inr (inr (sym same, omega (arith, l, other)))
                ]
          ];
        }

-- the numbers of a list that are on a level, number by number
abbrev pub IsOnFirst : List ℕ → List ℕ → ℕ → ℕ → ℕ → ℕ → Type 0
IsOnFirst found levels from level n w = OfFirst IsSame found n w × IsOn levels from level w

module _ (found levels : List ℕ) (from level n v : ℕ) (n_in : n < length found) (is : v ≡ get_or found n v) where
  pub on-more : from ≤ v → get_or levels v 0 ≡ level → (w : ℕ) → IsOnFirst found levels from level (n + 1) w ↔ (IsOnFirst found levels from level n w ⊎ (w ≡ v))
  on-more late on w =
      let more = first-more IsSame found n v n_in is w in (
        λ (k, there). elim (more.0 k) [ inl old ↦ inl (old, there) | inr same ↦ inr same ],
        λ h. elim h [
          | inl (old, there) ↦ (more.1 (inl old), there)
          | inr same ↦ (more.1 (inr same), subst (λ u. IsOn levels from level u) (sym same) (let here : IsOn levels from level v = record { late = late; on = on } in here))
        ],
      )

  pub on-same : (IsOn levels from level v → ⊥) → (w : ℕ) → IsOnFirst found levels from level n w ↔ IsOnFirst found levels from level (n + 1) w
  on-same off w =
      let more = first-more IsSame found n v n_in is w in (
        λ (k, there). (more.1 (inl k), there),
        λ (k, there). elim (more.0 k) [
          | inl old ↦ (old, there)
          | inr same ↦ absurd (off (subst (λ u. IsOn levels from level u) same there))
        ],
      )

pub on-none : (found levels : List ℕ) (from level : ℕ) → IsLeast (IsOnFirst found levels from level 0) None
on-none found levels from level w (k, on) = first-none IsSame found w k

pub on-all : (found levels : List ℕ) (from level n : ℕ) → length found ≤ n → (w : ℕ) → IsOnFirst found levels from level n w ↔ (Contains found w × IsOn levels from level w)
on-all found levels from level n all w =
    let same = all-listed found n all w in
    (λ (k, on). (same.0 k, on), λ (k, on). (same.1 k, on))

pub on-beside : (joined : Graph) (found levels : List ℕ) (v from level : ℕ) → ((w : ℕ) → Contains found w ↔ joined v w)
    → (w : ℕ) → (Contains found w × IsOn levels from level w) ↔ (joined v w × IsOn levels from level w)
on-beside joined found levels v from level same w = (λ (k, on). ((same w).0 k, on), λ (k, on). ((same w).1 k, on))
