-- Two seats that meet keep the rule of the board.
use Rattle.std.proofs.Common.{nat_lt, get_or, drop, ◌≡◌, ◌≢◌, ◌∙◌, ◌+◌, ◌<◌, ◌≤◌, ℕ, Bool, true, false, List, [], ◌∷◌, ◌++◌, length, set}
use Rattle.std.proofs.Common.{refl, sym, ap, subst, inl, inr, ⊎_elim, arith}
use Rattle.std.proofs.lemmas.List.{append-nil}
use Rattle.std.proofs.lemmas.Bool.{cases_lt}
use Rattle.std.proofs.lemmas.Bool.Decides.{nat_tests}
use Rattle.std.specs.Prelude.{if◌then◌else◌, slice_index}
use mathlib.Core.Logic.{dite}
use native.Mathlib.Decide.{ℕ_discrete}
use mathlib.Core.Option.{some, some-injective}
use lib.ListN.{get_elem?}
use Rattle.atomic_table.specs.Table.{State, keeps, stepped}
use Rattle.atomic_table.proofs.Lists.{at_set, set_else, set_here}
use Rattle.dpl_turn.specs.declared.view.SeatView.{SeatView}
use Rattle.dpl_board.specs.declared.entry.Entry.{Entry}
use Rattle.dpl_board.specs.Sheets.{Sheet}
use Rattle.dpl_turn.specs.Rule.{AllPrefixes, Fits, IsKept, IsNamed, Slot, StartsWith, all_posts_at, posts_at, both_views, spent_view, longer}
use Rattle.dpl_turn.proofs.Views.{in_range, none_rise, off, one_set, posts_set, posts_swap}
use Rattle.dpl_turn.proofs.Merges.{entries_merged, posts_merged, rising_merged}

prefixes_append : (history : List Entry) (xs ys : List (List Entry)) → AllPrefixes history xs → AllPrefixes history ys → AllPrefixes history (xs ++ ys)
prefixes_append history [] ys h k = k
prefixes_append history (x ∷ xs) ys h k = (h.0, prefixes_append history xs ys h.1 k)

few_posts : (p : ℕ) (history : List Entry) (views : List SeatView) (i j : ℕ) (v w : SeatView) → ¬ (j ≡ i) → get_elem? views i ≡ some v → get_elem? views j ≡ some w
    → ((p : ℕ) → p < length history → all_posts_at p views ≡ 1) → ((p : ℕ) → length history ≤ p → all_posts_at p views ≡ 0) → posts_at p v.own + posts_at p w.own ≤ 1
few_posts p history views i j v w apart at there within beyond =
    let vs = set views i spent_view in
    let one = posts_swap p views i v spent_view at in
    let two = posts_swap p vs j w spent_view (set_else views i j spent_view apart ∙ there) in
    ⊎_elim (λ (lt : p < length history). let k = within p lt in omega arith) (λ (le : length history ≤ p). let k = beyond p le in omega arith) (cases_lt p (length history))

longer_prefix : (history xs ys : List Entry) (b : Bool) → StartsWith history xs → StartsWith history ys → StartsWith history (if b then ys else xs)
longer_prefix history xs ys true h k = k
longer_prefix history xs ys false h k = h

-- one seat takes in what another knows
pub joins : (sheet : Sheet) (workers : ℕ) (s : State Slot SeatView) (id other : ℕ) (v w : SeatView) → v.holds ≡ false → w.holds ≡ false
    → IsKept sheet workers s → get_elem? s.views id ≡ some v → ¬ (other ≡ id)
    → get_elem? (set s.views id (both_views v w)) other ≡ some w
    → IsKept sheet workers (record { words = s.words; homes = s.homes; views = set (set s.views id (both_views v w)) other spent_view })
joins sheet workers s id other v w v_off w_off h at apart there =
    let both = both_views v w in
    let vs = set s.views id both in
    let was : get_elem? s.views other ≡ some w = ⊎_elim (λ (x : (other ≡ id) × (both ≡ w)). absurd (apart x.0))
    (λ (x : (other ≢ id) × (get_elem? s.views other ≡ some w)). x.1) (at_set s.views id other both w there) in
    let mine = h.fits id v at in
    let theirs = h.fits other w was in
    let known = longer_prefix h.history v.known w.known (nat_lt (length v.known) (length w.known)) mine.known theirs.known in
    let counts : (p : ℕ) → all_posts_at p (set vs other spent_view) ≡ all_posts_at p s.views = λ p.
    let one = posts_swap p s.views id v both at in
    let two = posts_swap p vs other w spent_view there in
    let both_of = posts_merged p v.own w.own in omega arith in
    let rises = rising_merged v.own w.own (λ p. few_posts p h.history s.views id other v w apart at was h.within h.beyond) theirs.rising in
    record {
      history = h.history;
      turn = h.turn;
      tile = h.tile;
      words = h.words;
      fits = λ i u e. ⊎_elim (λ (x : (i ≡ other) × (spent_view ≡ u)). subst (Fits h.history) x.1 (record { known = (h.history, refl); own = tt; rising = none_rise; older = tt }))
          (λ (x : (i ≢ other) × (get_elem? vs i ≡ some u)). ⊎_elim
          (λ (y : (i ≡ id) × (both ≡ u)). subst (Fits h.history) y.1
          (record {
            known = known;
            own = entries_merged h.history v.own w.own mine.own theirs.own;
            rising = rises;
            older = (
              mine.known,
              (theirs.known, prefixes_append h.history v.older w.older mine.older theirs.older),
            );
          }))
          (λ (y : (i ≢ id) × (get_elem? s.views i ≡ some u)). h.fits i u y.1)
          (at_set s.views id i both u x.1))
          (at_set vs other i spent_view u e);
      within = λ p lt. counts p ∙ h.within p lt;
      beyond = λ p le. counts p ∙ h.beyond p le;
      proper = h.proper;
      one_sheet = λ i u e un. ⊎_elim (λ (x : (i ≡ other) × (spent_view ≡ u)). absurd (let k : spent_view.spent ≡ u.spent = ap (λ (z : SeatView). z.spent) x.1 in cc))
          (λ (x : (i ≢ other) × (get_elem? vs i ≡ some u)). one_set sheet workers s.views id v both at refl refl refl h.one_sheet i u x.1 un)
          (at_set vs other i spent_view u e);
      now = elim h.now [
        | inl f ↦ inl (
          f.0,
          record {
            state = f.1.state;
            home = f.1.home;
            same = f.1.same;
            stands = f.1.stands;
            nobody = λ i u e. ⊎_elim (λ (x : (i ≡ other) × (spent_view ≡ u)). ap (λ (z : SeatView). z.holds) (sym x.1))
                (λ (x : (i ≢ other) × (get_elem? vs i ≡ some u)). ⊎_elim (λ (y : (i ≡ id) × (both ≡ u)). ap (λ (z : SeatView). z.holds)
                (sym y.1) ∙ v_off) (λ (y : (i ≢ id) × (get_elem? s.views i ≡ some u)). f.1.nobody i u y.1)
                (at_set s.views id i both u x.1))
                (at_set vs other i spent_view u e);
          },
        )
        | inr k ↦
            let not_id : k.1.holder ≢ id = λ e. off
            (sym v_off ∙ ap (λ (z : SeatView). z.holds) (some-injective _ _ (sym at ∙ ap (get_elem? s.views) (sym e) ∙ k.1.one.1))
            ∙ k.1.one.2) in
            let not_other : k.1.holder ≢ other = λ e. off
            (sym w_off ∙ ap (λ (z : SeatView). z.holds) (some-injective _ _ (sym was ∙ ap (get_elem? s.views) (sym e) ∙ k.1.one.1))
            ∙ k.1.one.2) in
            inr (
              k.0,
              record {
                out = k.1.out;
                holder = k.1.holder;
                only = λ i u e on. ⊎_elim (λ (x : (i ≡ other) × (spent_view ≡ u)). absurd (off (ap (λ (z : SeatView). z.holds) x.1 ∙ on)))
                    (λ (x : (i ≢ other) × (get_elem? vs i ≡ some u)). ⊎_elim (λ (y : (i ≡ id) × (both ≡ u)). absurd
                    (off (sym v_off ∙ ap (λ (z : SeatView). z.holds) y.1 ∙ on)))
                    (λ (y : (i ≢ id) × (get_elem? s.views i ≡ some u)). k.1.only i u y.1 on) (at_set s.views id i both u x.1))
                    (at_set vs other i spent_view u e);
                one = (k.1.one.0, set_else vs other k.1.holder spent_view not_other ∙ set_else s.views id k.1.holder both not_id ∙ k.1.one.1, k.1.one.2);
              },
            )
      ];
    }

-- what two seats had seen is compared
pub meets : (sheet : Sheet) (workers : ℕ) (s : State Slot SeatView) (id : ℕ) (v : SeatView) (carried : List (ℕ × Slot)) → IsKept sheet workers s → get_elem? s.views id ≡ some v
    → IsKept sheet workers (stepped s 0 (slice_index s.words 0) id carried (record v { older = [] }) keeps)
    × ((history : List Entry) × StartsWith history v.known × AllPrefixes history v.older)
meets sheet workers s id v carried h at =
    let w = record v { older = [] } in
    let same : set s.words 0 (slice_index s.words 0) ≡ h.turn ∷ h.tile ∷ [] = ap (λ (l : List ℕ). set l 0 (slice_index l 0)) h.words in (
      record {
        history = h.history;
        turn = h.turn;
        tile = h.tile;
        words = same;
        fits = λ i u e. ⊎_elim (λ (x : (i ≡ id) × (w ≡ u)). subst (Fits h.history) x.1
            (record { known = (h.fits id v at).known; own = (h.fits id v at).own; rising = (h.fits id v at).rising; older = tt }))
            (λ (x : (i ≢ id) × (get_elem? s.views i ≡ some u)). h.fits i u x.1) (at_set s.views id i w u e);
        within = λ p lt. posts_set p s.views id v w at refl ∙ h.within p lt;
        beyond = λ p le. posts_set p s.views id v w at refl ∙ h.beyond p le;
        proper = h.proper;
        one_sheet = one_set sheet workers s.views id v w at refl refl refl h.one_sheet;
        now = elim h.now [
          | inl f ↦ inl (
            f.0,
            record {
              state = f.1.state;
              home = f.1.home;
              same = f.1.same;
              stands = f.1.stands;
              nobody = λ i u e. ⊎_elim (λ (x : (i ≡ id) × (w ≡ u)). ap (λ (y : SeatView). y.holds) (sym x.1) ∙ f.1.nobody id v at)
                  (λ (x : (i ≢ id) × (get_elem? s.views i ≡ some u)). f.1.nobody i u x.1) (at_set s.views id i w u e);
            },
          )
          | inr k ↦ inr (
            k.0,
            record {
              out = k.1.out;
              holder = k.1.holder;
              only = λ i u e on. ⊎_elim
                  (λ (x : (i ≡ id) × (w ≡ u)). let same = k.1.only id v at (ap (λ (y : SeatView). y.holds) x.1 ∙ on) in (
                    x.0 ∙ same.0,
                    ap (λ (y : SeatView). y.found) (sym x.1) ∙ same.1,
                    subst (IsNamed sheet workers h.history)
                        (ap (λ (y : SeatView). y.named) x.1) same.2,
                  ))
                  (λ (x : (i ≢ id) × (get_elem? s.views i ≡ some u)). k.1.only i u x.1 on) (at_set s.views id i w u e);
              one = dite (ℕ_discrete k.1.holder id)
                  (λ (e : k.1.holder ≡ id).
                  let mine : v ≡ k.1.one.0 = some-injective _ _ (sym at ∙ ap (get_elem? s.views) (sym e) ∙ k.1.one.1) in (
                    w,
                    subst (λ (j : ℕ). get_elem? (set s.views id w) j ≡ some w) (sym e)
                        (set_here s.views id w (in_range s.views id v at)),
                    ap (λ (y : SeatView). y.holds) mine ∙ k.1.one.2,
                  ))
                  (λ (ne : k.1.holder ≢ id). (k.1.one.0, set_else s.views id k.1.holder w ne ∙ k.1.one.1, k.1.one.2));
            },
          )
        ];
      },
      (h.history, (h.fits id v at).known, (h.fits id v at).older),
    )

-- of two beginnings of one history the shorter begins the longer
prefix_of : (a b r q : List Entry) → a ++ r ≡ b ++ q → length a ≤ length b → StartsWith b a
prefix_of [] b r q e le = (b, refl)
prefix_of (x ∷ a) [] r q e le = absurd (omega arith)
prefix_of (x ∷ a) (y ∷ b) r q e le =
    let same : y ≡ x = ap (λ (l : List Entry). get_or l 0 x) (sym e) in
    let t = prefix_of a b r q (ap (λ (l : List Entry). drop 1 l) e) (omega arith) in (t.0, ap (λ (z : Entry). z ∷ b) same ∙ ap (λ (l : List Entry). x ∷ l) t.1)

longer_of : (history a b : List Entry) (t : Bool) → nat_lt (length a) (length b) ≡ t → StartsWith history a → StartsWith history b
    → StartsWith (longer a b) a × StartsWith (longer a b) b
longer_of history a b true is p q =
    let lt : length a < length b = grind (arith, nat_tests) in
    let l : longer a b ≡ b = rw is refl in
    let f = prefix_of a b p.0 q.0 (sym p.1 ∙ q.1) (omega arith) in
    (subst (λ (x : List Entry). StartsWith x a) (sym l) f, subst (λ (x : List Entry). StartsWith x b) (sym l) ([], sym (append-nil b)))
longer_of history a b false is p q =
    let le : length b ≤ length a = grind (arith, nat_tests) in
    let l : longer a b ≡ a = rw is refl in
    let f = prefix_of b a q.0 p.0 (sym q.1 ∙ p.1) le in
    (subst (λ (x : List Entry). StartsWith x a) (sym l) ([], sym (append-nil a)), subst (λ (x : List Entry). StartsWith x b) (sym l) f)

pub longer_prefix_of : (history a b : List Entry) → StartsWith history a → StartsWith history b → StartsWith (longer a b) a × StartsWith (longer a b) b
longer_prefix_of history a b p q = longer_of history a b (nat_lt (length a) (length b)) refl p q
