-- Each step of one seat keeps the rule of the board.
use Rattle.std.proofs.Common.{◌*◌, ◌/◌, ◌%◌, ◌^◌, ◌≡◌, ◌≢◌, ◌∙◌, ◌+◌, ◌<◌, ◌≤◌, ◌==◌, ℕ, Bool, true, false, List, [], ◌∷◌, ◌++◌, length, set}
use Rattle.std.proofs.Common.{Some, None, refl, sym, ap, subst, inl, inr, ⊎_elim, arith}
use Rattle.std.proofs.lemmas.List.{append-nil}
use mathlib.Core.Logic.{dite}
use native.Mathlib.Decide.{ℕ_discrete}
use Rattle.std.specs.Prelude.{slice_index}
use mathlib.Core.Option.{Option as Maybe, none, some, some-injective}
use lib.ListN.{get_elem?}
use prog.Atomic.{either}
use Rattle.atomic_table.specs.Table.{Act, Me, State, Step, Valid, carried_after, gives, keeps, step, stepped, takes}
use Rattle.atomic_table.proofs.Lists.{at_longer, at_set, at_snoc, set_again, set_else, set_here}
use Rattle.dpl_turn.specs.declared.view.SeatView.{SeatView}
use Rattle.dpl_board.specs.declared.entry.Entry.{Entry}
use Rattle.dpl_board.specs.Sheets.{Sheet, entry}
use Rattle.dpl_board.specs.Boards.{Board, Stands}
use Rattle.std.specs.List.{AllPairs}
use Rattle.dpl_turn.specs.Rule.{AreEntries, Fits, GivesTurn, Idle, HaveOne, Holding, IsKept, IsNamed, IsProper, entry_in}
use Rattle.dpl_turn.specs.Rule.{MayFollow, Slot, StartsWith, TriesTurn, after_give, all_posts_at, named_list, named_posts, newcomer}
use Rattle.dpl_turn.proofs.Views.{ByPlace, in_range, none_rise, off, one_set, posts_more, posts_set}
use Rattle.dpl_turn.proofs.Histories.{goes_on, goes_on_all, grown_beyond, grown_within, more_entries, more_rise, still_entries}

-- a new seat with what this one has seen
added : (sheet : Sheet) (workers : ℕ) (s : State Slot SeatView) (v : SeatView) (id : ℕ) → IsKept sheet workers s → get_elem? s.views id ≡ some v
    → v.spent ≡ false → IsKept sheet workers
    (record { words = s.words; homes = s.homes; views = s.views ++ newcomer v.sheet v.workers v.known ∷ [] })
added sheet workers s v id h at fresh = record {
  history = h.history;
  turn = h.turn;
  tile = h.tile;
  words = h.words;
  fits = λ i u e. ⊎_elim (λ (was : get_elem? s.views i ≡ some u). h.fits i u was) (λ (new : newcomer v.sheet v.workers v.known ≡ u). subst
      (Fits h.history) new (record { known = (h.fits id v at).known; own = tt; rising = none_rise; older = tt }))
      (at_snoc s.views (newcomer v.sheet v.workers v.known) u i e);
  within = λ p lt. posts_more p s.views (newcomer v.sheet v.workers v.known) ∙ (let w = h.within p lt in omega arith);
  beyond = λ p le. posts_more p s.views (newcomer v.sheet v.workers v.known) ∙ (let w = h.beyond p le in omega arith);
  proper = h.proper;
  one_sheet = λ i u e un. ⊎_elim (λ (was : get_elem? s.views i ≡ some u). h.one_sheet i u was un)
      (λ (new : newcomer v.sheet v.workers v.known ≡ u). let k = h.one_sheet id v at fresh in
      (ap (λ (x : SeatView). x.sheet) (sym new) ∙ k.0, ap (λ (x : SeatView). x.workers) (sym new) ∙ k.1))
      (at_snoc s.views (newcomer v.sheet v.workers v.known) u i e);
  now = elim h.now [
    | inl f ↦ inl (
      f.0,
      record {
        state = f.1.state;
        home = f.1.home;
        same = f.1.same;
        stands = f.1.stands;
        nobody = λ i u e. ⊎_elim (λ (was : get_elem? s.views i ≡ some u). f.1.nobody i u was)
            (λ (new : newcomer v.sheet v.workers v.known ≡ u). ap (λ (x : SeatView). x.holds) (sym new))
            (at_snoc s.views (newcomer v.sheet v.workers v.known) u i e);
      },
    )
    | inr k ↦ inr (
      k.0,
      record {
        out = k.1.out;
        holder = k.1.holder;
        only = λ i u e on. ⊎_elim (λ (was : get_elem? s.views i ≡ some u). k.1.only i u was on)
            (λ (new : newcomer v.sheet v.workers v.known ≡ u). absurd (off (ap (λ (x : SeatView). x.holds) new ∙ on)))
            (at_snoc s.views (newcomer v.sheet v.workers v.known) u i e);
        one = (k.1.one.0, at_longer s.views (newcomer v.sheet v.workers v.known ∷ []) k.1.holder k.1.one.0 k.1.one.1, k.1.one.2);
      },
    )
  ];
}

pub splits : (sheet : Sheet) (workers : ℕ) (s : State Slot SeatView) (v : SeatView) (id : ℕ) → IsKept sheet workers s → get_elem? s.views id ≡ some v → v.spent ≡ false
    → IsKept sheet workers (record { words = s.words; homes = s.homes; views = set s.views id v ++ newcomer v.sheet v.workers v.known ∷ [] })
splits sheet workers s v id h at fresh = subst
    (λ (l : List SeatView). IsKept sheet workers
    (record { words = s.words; homes = s.homes; views = l ++ newcomer v.sheet v.workers v.known ∷ [] })) (sym (set_again s.views id v at))
    (added sheet workers s v id h at fresh)

-- what a try owes
abbrev pub Tried : Sheet → ℕ → Step Slot → ℕ → SeatView → State Slot SeatView → Type 0
Tried sheet workers step id v s = (w : SeatView) × (a : Act Slot) × Valid s.homes [] a
    × IsKept sheet workers (stepped s 0 (either (slice_index s.words 0 == 0) 1 (slice_index s.words 0)) id [] w a)
    × TriesTurn step (v, []) (slice_index s.words 0) (w, carried_after [] a)

-- the turn is free, and this seat gets it
gets : (sheet : Sheet) (workers : ℕ) (step : Step Slot) (id : ℕ) (v : SeatView) (tile : ℕ) (state : Board) (history : List Entry) (views : List SeatView)
    → get_elem? views id ≡ some v → state.history ≡ history
    → ((i : ℕ) (u : SeatView) → get_elem? views i ≡ some u → Fits history u)
    → ((p : ℕ) → p < length history → all_posts_at p views ≡ 1)
    → ((p : ℕ) → length history ≤ p → all_posts_at p views ≡ 0)
    → ((i : ℕ) (u : SeatView) → get_elem? views i ≡ some u → u.holds ≡ false)
    → Stands sheet state → IsProper sheet workers history → HaveOne sheet workers views → v.spent ≡ false → v.named ≡ None
    → Tried sheet workers step id v (record { words = 0 ∷ tile ∷ []; homes = some (Some state) ∷ []; views = views })
gets sheet workers step id v tile state history views at same fits within beyond nobody stands proper one_sheet fresh unnamed =
    let w = record v { holds = true; found = state.history } in let k = one_sheet id v at fresh in (
      w,
      takes 0 (Some state),
      refl,
      record {
        history = history;
        turn = 1;
        tile = tile;
        words = refl;
        fits = λ i u e. ⊎_elim (λ (x : (i ≡ id) × (w ≡ u)). subst (Fits history) x.1
            (record {
              known = (fits id v at).known;
              own = (fits id v at).own;
              rising = (fits id v at).rising;
              older = (fits id v at).older;
            })) (λ (x : (i ≢ id) × (get_elem? views i ≡ some u)). fits i u x.1) (at_set views id i w u e);
        within = λ p lt. posts_set p views id v w at refl ∙ within p lt;
        beyond = λ p le. posts_set p views id v w at refl ∙ beyond p le;
        proper = proper;
        one_sheet = one_set sheet workers views id v w at refl refl refl one_sheet;
        now = inr (
          refl,
          record {
            out = refl;
            holder = id;
            only = λ i u e on. ⊎_elim (λ (x : (i ≡ id) × (w ≡ u)). (
              x.0,
              ap (λ (y : SeatView). y.found) (sym x.1) ∙ same,
              subst (IsNamed sheet workers history) (sym unnamed ∙ ap (λ (y : SeatView). y.named) x.1) tt,
            ))
                (λ (x : (i ≢ id) × (get_elem? views i ≡ some u)). absurd (off (sym (nobody i u x.1) ∙ on))) (at_set views id i w u e);
            one = (w, set_here views id w (in_range views id v at), refl);
          },
        );
      },
      (
        state,
        refl,
        subst (λ (l : List Entry). StartsWith l v.known) (sym same) (fits id v at).known,
        subst (λ (l : List Entry). AreEntries l v.own) (sym same) (fits id v at).own,
        subst (λ (z : Sheet). Stands z state) (sym k.0) stands,
        subst (λ (z : Sheet). IsProper z v.workers state.history) (sym k.0) (subst (λ (n : ℕ). IsProper sheet n state.history) (sym k.1)
            (subst (λ (l : List Entry). IsProper sheet workers l) (sym same) proper)),
        (fits id v at).rising,
      ),
    )

-- another seat has it
misses : (sheet : Sheet) (workers : ℕ) (step : Step Slot) (id : ℕ) (v : SeatView) (tile : ℕ) (s : State Slot SeatView) → IsKept sheet workers s
    → s.words ≡ 1 ∷ tile ∷ [] → get_elem? s.views id ≡ some v → Tried sheet workers step id v s
misses sheet workers step id v tile s h words at =
    subst (λ (l : List ℕ). (w : SeatView) × (a : Act Slot) × Valid s.homes [] a
    × IsKept sheet workers (stepped (record s { words = l }) 0 (either (slice_index l 0 == 0) 1 (slice_index l 0)) id [] w a)
    × TriesTurn step (v, []) (slice_index l 0) (w, carried_after [] a)) (sym words) (
      v,
      keeps,
      tt,
      subst (λ (l : List SeatView). IsKept sheet workers (record { words = 1 ∷ tile ∷ []; homes = s.homes; views = l }))
          (sym (set_again s.views id v at))
          (subst (λ (l : List ℕ). IsKept sheet workers (record { words = l; homes = s.homes; views = s.views })) words h),
      refl,
    )

pub tries : (sheet : Sheet) (workers : ℕ) (step : Step Slot) (id : ℕ) (v : SeatView) (s : State Slot SeatView) → IsKept sheet workers s
    → get_elem? s.views id ≡ some v → v.spent ≡ false → v.named ≡ None → Tried sheet workers step id v s
tries sheet workers step id v s h at fresh unnamed = elim h.now [
  | inl f ↦
      let words : s.words ≡ 0 ∷ h.tile ∷ [] = h.words ∙ ap (λ (n : ℕ). n ∷ h.tile ∷ []) f.0 in
      let got = gets sheet workers step id v h.tile f.1.state h.history s.views at f.1.same h.fits h.within h.beyond f.1.nobody f.1.stands h.proper h.one_sheet fresh unnamed in
      let one = subst (λ (l : List ℕ). Tried sheet workers step id v (record { words = l; homes = some (Some f.1.state) ∷ []; views = s.views })) (sym words) got in
      subst (λ (l : List (Maybe Slot)). Tried sheet workers step id v (record { words = s.words; homes = l; views = s.views })) (sym f.1.home) one
  | inr k ↦ misses sheet workers step id v h.tile s h (h.words ∙ ap (λ (n : ℕ). n ∷ h.tile ∷ []) k.0) at
]

follows : (sheet : Sheet) (workers : ℕ) (sheet' : Sheet) (workers' : ℕ) (found history : List Entry) (e : Entry) → sheet ≡ sheet'
    → workers ≡ workers' → found ≡ history → MayFollow sheet' workers' found e → MayFollow sheet workers history e
follows sheet workers sheet' workers' found history e a b c may = subst (λ (l : List Entry). MayFollow sheet workers l e) c
    (subst (λ (n : ℕ). MayFollow sheet n found e) (sym b) (subst (λ (z : Sheet). MayFollow z workers' found e) (sym a) may))

-- an entry that is named
pub names : (sheet : Sheet) (workers : ℕ) (id : ℕ) (v : SeatView) (named : Entry) (new : ℕ) (s : State Slot SeatView) (carried : List (ℕ × Slot))
    → IsKept sheet workers s → get_elem? s.views id ≡ some v → v.holds ≡ true → v.spent ≡ false → MayFollow v.sheet v.workers v.found named
    → IsKept sheet workers (stepped s 1 new id carried (record v { named = Some named }) keeps)
names sheet workers id v named new s carried h at holds fresh may =
    let w = record v { named = Some named } in
    let k = h.one_sheet id v at fresh in record {
      history = h.history;
      turn = h.turn;
      tile = new;
      words = ap (λ (l : List ℕ). set l 1 new) h.words;
      fits = λ i u e. ⊎_elim (λ (x : (i ≡ id) × (w ≡ u)). subst (Fits h.history) x.1
          (record {
            known = (h.fits id v at).known;
            own = (h.fits id v at).own;
            rising = (h.fits id v at).rising;
            older = (h.fits id v at).older;
          })) (λ (x : (i ≢ id) × (get_elem? s.views i ≡ some u)). h.fits i u x.1) (at_set s.views id i w u e);
      within = λ p lt. posts_set p s.views id v w at refl ∙ h.within p lt;
      beyond = λ p le. posts_set p s.views id v w at refl ∙ h.beyond p le;
      proper = h.proper;
      one_sheet = one_set sheet workers s.views id v w at refl refl refl h.one_sheet;
      now = elim h.now [
        | inl f ↦ absurd (off (sym (f.1.nobody id v at) ∙ holds))
        | inr q ↦ inr (
          q.0,
          record {
            out = q.1.out;
            holder = q.1.holder;
            only = λ i u e on. ⊎_elim
                (λ (x : (i ≡ id) × (w ≡ u)). let same = q.1.only id v at (ap (λ (y : SeatView). y.holds) x.1 ∙ on) in (
                  x.0 ∙ same.0,
                  ap (λ (y : SeatView). y.found) (sym x.1) ∙ same.1,
                  subst (λ (y : SeatView). IsNamed sheet workers h.history y.named) x.1
                      (follows sheet workers v.sheet v.workers v.found h.history named (sym k.0) (sym k.1) same.1 may),
                ))
                (λ (x : (i ≢ id) × (get_elem? s.views i ≡ some u)). q.1.only i u x.1 on) (at_set s.views id i w u e);
            one = dite (ℕ_discrete q.1.holder id)
                (λ (e : q.1.holder ≡ id).
                let mine : v ≡ q.1.one.0 = some-injective _ _ (sym at ∙ ap (get_elem? s.views) (sym e) ∙ q.1.one.1) in (
                  w,
                  subst (λ (j : ℕ). get_elem? (set s.views id w) j ≡ some w) (sym e) (set_here s.views id w (in_range s.views id v at)),
                  ap (λ (y : SeatView). y.holds) mine ∙ q.1.one.2,
                ))
                (λ (ne : q.1.holder ≢ id). (q.1.one.0, set_else s.views id q.1.holder w ne ∙ q.1.one.1, q.1.one.2));
          },
        )
      ];
    }

-- the turn is given back
pub gives_turn : (sheet : Sheet) (workers : ℕ) (id : ℕ) (v : SeatView) (state : Board) (s : State Slot SeatView) → IsKept sheet workers s
    → get_elem? s.views id ≡ some v → v.holds ≡ true → state.history ≡ v.found ++ named_list v.named
    → Stands v.sheet state → IsProper v.sheet v.workers state.history → v.spent ≡ false
    → IsKept sheet workers (stepped s 0 0 id ((0, Some state) ∷ []) (after_give v) gives)
gives_turn sheet workers id v state s h at holds new stands proper fresh = elim h.now [
  | inl f ↦ absurd (off (sym (f.1.nobody id v at) ∙ holds))
  | inr k ↦
      let mine = k.1.only id v at holds in
      let w = after_give v in
      let one = h.one_sheet id v at fresh in
      let is : state.history ≡ h.history ++ named_list v.named = new ∙ ap (λ (l : List Entry). l ++ named_list v.named) mine.1 in
      let own : w.own ≡ v.own ++ named_posts (length h.history) v.named = ap (λ (l : List Entry). v.own ++ named_posts (length l) v.named) mine.1 in
      let seen : w.known ≡ h.history ++ named_list v.named = ap (λ (l : List Entry). l ++ named_list v.named) mine.1 in
      record {
        history = h.history ++ named_list v.named;
        turn = 0;
        tile = h.tile;
        words = ap (λ (l : List ℕ). set l 0 0) h.words;
        fits = λ i u e. ⊎_elim
            (λ (x : (i ≡ id) × (w ≡ u)). subst (Fits (h.history ++ named_list v.named)) x.1 (record {
              known = ([], sym (append-nil w.known ∙ seen));
              own = subst (AreEntries (h.history ++ named_list v.named)) (sym own) (more_entries h.history v.own v.named (h.fits id v at).own);
              rising = subst (AllPairs ByPlace) (sym own) (more_rise h.history v.own v.named (h.fits id v at).own (h.fits id v at).rising);
              older = goes_on_all h.history (named_list v.named) v.older (h.fits id v at).older;
            }))
            (λ (x : (i ≢ id) × (get_elem? s.views i ≡ some u)). record {
              known = goes_on h.history (named_list v.named) u.known (h.fits i u x.1).known;
              own = still_entries h.history (named_list v.named) u.own (h.fits i u x.1).own;
              rising = (h.fits i u x.1).rising;
              older = goes_on_all h.history (named_list v.named) u.older (h.fits i u x.1).older;
            })
            (at_set s.views id i w u e);
        within = grown_within h.history s.views id v w v.named at own h.within h.beyond;
        beyond = grown_beyond h.history s.views id v w v.named at own h.beyond;
        proper = subst (IsProper sheet workers) is (subst (λ (n : ℕ). IsProper sheet n state.history) one.1
            (subst (λ (z : Sheet). IsProper z v.workers state.history) one.0 proper));
        one_sheet = one_set sheet workers s.views id v w at refl refl refl h.one_sheet;
        now = inl (
          refl,
          record {
            state = state;
            home = ap (λ (l : List (Maybe Slot)). set l 0 (some (Some state))) k.1.out;
            same = is;
            stands = subst (λ (z : Sheet). Stands z state) one.0 stands;
            nobody = λ i u e. ⊎_elim
                (λ (x : (i ≡ id) × (w ≡ u)). ap (λ (y : SeatView). y.holds) (sym x.1))
                (λ (x : (i ≢ id) × (get_elem? s.views i ≡ some u)). not_on u.holds (λ on. x.0 ((k.1.only i u x.1 on).0 ∙ sym mine.0)))
                (at_set s.views id i w u e);
          },
        );
      }
]
  where
    not_on : (b : Bool) → (b ≡ true → ⊥) → b ≡ false
    not_on true h = absurd (h refl)
    not_on false h = refl

-- a give, as the table asks it
pub allows_give : (sheet : Sheet) (workers slots id : ℕ) (me : Me Slot SeatView) → me.0.holds ≡ true → me.0.spent ≡ false → Holding me.0 (me.0.found ++ named_list me.0.named) me
    → (s : State Slot SeatView) → IsKept sheet workers s → get_elem? s.views id ≡ some me.0
    → (w : SeatView) × (a : Act Slot) × Valid s.homes me.1 a × IsKept sheet workers (stepped s 0 0 id me.1 w a) × GivesTurn (step slots 0 0 0 none) me 0 (w, carried_after me.1 a)
allows_give sheet workers slots id me holds fresh slot s h at =
    subst (λ (m : Me Slot SeatView). (w : SeatView) × (a : Act Slot) × Valid s.homes m.1 a × IsKept sheet workers (stepped s 0 0 id m.1 w a)
    × GivesTurn (step slots 0 0 0 none) m 0 (w, carried_after m.1 a)) (sym slot.1) (
      after_give me.0,
      gives,
      tt,
      gives_turn sheet workers id me.0 slot.0 s h at holds slot.2 slot.3 slot.4 fresh,
      refl,
    )

pub allows_try : (sheet : Sheet) (workers slots id : ℕ) (me : Me Slot SeatView) → Idle me
    → (s : State Slot SeatView) → IsKept sheet workers s → get_elem? s.views id ≡ some me.0
    → (w : SeatView) × (a : Act Slot) × Valid s.homes me.1 a × IsKept sheet workers (stepped s 0 (either (slice_index s.words 0 == 0) 1 (slice_index s.words 0)) id me.1 w a)
    × TriesTurn (step slots 0 0 1 none) me (slice_index s.words 0) (w, carried_after me.1 a)
allows_try sheet workers slots id me idle s h at =
    let is : me ≡ (me.0, []) = λ i. (me.0, idle.1 i) in
    subst (λ (m : Me Slot SeatView). (w : SeatView) × (a : Act Slot) × Valid s.homes m.1 a
    × IsKept sheet workers (stepped s 0 (either (slice_index s.words 0 == 0) 1 (slice_index s.words 0)) id m.1 w a)
    × TriesTurn (step slots 0 0 1 none) m (slice_index s.words 0) (w, carried_after m.1 a)) (sym is) (tries sheet workers (step slots 0 0 1 none) id me.0 s h at idle.3 idle.2)

pub entry_back : (n w t : ℕ) → n ≡ w * 2 ^ 32 + t → t < 2 ^ 32 → entry_in n ≡ entry w t
entry_back n w t is lt =
    let a : n / 2 ^ 32 ≡ w = omega (arith, is, lt) in
    let b : n % 2 ^ 32 ≡ t = omega (arith, is, lt) in ap (λ (k : ℕ). entry k (n % 2 ^ 32)) a ∙ ap (λ (k : ℕ). entry w k) b
