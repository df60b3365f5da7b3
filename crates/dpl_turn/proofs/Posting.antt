-- What a seat has after a turn without a post, and after the last one.
use Rattle.std.proofs.Common.{◌≡◌, ◌∙◌, ◌<◌, ℕ, true, false, List, [], ◌∷◌, ◌++◌, length, Some, None, Option, refl, sym, ap, subst, append_assoc}
use Rattle.std.specs.Prelude.{Result, Ok, Err}
use Rattle.std.proofs.lemmas.List.{append-nil}
use Rattle.atomic_table.specs.Table.{Me}
use Rattle.dpl_stars.specs.declared.joined.Joined.{Joined}
use Rattle.dpl_board.specs.declared.entry.Entry.{Entry}
use Rattle.dpl_board.specs.declared.fault.PostFault.{PostFault}
use Rattle.dpl_board.specs.declared.fault.PostFault.TheVariants.{NoMemory, Twice}
use Rattle.dpl_board.specs.Sheets.{IsSheet, Sheet, entry, poster_in}
use Rattle.dpl_board.specs.Boards.{Board, IsFresh, PostLeaves, Stands}
use Rattle.dpl_turn.specs.declared.view.SeatView.{SeatView}
use Rattle.dpl_turn.specs.Rule.{Answers, AreEntries, GoesOn, HasTurn, Idle, IsOut, IsProper, Posted, Rise, Slot, StartsWith, after_give, named_list, named_posts}
use Rattle.dpl_turn.proofs.Turns.{HasOut, has_out, same_state}

pub fresh_stands : (sheet : Sheet) (count : ℕ) (state : Board) → IsSheet sheet → count ≡ length sheet → IsFresh count state → Stands sheet state
fresh_stands sheet count state edges same fresh = fresh.stands sheet edges (sym same)

pub out_has : (state : Board) (me : Me Slot SeatView) → IsOut state me → HasOut me.0 state me
out_has state me o = record {
  view = λ i. record me.0 { holds = o.holds i; found = o.found i };
  slot = o.slot;
  stands = o.stands;
  proper = o.proper;
}

-- the state that was taken out with the turn
pub turn_out : (v : SeatView) (before after : Me Slot SeatView) (state : Board) → HasTurn v before → before.1 ≡ (0, Some state) ∷ []
    → after ≡ (before.0, (0, None) ∷ []) → v.spent ≡ false → v.named ≡ None → IsOut state after
turn_out v before after state turn out is fresh idle =
    let has = has_out v before after state turn out is in
    let same : turn.0 ≡ state = same_state turn.0 state (sym (ap (λ (m : Me Slot SeatView). m.1) turn.1) ∙ out) in
    record {
      holds = ap (λ (u : SeatView). u.holds) has.view;
      fresh = ap (λ (u : SeatView). u.spent) has.view ∙ fresh;
      idle = ap (λ (u : SeatView). u.named) has.view ∙ idle;
      found = ap (λ (u : SeatView). u.found) has.view;
      slot = has.slot;
      known = subst (λ (u : SeatView). StartsWith state.history u.known) (sym has.view) (subst (λ (b : Board). StartsWith b.history v.known) same turn.2);
      stands = subst (λ (u : SeatView). Stands u.sheet state) (sym has.view) has.stands;
      proper = subst (λ (u : SeatView). IsProper u.sheet u.workers state.history) (sym has.view) has.proper;
    }

pub turn_own : (v : SeatView) (before : Me Slot SeatView) (state : Board) → HasTurn v before → before.1 ≡ (0, Some state) ∷ []
    → AreEntries state.history v.own × Rise v.own
turn_own v before state turn out =
    let same : turn.0 ≡ state = same_state turn.0 state (sym (ap (λ (m : Me Slot SeatView). m.1) turn.1) ∙ out) in
    (subst (λ (b : Board). AreEntries b.history v.own) same turn.3, turn.6)

-- with another state of the same history
pub out_folded : (old new : Board) (me : Me Slot SeatView) → IsOut old me → new.history ≡ old.history → Stands me.0.sheet new → IsOut new me
out_folded old new me o same stands = record {
  holds = o.holds;
  fresh = o.fresh;
  idle = o.idle;
  found = o.found ∙ sym same;
  slot = o.slot;
  known = subst (λ (l : List Entry). StartsWith l me.0.known) (sym same) o.known;
  stands = stands;
  proper = subst (IsProper me.0.sheet me.0.workers) (sym same) o.proper;
}

-- a seat between two turns
pub idle_given : (v : SeatView) (me : Me Slot SeatView) → v.spent ≡ false → me ≡ (after_give v, []) → Idle me
idle_given v me fresh is = subst Idle (sym is) (refl, refl, refl, fresh)

pub trans_starts : (xs ys zs : List Entry) → StartsWith xs ys → StartsWith ys zs → StartsWith xs zs
trans_starts xs ys zs (a, p) (b, q) = (b ++ a, p ∙ (ap (λ (l : List Entry). l ++ a) q ∙ append_assoc zs b a))

-- the turn once more
pub goes_again : (v w : SeatView) (state : Board) (me : Me Slot SeatView) → v.named ≡ None → w ≡ after_give v → IsOut state me
    → me.0 ≡ record w { holds = true; found = state.history } → GoesOn v me.0
goes_again v w state me idle given o is = record {
  sheet = ap (λ (u : SeatView). u.sheet) is ∙ ap (λ (u : SeatView). u.sheet) given;
  workers = ap (λ (u : SeatView). u.workers) is ∙ ap (λ (u : SeatView). u.workers) given;
  own = ap (λ (u : SeatView). u.own) is ∙ (ap (λ (u : SeatView). u.own) given ∙ (ap (λ (o : Option Entry). v.own ++ named_posts (length v.found) o) idle ∙ append-nil v.own));
  found = subst (λ (l : List Entry). StartsWith l v.found) (sym o.found) (subst (λ (l : List Entry). StartsWith state.history l) known o.known);
}
  where
    known : me.0.known ≡ v.found
    known = ap (λ (u : SeatView). u.known) is ∙ (ap (λ (u : SeatView). u.known) given ∙ (ap (λ (o : Option Entry). v.found ++ named_list o) idle ∙ append-nil v.found))

pub goes_same : (v : SeatView) → GoesOn v v
goes_same v = record { sheet = refl; workers = refl; own = refl; found = ([], sym (append-nil v.found)) }

-- what a post leaves, from the turn that it had first to the one that it gave last
pub posted_after : (v first last w : SeatView) (found begin : List Entry) (posted : Option Entry) → first ≡ record v { holds = true; found = begin }
    → StartsWith begin v.known → GoesOn first last → last.found ≡ found → w ≡ after_give (record last { named = posted }) → Posted v posted found w
posted_after v first last w found begin posted taken began goes here given = record {
  begins = trans_starts found begin v.known
      (subst (λ (l : List Entry). StartsWith l begin) here (subst (λ (u : SeatView). StartsWith last.found u.found) taken goes.found)) began;
  sheet = ap (λ (u : SeatView). u.sheet) given ∙ (goes.sheet ∙ ap (λ (u : SeatView). u.sheet) taken);
  workers = ap (λ (u : SeatView). u.workers) given ∙ (goes.workers ∙ ap (λ (u : SeatView). u.workers) taken);
  known = ap (λ (u : SeatView). u.known) given ∙ ap (λ (l : List Entry). l ++ named_list posted) here;
  own = ap (λ (u : SeatView). u.own) given ∙ (ap (λ (l : List Entry). last.own ++ named_posts (length l) posted) here
      ∙ ap (λ (o : _). o ++ named_posts (length found) posted) (goes.own ∙ ap (λ (u : SeatView). u.own) taken));
}

pub answers_err : (v w : SeatView) (state back : Board) (worker tile : _) (sum : Joined) (f : PostFault) → PostLeaves state (entry worker tile) sum (Err f) back
    → Posted v None state.history w → Answers v worker tile (Err f) w
answers_err v w state back worker tile sum (Twice by) h p = (state.history, h.0, p)
answers_err v w state back worker tile sum NoMemory h p = (state.history, h.0, p)
