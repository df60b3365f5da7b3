-- What the seat that has the turn gives back.
use Rattle.std.proofs.Common.{◌≡◌, ◌≢◌, ◌∙◌, ◌<◌, ℕ, true, List, [], ◌∷◌, ◌++◌, length, Option, Some, None, sym, ap, subst}
use Rattle.std.proofs.lemmas.List.{append-nil}
use Rattle.std.specs.Prelude.{unwrap_or, Result, Ok, Err}
use Rattle.atomic_table.specs.Table.{Me}
use Rattle.dpl_turn.specs.declared.view.SeatView.{SeatView}
use Rattle.dpl_stars.specs.declared.joined.Joined.{Joined}
use Rattle.dpl_stars.specs.Sums.{Sums}
use Rattle.dpl_board.specs.declared.fault.PostFault.{PostFault}
use Rattle.dpl_board.specs.declared.fault.PostFault.TheVariants.{NoMemory, Twice}
use Rattle.dpl_board.specs.declared.entry.Entry.{Entry}
use Rattle.dpl_board.specs.Sheets.{Sheet, edges_at, poster_in}
use Rattle.dpl_board.specs.Boards.{Board, IsPost, PostLeaves, Stands}
use Rattle.dpl_board.proofs.Posters.{none-differs}
use Rattle.std.proofs.lemmas.List.Elements.{All-push}
use Rattle.std.proofs.lemmas.List.Quantifiers.{all_pairs_push}
use Rattle.dpl_turn.specs.Rule.{HasTurn, Holding, IsProper, MayFollow, Slot, named_list}

pub same_state : (taken state : Board) → ◌≡◌ {A = List (ℕ × Slot)} ((0, Some taken) ∷ []) ((0, Some state) ∷ []) → taken ≡ state
same_state taken state e = ap (λ (l : List (ℕ × Slot)). first_of l) e
  where
    first_of : List (ℕ × Slot) → Board
    first_of [] = taken
    first_of (x ∷ xs) = unwrap_or x.1 taken

-- the seat has the turn, and took this history out of the slot
pub record HasOut (v : SeatView) (state : Board) (me : Me Slot SeatView) : Type 0 where
  pub view : me.0 ≡ record v { holds = true; found = state.history }
  pub slot : me.1 ≡ (0, None) ∷ []
  pub stands : Stands v.sheet state
  pub proper : IsProper v.sheet v.workers state.history

pub has_out : (v : SeatView) (before after : Me Slot SeatView) (state : Board) → HasTurn v before → before.1 ≡ (0, Some state) ∷ []
    → after ≡ (before.0, (0, None) ∷ []) → HasOut v state after
has_out v before after state turn out is =
    let taken = turn.0 in
    let same : taken ≡ state = same_state taken state (sym (ap (λ (m : Me Slot SeatView). m.1) turn.1) ∙ out) in
    record {
      view = ap (λ (m : Me Slot SeatView). m.0) is ∙ ap (λ (m : Me Slot SeatView). m.0) turn.1 ∙ ap (λ (t : Board). record v { holds = true; found = t.history }) same;
      slot = ap (λ (m : Me Slot SeatView). m.1) is;
      stands = subst (Stands v.sheet) same turn.4;
      proper = subst (λ (t : Board). IsProper v.sheet v.workers t.history) same turn.5;
    }

-- the state goes back as it was found
pub back_as_found : (v : SeatView) (state back : Board) (out me : Me Slot SeatView) → HasOut v state out → v.named ≡ None → back ≡ state → me ≡ (out.0, (0, Some back) ∷ [])
    → Holding me.0 (me.0.found ++ named_list me.0.named) me
back_as_found v state back out me has idle same is =
    let view : me.0 ≡ record v { holds = true; found = state.history } = ap (λ (m : Me Slot SeatView). m.0) is ∙ has.view in
    let all : me.0.found ++ named_list me.0.named ≡ state.history ++ [] = ap (λ (u : SeatView). u.found ++ named_list u.named) view
    ∙ ap (λ (o : Option Entry). state.history ++ named_list o) idle in
    let one : me.0.sheet ≡ v.sheet = ap (λ (u : SeatView). u.sheet) view in
    let two : me.0.workers ≡ v.workers = ap (λ (u : SeatView). u.workers) view in (
      back,
      is ∙ ap (λ (u : SeatView). (u, (0, Some back) ∷ [])) (sym (ap (λ (m : Me Slot SeatView). m.0) is)),
      ap (λ (b : Board). b.history) same ∙ sym (all ∙ append-nil state.history),
      subst (λ (z : Sheet). Stands z back) (sym one) (subst (Stands v.sheet) (sym same) has.stands),
      subst (λ (z : Sheet). IsProper z me.0.workers back.history) (sym one) (subst (λ (n : ℕ). IsProper v.sheet n back.history) (sym two)
          (subst (λ (b : Board). IsProper v.sheet v.workers b.history) (sym same) has.proper)),
    )

proper_more : (sheet : Sheet) (workers : ℕ) (history : List Entry) (e : Entry) → MayFollow sheet workers history e
    → IsProper sheet workers history → IsProper sheet workers (history ++ e ∷ [])
proper_more sheet workers history e may h = record {
  apart = all_pairs_push (λ (d e : Entry). d.tile ≢ e.tile) history e h.apart (none-differs e.tile history may.fresh);
  below = All-push (λ (d : Entry). d.tile < length sheet) history e h.below may.below;
  signed = All-push (λ (d : Entry). d.worker < workers) history e h.signed may.signed;
}

-- and with the entry that was named
pub back_with_named : (v : SeatView) (state back : Board) (e : Entry) (sum : Joined) (out named me : Me Slot SeatView) → HasOut v state out
    → named ≡ (record out.0 { named = Some e }, out.1)
    → MayFollow v.sheet v.workers state.history e → IsPost state e sum back → Sums (edges_at v.sheet e.tile) sum
    → me ≡ (named.0, (0, Some back) ∷ []) → Holding me.0 (me.0.found ++ named_list me.0.named) me
back_with_named v state back e sum out named me has naming may more sums is =
    let view : me.0 ≡ record v { holds = true; found = state.history; named = Some e } = ap (λ (m : Me Slot SeatView). m.0) is
    ∙ ap (λ (m : Me Slot SeatView). m.0) naming ∙ ap (λ (u : SeatView). record u { named = Some e }) has.view in
    let one : me.0.sheet ≡ v.sheet = ap (λ (u : SeatView). u.sheet) view in
    let two : me.0.workers ≡ v.workers = ap (λ (u : SeatView). u.workers) view in (
      back,
      is ∙ ap (λ (u : SeatView). (u, (0, Some back) ∷ [])) (sym (ap (λ (m : Me Slot SeatView). m.0) is)),
      more.history ∙ sym (ap (λ (u : SeatView). u.found ++ named_list u.named) view),
      subst (λ (z : Sheet). Stands z back) (sym one) (more.stands v.sheet has.stands sums),
      subst (λ (z : Sheet). IsProper z me.0.workers back.history) (sym one) (subst (λ (n : ℕ). IsProper v.sheet n back.history) (sym two)
          (subst (IsProper v.sheet v.workers) (sym more.history) (proper_more v.sheet v.workers state.history e may has.proper))),
    )

pub same_on_err : (old new : Board) (e : Entry) (sum : Joined) (r : Result (Unit {0}) PostFault) (f : PostFault) → r ≡ Err f → PostLeaves old e sum r new → new ≡ old
same_on_err old new e sum (Ok u) f is h = absurd (cc)
same_on_err old new e sum (Err (Twice by)) f is h = h.1
same_on_err old new e sum (Err NoMemory) f is h = h.1

pub more_on_ok : (old new : Board) (e : Entry) (sum : Joined) (r : Result (Unit {0}) PostFault) (u : Unit {0}) → r ≡ Ok u
    → PostLeaves old e sum r new → (poster_in e.tile old.history ≡ None) × IsPost old e sum new
more_on_ok old new e sum (Ok u) v is h = h
more_on_ok old new e sum (Err f) v is h = absurd (cc)
