use Rattle.std.proofs.Common.{ℕ, List, refl, arith}
use Rattle.std.specs.List.{All}
use Rattle.dpl_join.specs.declared.items.Item.{Item}
use Rattle.dpl_join.specs.Pairs.{IsPair, item_at, no_item}
use Rattle.dpl_tile.specs.declared.grid.Grid.{Grid}
use Rattle.dpl_tile.specs.Kept.{IsOver}
use Rattle.dpl_tile.specs.Meetings.{reached}
use Rattle.dpl_join.proofs.PairLaws.{close-flip}
use Rattle.dpl_tile.proofs.ReachLaws.{reached-over}
use Rattle.dpl_tile.proofs.MeetingLaws.{pair-meeting, pair-meetings}
use Rattle.std.proofs.lemmas.Result.{IfOk-from_err}
use Rattle.dpl_tile.proofs.meetings.add_pair.Goals as goal

over-both : (g : Grid) (rule : ℕ) (items : List Item) (p : ℕ × ℕ) → All (λ (item : Item). IsOver g item.rect) items → IsPair rule items p
    → IsOver g (reached rule (item_at items p.0).rect (item_at items p.1).rect) × IsOver g (reached rule (item_at items p.1).rect (item_at items p.0).rect)
over-both g rule items p over pair =
    let order = pair.order in
    let known = pair.known in
    let a = (item_at items p.0).rect in
    let b = (item_at items p.1).rect in
    let first : IsOver g a = over p.0 no_item (omega (arith, order, known)) in
    let second : IsOver g b = over p.1 no_item known in
    (reached-over g rule a b first second pair.close, reached-over g rule b a second first (close-flip rule a b pair.close))

pub only_place-requires-clause-first : goal.only_place-requires-clause-first
only_place-requires-clause-first c =
    rw c.reached-first.ensures (over-both c.args.grid.now c.args.spacing.rule c.args.items.now c.args.pair.now c.requires.over c.requires.pair).0

pub only_place-requires-clause-second : goal.only_place-requires-clause-second
only_place-requires-clause-second c =
    rw c.reached-second.ensures (over-both c.args.grid.now c.args.spacing.rule c.args.items.now c.args.pair.now c.requires.over c.requires.pair).1

pub places_of_both-requires-clause-first : goal.places_of_both-requires-clause-first
places_of_both-requires-clause-first c =
    rw c.reached-first.ensures (over-both c.args.grid.now c.args.spacing.rule c.args.items.now c.args.pair.now c.requires.over c.requires.pair).0

pub places_of_both-requires-clause-second : goal.places_of_both-requires-clause-second
places_of_both-requires-clause-second c =
    rw c.reached-second.ensures (over-both c.args.grid.now c.args.spacing.rule c.args.items.now c.args.pair.now c.requires.over c.requires.pair).1

pub returns-in-Some : goal.returns-in-Some
returns-in-Some c = pair-meeting c.args.spacing c.args.owners.now c.args.grid.now c.args.items.now c.args.pair.now c.in-Some.place c.args.meetings.now.items _
    (c.if-not-are_foes.ensures.0 refl) (rw (c.reached-first.ensures, c.reached-second.ensures) at c.in-Some.ensures) c.in_ok-add_place.ensures

pub returns : goal.returns
returns c = pair-meetings c.args.spacing c.args.owners.now c.args.grid.now c.args.items.now c.args.pair.now c.in_ok-places.places.items c.args.meetings.now.items _
    (c.if-not-are_foes.ensures.0 refl) (rw (c.reached-first.ensures, c.reached-second.ensures) at c.in_ok-places.ensures) (rw c.as_slice.ensures.value at c.in_ok-add_places.ensures)

pub returns-in_err-add_place : goal.returns-in_err-add_place
returns-in_err-add_place c = IfOk-from_err _ _ c.from_residual.ensures.0

pub returns-in_err-places : goal.returns-in_err-places
returns-in_err-places c = IfOk-from_err _ _ c.from_residual-in_err-places.ensures.0

pub returns-in_err-add_places : goal.returns-in_err-add_places
returns-in_err-add_places c = IfOk-from_err _ _ c.from_residual-in_err-add_places.ensures.0
