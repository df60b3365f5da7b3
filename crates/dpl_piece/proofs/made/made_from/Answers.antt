use Rattle.std.proofs.Common.{◌≡◌, ◌+◌, ◌<◌, length, arith, rules}
use Rattle.std.specs.List.{All}
use Rattle.std.proofs.lemmas.List.Elements.{All-push}
use Rattle.std.proofs.lemmas.Result.{IfOk-from_err}
use Rattle.dpl_piece.specs.Made.{BeginsAt, IsOfPlaces}
use Rattle.dpl_piece.proofs.Piles.{pile-none, places-before, places-next, places-on}
use Rattle.dpl_piece.proofs.made.made_from.Goals.{then-begins+in_ok-add_from, else-begins}
use Rattle.dpl_piece.proofs.made.made_from.Goals as goal

pub loop-at-init : goal.loop-at-init
loop-at-init g c = record {
  from = omega arith;
  upto = omega arith;
  made = pile-none c.args.features.now c.args.zones.now c.in_ok-made.made c.in_ok-made.ensures;
  places = rw c.in_ok-made.ensures.features (λ k d k_in. absurd (omega (arith, k_in)));
}

pub add_from-requires-clause-begins : goal.add_from-requires-clause-begins
add_from-requires-clause-begins g c = search rules

pub add_from-requires-clause-behind : goal.add_from-requires-clause-behind
add_from-requires-clause-behind g c =
    let at = c.loop-at in
    let inside : at.at < length c.args.sorted.now = omega (arith, c.loop-at-test.true, c.requires.place) in
    let begins : BeginsAt c.args.zones.now c.args.sorted.now at.at = search rules in
    λ k d k_in. places-before c.args.zones.now c.args.sorted.now c.args.place at.at c.requires.sorted at.invariant.from inside _ begins (at.invariant.places k d k_in)

pub loop-at-preserved : goal.loop-at-preserved
loop-at-preserved g c =
    let at = c.loop-at in
    let zones = c.args.zones.now in
    let sorted = c.args.sorted.now in
    let test = c.loop-at-test.true in
    let inside : at.at < length sorted = omega (arith, test, c.requires.place) in
    let low = at.invariant.from in
    let on : All (IsOfPlaces zones sorted c.args.place (at.at + 1)) at.made.features.items = λ k d k_in.
    places-on zones sorted c.args.place at.at c.requires.sorted low inside _ (at.invariant.places k d k_in) in
    elim c.if-begins.branch [
      | then-begins+in_ok-add_from w ↦ rw w.made-is (
          let begins : BeginsAt zones sorted at.at = search rules in
          record {
            from = omega (arith, low);
            upto = omega (arith, test);
            made = w.in_ok-add_from.ensures.made;
            places = rw w.in_ok-add_from.ensures.features
                (All-push (IsOfPlaces zones sorted c.args.place (at.at + 1)) at.made.features.items _ on (places-next zones sorted c.args.place at.at c.requires.sorted low inside begins));
          })
      | else-begins w ↦ rw w.made-is (record { from = omega (arith, low); upto = omega (arith, test); made = at.invariant.made; places = on })
    ]

pub returns-clause-places : goal.returns-clause-places
returns-clause-places g c =
    let at = c.loop-at in
    let test = c.loop-at-test.false in
    let upto = at.invariant.upto in
    let end : at.at ≡ c.args.place + c.args.count = omega (arith, test, upto) in
    rw end at at.invariant.places

pub returns-in_err-made-clause-made : goal.returns-in_err-made-clause-made
returns-in_err-made-clause-made g c = IfOk-from_err _ _ c.from_residual.ensures.0

pub returns-in_err-made-clause-places : goal.returns-in_err-made-clause-places
returns-in_err-made-clause-places g c = IfOk-from_err _ _ c.from_residual.ensures.0

pub returns-in_err-add_from-clause-made : goal.returns-in_err-add_from-clause-made
returns-in_err-add_from-clause-made g c = IfOk-from_err _ _ c.from_residual-in_err-add_from.ensures.0

pub returns-in_err-add_from-clause-places : goal.returns-in_err-add_from-clause-places
returns-in_err-add_from-clause-places g c = IfOk-from_err _ _ c.from_residual-in_err-add_from.ensures.0
