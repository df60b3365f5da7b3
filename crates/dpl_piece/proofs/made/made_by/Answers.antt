use Rattle.std.proofs.Common.{◌≡◌, ◌<◌, ◌+◌, ◌*◌, ℕ, IfOk, length, slice_index_or, arith, rules}
use Rattle.std.specs.List.{All}
use Rattle.std.specs.Prelude.{Result}
use Rattle.std.specs.declared.alloc.AllocError.{AllocError}
use Rattle.std.proofs.lemmas.Result.{IfOk-from_err, IfOk-weaker}
use Rattle.dpl_piece.specs.declared.pile.Pile.{Pile}
use Rattle.dpl_piece.specs.Made.{AreMade, IsOfPlaces}
use Rattle.dpl_piece.proofs.Piles.{all-made, IsPileFrom}
use Rattle.dpl_piece.proofs.made.made_by.Goals as goal

pub returns : goal.returns
returns g c =
    let features = c.args.features.now in
    let zones = c.args.zones.now in
    let sorted = c.args.sorted.now in
    let size = c.max-size.result in
    let made = c.in_ok-made.made.items in
    let some : 0 < size = omega arith in
    let long : length made ≡ length made = search rules in
    let each : (k : ℕ) (d : Result Pile AllocError) → k < length made → IsPileFrom features zones sorted size k (slice_index_or made k d) = λ k d k_in. (
    let at = (c.in_ok-made.ensures.each k d k_in).1 in
    let pile : IfOk (slice_index_or made k d) (AreMade features zones) = search rules in
    let places : IfOk (slice_index_or made k d) (λ b. All (IsOfPlaces zones sorted (k * size) (k * size + length at.argument.now)) b.features.items) = search rules in
    let short = at.argument_is.at_most_size in
    let next : (k + 1) * size ≡ k * size + size = search rules in
    record {
      to = k * size + length at.argument.now;
      begins = omega (arith, at.argument_is.nonempty, at.argument_is.in_bounds);
      upto = omega (arith, next, short);
      made = pile;
      places = places;
    }) in
    IfOk-weaker c.gathered.result _ _ (λ v is. all-made features zones sorted size some c.requires.sorted.rise made v.items is each) c.gathered.ensures

pub returns-in_err-made : goal.returns-in_err-made
returns-in_err-made g c = IfOk-from_err _ _ c.from_residual.ensures.0
