use Rattle.std.proofs.Common.{◌≡◌, ◌∙◌, ap, rules, ◌<◌, length, get_or, w32, FitsSigned, arith}
use Rattle.std.proofs.lemmas.Int.{ints, to_z-of_z}
use Rattle.std.proofs.lemmas.List.{get_or_default}
use Rattle.dpl_upward.specs.Fronts.{piece_at}
use Rattle.dpl_upward.proofs.FrontLaws.{zero, passed-more, sought-found}
use Rattle.dpl_upward.proofs.upward.Front.seek.Goals as goal

pub returns-then-bar-index-clause-sought : goal.returns-then-bar-index-clause-sought
returns-then-bar-index-clause-sought c =
    let pieces = c.args.self.now.pieces.items in
    let below = c.args.self.now.below.items in
    let k = c.loop-k.k in
    let k_in : k < length below = search rules in
    let number : c.index-number.result.now ≡ get_or below k 0 =
    c.index-number.ensures ∙ (ap (λ xs. get_or xs k c.index-number.result.now) c.loop-k.invariant.below ∙ get_or_default below k _ 0 k_in) in
    let within = c.requires.below.within k k_in in
    let piece : c.index.result.now ≡ piece_at pieces (get_or below k 0) = c.index.ensures
    ∙ (ap (λ xs. get_or xs c.index-number.result.now c.index.result.now) c.loop-k.invariant.pieces
    ∙ (ap (λ n. get_or pieces n c.index.result.now) number ∙ get_or_default pieces (get_or below k 0) _ zero within)) in
    let own : FitsSigned w32 c.args.bar.now.x0 = search rules in
    let fits : FitsSigned w32 c.index.result.now.x0 = search rules in
    let test = rw (to_z-of_z w32 _ own, to_z-of_z w32 _ fits, piece) at c.if-bar-index.true in
    rw number (sought-found _ pieces _ below k c.requires.below k_in c.loop-k.invariant.passed (grind (arith, ints, test)))

pub loop-k-preserved : goal.loop-k-preserved
loop-k-preserved c =
    let pieces = c.args.self.now.pieces.items in
    let below = c.args.self.now.below.items in
    let k = c.loop-k.k in
    let k_in : k < length below = search rules in
    let number : c.index-number.result.now ≡ get_or below k 0 =
    c.index-number.ensures ∙ (ap (λ xs. get_or xs k c.index-number.result.now) c.loop-k.invariant.below ∙ get_or_default below k _ 0 k_in) in
    let within = c.requires.below.within k k_in in
    let piece : c.index.result.now ≡ piece_at pieces (get_or below k 0) = c.index.ensures
    ∙ (ap (λ xs. get_or xs c.index-number.result.now c.index.result.now) c.loop-k.invariant.pieces
    ∙ (ap (λ n. get_or pieces n c.index.result.now) number ∙ get_or_default pieces (get_or below k 0) _ zero within)) in
    let own : FitsSigned w32 c.args.bar.now.x0 = search rules in
    let fits : FitsSigned w32 c.index.result.now.x0 = search rules in
    let test = rw (to_z-of_z w32 _ own, to_z-of_z w32 _ fits, piece) at c.if-bar-index.false in
    record {
      pieces = c.loop-k.invariant.pieces;
      below = c.loop-k.invariant.below;
      here = c.loop-k.invariant.here;
      passed = passed-more _ pieces below k c.loop-k.invariant.passed (grind (arith, ints, test));
    }

pub returns-then-bar-index-clause-pieces : goal.returns-then-bar-index-clause-pieces
returns-then-bar-index-clause-pieces c = c.loop-k.invariant.pieces

pub returns-then-bar-index-clause-below : goal.returns-then-bar-index-clause-below
returns-then-bar-index-clause-below c = c.loop-k.invariant.below

pub returns-then-bar-index-clause-here : goal.returns-then-bar-index-clause-here
returns-then-bar-index-clause-here c = c.loop-k.invariant.here

pub returns-then-bar-index-clause-passed : goal.returns-then-bar-index-clause-passed
returns-then-bar-index-clause-passed c = c.loop-k.invariant.passed

pub returns-clause-pieces : goal.returns-clause-pieces
returns-clause-pieces c = c.loop-k.invariant.pieces

pub returns-clause-below : goal.returns-clause-below
returns-clause-below c = c.loop-k.invariant.below

pub returns-clause-here : goal.returns-clause-here
returns-clause-here c = c.loop-k.invariant.here
