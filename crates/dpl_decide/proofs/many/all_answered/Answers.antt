use Rattle.std.proofs.Common.{◌≡◌, ◌∷◌, length, rules}
use Rattle.std.proofs.lemmas.Result.{IfOk-from_err}
use Rattle.std.specs.Vec.Iter.{into_iter_items}
use Rattle.std.proofs.lemmas.List.Elements.{All-push}
use Rattle.dpl_decide.specs.View.{FitsDecision}
use Rattle.dpl_decide.proofs.Waiting.{all_met, half_cut, half_refused, next_keys, none_cut}
use Rattle.dpl_decide.proofs.Zips.{none_of}
use Rattle.dpl_decide.proofs.many.all_answered.Goals as goal

pub loop-layer-preserved-in-Continue-1 : goal.loop-layer-preserved-in-Continue-1
loop-layer-preserved-in-Continue-1 g c =
    let next : c.loop-layer.layer-iterator.rest.items ≡ c.in-Some.layer ∷ c.next.new.self.rest.items = search rules in
    record {
      halfway = λ layers waits.
          (let half = rw (next, c.in-Refused.is) at (c.loop-layer.invariant.halfway layers waits) in
          rw c.in_ok-push-in-Refused.ensures.items (half_refused c.args.spacing c.args.overlap layers _ _ _ _ _ half));
      fits = rw c.in_ok-push-in-Refused.ensures.items (All-push FitsDecision _ _ c.loop-layer.invariant.fits tt);
      told = c.loop-layer.invariant.told;
    }

pub unreachable-requires : goal.unreachable-requires
unreachable-requires g c =
    let next : c.loop-layer.layer-iterator.rest.items ≡ c.in-Some.layer ∷ c.next.new.self.rest.items = search rules in
    let (layers, waits) = c.requires.waiting in
    let half = rw (next, c.in-Cut.is) at (c.loop-layer.invariant.halfway layers waits) in
    let none : length c.loop-layer.cuts.rest.items ≡ 0 = search rules in
    none_cut c.args.spacing c.args.overlap layers _ _ _ _ (none_of _ none) half

pub answer_of-requires-clause-keys : goal.answer_of-requires-clause-keys
answer_of-requires-clause-keys g c =
    let next : c.loop-layer.layer-iterator.rest.items ≡ c.in-Some.layer ∷ c.next.new.self.rest.items = search rules in
    let cuts : into_iter_items c.loop-layer.cuts ≡ c.in-Some-next.cut ∷ into_iter_items c.next-in-Cut.new.self = c.in-Some-next.ensures.items in
    let (layers, waits) = c.requires.waiting in
    next_keys c.args.spacing c.args.overlap layers _ _ _ _ _ (rw (next, c.in-Cut.is, cuts) at (c.loop-layer.invariant.halfway layers waits))

pub loop-layer-preserved : goal.loop-layer-preserved
loop-layer-preserved g c =
    let next : c.loop-layer.layer-iterator.rest.items ≡ c.in-Some.layer ∷ c.next.new.self.rest.items = search rules in
    let cuts : into_iter_items c.loop-layer.cuts ≡ c.in-Some-next.cut ∷ into_iter_items c.next-in-Cut.new.self = c.in-Some-next.ensures.items in
    let found : into_iter_items c.loop-layer.conflicts ≡ c.in-Some-next-2.found ∷ into_iter_items c.next-in-Cut-2.new.self = c.in-Some-next-2.ensures.items in
    record {
      halfway = λ layers waits.
          (let half = rw (next, c.in-Cut.is, cuts) at (c.loop-layer.invariant.halfway layers waits) in
          rw c.in_ok-push-in-Cut.ensures.items (half_cut c.args.spacing c.args.overlap layers _ _ _ _ _ _ c.in_ok-answer-in-Cut.ensures.flat half));
      fits = rw c.in_ok-push-in-Cut.ensures.items (All-push FitsDecision _ _ c.loop-layer.invariant.fits (c.in_ok-answer-in-Cut.ensures.fits c.requires.some));
      told = (rw (cuts, found) at c.loop-layer.invariant.told).1;
    }

pub returns : goal.returns
returns g c = λ layers waits.
    (let none : length c.loop-layer.layer-iterator.rest.items ≡ 0 = search rules in
    all_met c.args.spacing c.args.overlap layers _ _ (rw (none_of _ none) at (c.loop-layer.invariant.halfway layers waits)) c.loop-layer.invariant.fits)

pub returns-in_err-push-in-Refused : goal.returns-in_err-push-in-Refused
returns-in_err-push-in-Refused g c = λ _ _. IfOk-from_err _ _ c.from_residual.ensures.0

pub returns-in_err-answer-in-Cut : goal.returns-in_err-answer-in-Cut
returns-in_err-answer-in-Cut g c = λ _ _. IfOk-from_err _ _ c.from_residual-in_err-answer-in-Cut.ensures.0

pub returns-in_err-push-in-Cut : goal.returns-in_err-push-in-Cut
returns-in_err-push-in-Cut g c = λ _ _. IfOk-from_err _ _ c.from_residual-in_err-push-in-Cut.ensures.0
