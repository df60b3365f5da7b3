use Rattle.std.proofs.Common.{◌≡◌, ℕ, rules}
use Rattle.std.proofs.lemmas.Fn.{always_returns_same}
use Rattle.std.proofs.lemmas.Result.{IfOk-from_err}
use Rattle.dpl_piece.specs.Pieces.{feature_at}
use Rattle.dpl_piece.proofs.Turns.{firsts-rise, numbers-permuted, zones-from}
use Rattle.dpl_piece.proofs.own.by_feature.Goals as goal

pub returns : goal.returns
returns c =
    let key : ℕ → ℕ × ℕ = λ j. (feature_at c.args.zones.now j, j) in
    zones-from c.args.zones.now _ (numbers-permuted _ _ (rw c.in_ok-numbers.ensures at c.sort_by_key.ensures.permutation))
    (firsts-rise (feature_at c.args.zones.now) _ (c.sort_by_key.ensures.sorted key
    (always_returns_same _ (λ a r. r ≡ (feature_at c.args.zones.now a.0.now, a.0.now)) _ (λ a r q k. search rules))))

pub returns-in_err-numbers : goal.returns-in_err-numbers
returns-in_err-numbers c = IfOk-from_err _ _ c.from_residual.ensures.0
