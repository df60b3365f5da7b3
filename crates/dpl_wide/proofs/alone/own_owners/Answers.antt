use Rattle.std.proofs.Common.{◌≡◌, length, refl, arith}
use Rattle.std.specs.Prelude.{vec_len}
use Rattle.std.specs.List.{range_with_len}
use Rattle.std.proofs.lemmas.Iterator.{YieldsList-from_range}
use Rattle.std.proofs.lemmas.Iterator.Adapters.{fact_from_collect}
use Rattle.std.proofs.lemmas.Result.{IfOk-weaker}
use Rattle.dpl_wide.proofs.alone.own_owners.Goals as goal

pub returns : goal.returns
returns c =
    IfOk-weaker c.collect.result (λ v. (v.items ≡ range_with_len 0 c.args.count) × (vec_len v ≡ length (range_with_len 0 c.args.count))) _ (λ v h. h.0)
    (fact_from_collect (λ xs v. (v.items ≡ xs) × (vec_len v ≡ length xs)) c.collect.result c.collect.ensures.ran
    (YieldsList-from_range 0 c.args.count c.args.count refl (omega arith)))
