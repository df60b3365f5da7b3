use Rattle.std.proofs.Common.{◌≡◌, length, vec_len, arith, rules}
use Rattle.std.proofs.lemmas.List.Sorted.{All-permutation}
use Rattle.std.proofs.lemmas.Result.{IfOk-from_err}
use Rattle.dpl_zone.proofs.Joining.{IsWithin, joined-sorted}
use Rattle.dpl_zone.proofs.Keeping.{joined-no_flat, joined-no_upright}
use Rattle.dpl_zone.proofs.kept.joined.Goals as goal

pub returns-then-is_empty : goal.returns-then-is_empty
returns-then-is_empty c = joined-no_flat c.args.flat.items c.args.upright.items (let h = c.if-is_empty.ensures in
    let counted : vec_len c.args.flat ≡ length c.args.flat.items = search rules in grind arith)

pub returns-then-is_empty-2 : goal.returns-then-is_empty-2
returns-then-is_empty-2 c = joined-no_upright c.args.flat.items c.args.upright.items (let h = c.if-is_empty-2.ensures in
    let counted : vec_len c.args.upright ≡ length c.args.upright.items = search rules in grind arith)

pub kept_upright-requires-clause-flat : goal.kept_upright-requires-clause-flat
kept_upright-requires-clause-flat c = rw c.deref.ensures.value (All-permutation IsWithin _ _ c.sort_by_feature.ensures.same c.requires.flat)

pub kept_upright-requires-clause-upright : goal.kept_upright-requires-clause-upright
kept_upright-requires-clause-upright c = rw c.deref-2.ensures.value (All-permutation IsWithin _ _ c.sort_by_feature-2.ensures.same c.requires.upright)

pub returns : goal.returns
returns c =
    rw c.in_ok-append.ensures.items
    (joined-sorted c.args.flat.items c.args.upright.items _ _ c.in_ok-kept.kept.items c.sort_by_feature.ensures.same c.sort_by_feature-2.ensures.same
    (rw (c.deref.ensures.value, c.deref-2.ensures.value) at c.in_ok-kept.ensures))

pub returns-in_err-kept : goal.returns-in_err-kept
returns-in_err-kept c = IfOk-from_err _ _ c.from_residual.ensures.0

pub returns-in_err-append : goal.returns-in_err-append
returns-in_err-append c = IfOk-from_err _ _ c.from_residual-in_err-append.ensures.0
