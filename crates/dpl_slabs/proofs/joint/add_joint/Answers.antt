use Rattle.std.proofs.Common.{◌≤◌, ◌⊎◌, ◌++◌, inl, inr, length, arith}
use Rattle.std.proofs.lemmas.List.Elements.{Contains-append_left, Contains-append_right}
use Rattle.dpl_slabs.specs.Cells.{Chosen}
use Rattle.dpl_slabs.proofs.StripLaws.{adds-strip}
use Rattle.dpl_slabs.proofs.JointLaws.{chosen-covered, adds-none, adds-first}
use Rattle.std.proofs.lemmas.Result.{IfOk-from_err}
use Rattle.dpl_slabs.proofs.joint.add_joint.Goals.{then-is_empty-via-then-is_empty, then-is_empty-via-else-is_empty+then-is_empty-2}
use Rattle.dpl_slabs.proofs.joint.add_joint.Goals as goal

pub returns-in-Both : goal.returns-in-Both
returns-in-Both c =
    let alone : (length c.args.first.now ≤ 0) ⊎ (length c.args.second.now ≤ 0) = elim c.then-is_empty.branch [
      | then-is_empty-via-then-is_empty w ↦ inl (let h = c.is_empty.ensures in let k = w.if-is_empty in grind arith)
      | then-is_empty-via-else-is_empty+then-is_empty-2 w ↦ inr (let h = w.is_empty-else-is_empty in let k = w.if-is_empty-2 in grind arith)
    ] in
    rw c.in-Both.is (adds-none c.args.slabs.now.items c.args.first.now c.args.second.now c.requires.canonical c.requires.below alone)

pub returns-in-Minus : goal.returns-in-Minus
returns-in-Minus c =
    let alone : (length c.args.first.now ≤ 0) ⊎ (length c.args.second.now ≤ 0) = elim c.then-is_empty.branch [
      | then-is_empty-via-then-is_empty w ↦ inl (let h = c.is_empty.ensures in let k = w.if-is_empty in grind arith)
      | then-is_empty-via-else-is_empty+then-is_empty-2 w ↦ inr (let h = w.is_empty-else-is_empty in let k = w.if-is_empty-2 in grind arith)
    ] in
    rw (c.in-Minus.is, c.in_ok-extend_from_slice-in-Minus.ensures.items)
    (adds-first c.args.slabs.now.items c.args.first.now c.args.second.now c.requires.canonical c.requires.below alone c.requires.first
    (λ r r_in. c.requires.within r (Contains-append_left c.args.first.now c.args.second.now r r_in)))

pub combine-requires-clause-second : goal.combine-requires-clause-second
combine-requires-clause-second c = λ r r_in. c.requires.within r (Contains-append_right c.args.first.now c.args.second.now r r_in)

pub returns : goal.returns
returns c =
    let first = c.args.first.now in
    let second = c.args.second.now in
    rw (c.in_ok-extend_from_slice.ensures.items, c.deref.ensures.value)
    (adds-strip (Chosen c.args.rule first second) c.args.slabs.now.items c.in_ok-more.more.items
    (first ++ second) c.requires.canonical c.requires.below (chosen-covered c.args.rule first second) c.in_ok-more.ensures.slabs
    c.in_ok-more.ensures.within)

pub returns-in_err-more : goal.returns-in_err-more
returns-in_err-more c = IfOk-from_err _ _ c.from_residual-in_err-more.ensures.0

pub returns-in_err-extend_from_slice : goal.returns-in_err-extend_from_slice
returns-in_err-extend_from_slice c = IfOk-from_err _ _ c.from_residual-in_err-extend_from_slice.ensures.0

pub combine-requires-clause-first : goal.combine-requires-clause-first
combine-requires-clause-first c = λ r r_in. c.requires.within r (Contains-append_left c.args.first.now c.args.second.now r r_in)
