use Rattle.std.proofs.Common.{◌+◌, inl, inr, arith, rules}
use Rattle.dpl_spec_edits.proofs.Lists.{one_list, good_or_bad}
use Rattle.dpl_edits.proofs.LineLaws.{all_read, bad_line, no_next}
use Rattle.dpl_edits.proofs.reading.read_edits.Goals as goal

pub returns-then-is_empty-clause-found : goal.returns-then-is_empty-clause-found
returns-then-is_empty-clause-found c =
    let l = c.loop-n.invariant in
    all_read c.args.bytes.now c.loop-n.rest.now c.loop-n.edits.items (record { each = l.each; few = omega arith; so_far = l.so_far }) (search rules)

pub returns-then-is_empty-clause-back : goal.returns-then-is_empty-clause-back
returns-then-is_empty-clause-back c = λ es listed. inl (one_list c.loop-n.edits.items es c.args.bytes.now (returns-then-is_empty-clause-found c) listed)

pub returns-in_default-clause-line : goal.returns-in_default-clause-line
returns-in_default-clause-line c =
    let l = c.loop-n.invariant in
    bad_line c.args.bytes.now c.loop-n.rest.now c.loop-n.edits.items (c.loop-n.n + 1) (record { each = l.each; few = omega arith; so_far = l.so_far })
    (search rules) (omega arith) (λ x t e. inl (no_next _ (λ d u f. c.in_default.ensures.none (record { edit = d }) u f) x t e))

pub returns-in_default-clause-back : goal.returns-in_default-clause-back
returns-in_default-clause-back c = λ es listed. absurd (good_or_bad es c.args.bytes.now (c.loop-n.n + 1) listed (returns-in_default-clause-line c))

pub returns-then-is_empty-2-clause-found : goal.returns-then-is_empty-2-clause-found
returns-then-is_empty-2-clause-found c =
    let l = c.loop-n.invariant in
    all_read c.args.bytes.now c.loop-n.rest.now c.loop-n.edits.items (record { each = l.each; few = omega arith; so_far = l.so_far }) (search rules)

pub returns-then-is_empty-2-clause-back : goal.returns-then-is_empty-2-clause-back
returns-then-is_empty-2-clause-back c = λ es listed. inl (one_list c.loop-n.edits.items es c.args.bytes.now (returns-then-is_empty-2-clause-found c) listed)

pub returns-clause-line : goal.returns-clause-line
returns-clause-line c =
    let l = c.loop-n.invariant in
    bad_line c.args.bytes.now c.loop-n.rest.now c.loop-n.edits.items 100001 (record { each = l.each; few = omega arith; so_far = l.so_far })
    (search rules) (omega arith) (λ x t e. inr (omega arith))

pub returns-clause-back : goal.returns-clause-back
returns-clause-back c = λ es listed. absurd (good_or_bad es c.args.bytes.now 100001 listed (returns-clause-line c))
