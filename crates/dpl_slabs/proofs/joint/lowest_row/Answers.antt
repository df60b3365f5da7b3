use Rattle.std.proofs.Common.{◌≡◌, ◌<◌, ap, inl, inr, length, get_or, rules, w32, FitsSigned, arith}
use Rattle.std.proofs.lemmas.Int.{ints, to_z-of_z}
use Rattle.std.proofs.lemmas.List.{get_or_default}
use Rattle.dpl_spec_split.specs.declared.Rect.{Rect}
use Rattle.dpl_slabs.proofs.Firsts.{zero}
use Rattle.dpl_slabs.proofs.JointLaws.{lowest-left, lowest-right, min-known}
use Rattle.dpl_slabs.proofs.joint.lowest_row.Goals as goal

pub returns-clause-some : goal.returns-clause-some
returns-clause-some c =
    let first = c.args.first.now in
    let second = c.args.second.now in
    let some : 0 < length first = search rules in
    let others : 0 < length second = search rules in
    let r : Rect = get_or first 0 zero in
    let s : Rect = get_or second 0 zero in
    let a : FitsSigned w32 r.y0 = search rules in
    let b : FitsSigned w32 s.y0 = search rules in
    let low : FitsSigned w32 c.min.result = search rules in
    rw (to_z-of_z w32 c.min.result low) (elim (min-known _ _ r.y0 s.y0 c.min.result (to_z-of_z w32 r.y0 a) (to_z-of_z w32 s.y0 b) c.min.ensures.value) [
      | inl e ↦ lowest-left first second r c.min.result some (get_or_default first 0 zero r some) (omega (arith, ints, e))
      | inr e ↦ lowest-right first second s c.min.result others (get_or_default second 0 zero s others) (omega (arith, ints, e))
    ])

pub returns-then-is_empty-clause-first : goal.returns-then-is_empty-clause-first
returns-then-is_empty-clause-first c d some =
    let first = c.args.first.now in
    let r : Rect = get_or first 0 zero in
    let a : FitsSigned w32 r.y0 = search rules in
    let same : r ≡ get_or first 0 d = get_or_default first 0 zero d some in
    rw (to_z-of_z w32 r.y0 a) (omega (arith, ints, ap (λ t. let u : Rect = t in u.y0) same))

pub returns-then-is_empty-2-clause-second : goal.returns-then-is_empty-2-clause-second
returns-then-is_empty-2-clause-second c d some =
    let second = c.args.second.now in
    let r : Rect = get_or second 0 zero in
    let a : FitsSigned w32 r.y0 = search rules in
    let same : r ≡ get_or second 0 d = get_or_default second 0 zero d some in
    rw (to_z-of_z w32 r.y0 a) (omega (arith, ints, ap (λ t. let u : Rect = t in u.y0) same))

pub returns-clause-second : goal.returns-clause-second
returns-clause-second c d some =
    let second = c.args.second.now in
    let r : Rect = get_or second 0 zero in
    let a : FitsSigned w32 r.y0 = search rules in
    let low : FitsSigned w32 c.min.result = search rules in
    let same : r ≡ get_or second 0 d = get_or_default second 0 zero d some in
    let under = rw (to_z-of_z w32 r.y0 a) at c.min.ensures.other_bound in
    rw (to_z-of_z w32 c.min.result low) (omega (arith, ints, under, ap (λ t. let u : Rect = t in u.y0) same))
