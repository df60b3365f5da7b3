use Rattle.std.proofs.Common.{◌≡◌, sym, subst, ◌∙◌, ap, arith, to_z, of_z, w16, w64}
use Rattle.std.specs.Prelude.{unsigned_abs}
use Rattle.std.proofs.lemmas.Int.{ints}
use Rattle.std.proofs.lemmas.Result.{IfOk-from_err}
use Rattle.dpl_spec_elements.specs.Paths.{PathElement, path_of, distinct, HasSlant, HasTurnBack}
use Rattle.dpl_shapes.specs.Types.{HasNegativeEnd}
use Rattle.dpl_shapes.proofs.Faults.{IsPlain, plain-as, no-slant, turns-first, negative-first, no-fault, negative-as, slanted-first}
use Rattle.dpl_shapes.proofs.Ends.{drawn-all}
use Rattle.dpl_shapes.proofs.drawn_points.Goals as goal

pub returns-clause-points : goal.returns-clause-points
returns-clause-points c =
    let p : PathElement = path_of c.args.points.now c.args.width c.args.kind c.args.begin_ext c.args.end_ext in
    c.in_ok-corners.ensures ∙ sym (drawn-all p (omega (arith, ints)))

pub returns-then-turns_back-clause-refused : goal.returns-then-turns_back-clause-refused
returns-then-turns_back-clause-refused c =
    let p : PathElement = path_of c.args.points.now c.args.width c.args.kind c.args.begin_ext c.args.end_ext in
    let kind : to_z w16 (of_z w16 c.args.kind) ≡ c.args.kind = omega (arith, ints) in
    let width : to_z w64 (of_z w64 c.args.width) ≡ c.args.width = omega (arith, ints) in
    let plain : IsPlain p = plain-as p c.unsigned_abs-width.result _ (omega (arith, ints)) kind c.if-not-is_known_type.ensures
    (c.unsigned_abs-width.ensures.value ∙ ap unsigned_abs width) c.if-width-eq1.false in
    let straight : HasSlant (distinct c.args.points.now) → ⊥ = no-slant _ _ (c.deref.ensures.value ∙ c.in_ok-corners.ensures) c.if-not-is_straight.ensures in
    let turned : HasTurnBack (distinct c.args.points.now) = subst HasTurnBack (c.deref-2.ensures.value ∙ c.in_ok-corners.ensures) c.if-turns_back.ensures in
    turns-first p plain straight turned

pub returns-then-has_negative_end-clause-refused :
    goal.returns-then-has_negative_end-clause-refused
returns-then-has_negative_end-clause-refused c =
    let p : PathElement = path_of c.args.points.now c.args.width c.args.kind c.args.begin_ext c.args.end_ext in
    let kind : to_z w16 (of_z w16 c.args.kind) ≡ c.args.kind = omega (arith, ints) in
    let begin : to_z w64 (of_z w64 c.args.begin_ext) ≡ c.args.begin_ext = omega (arith, ints) in
    let end : to_z w64 (of_z w64 c.args.end_ext) ≡ c.args.end_ext = omega (arith, ints) in
    let width : to_z w64 (of_z w64 c.args.width) ≡ c.args.width = omega (arith, ints) in
    let plain : IsPlain p = plain-as p c.unsigned_abs-width.result _ (omega (arith, ints)) kind c.if-not-is_known_type.ensures
    (c.unsigned_abs-width.ensures.value ∙ ap unsigned_abs width) c.if-width-eq1.false in
    let straight : HasSlant (distinct c.args.points.now) → ⊥ = no-slant _ _ (c.deref.ensures.value ∙ c.in_ok-corners.ensures) c.if-not-is_straight.ensures in
    let on : HasTurnBack (distinct c.args.points.now) → ⊥ = subst (λ ps. HasTurnBack ps → ⊥) (c.deref-2.ensures.value ∙ c.in_ok-corners.ensures) c.if-turns_back.ensures in
    negative-first p plain straight on (negative-as _ _ _ _ _ _ kind begin end c.if-has_negative_end.ensures)

pub returns-clause-faultless : goal.returns-clause-faultless
returns-clause-faultless c =
    let p : PathElement = path_of c.args.points.now c.args.width c.args.kind c.args.begin_ext c.args.end_ext in
    let kind : to_z w16 (of_z w16 c.args.kind) ≡ c.args.kind = omega (arith, ints) in
    let begin : to_z w64 (of_z w64 c.args.begin_ext) ≡ c.args.begin_ext = omega (arith, ints) in
    let end : to_z w64 (of_z w64 c.args.end_ext) ≡ c.args.end_ext = omega (arith, ints) in
    let width : to_z w64 (of_z w64 c.args.width) ≡ c.args.width = omega (arith, ints) in
    let plain : IsPlain p = plain-as p c.unsigned_abs-width.result _ (omega (arith, ints)) kind c.if-not-is_known_type.ensures
    (c.unsigned_abs-width.ensures.value ∙ ap unsigned_abs width) c.if-width-eq1.false in
    let straight : HasSlant (distinct c.args.points.now) → ⊥ = no-slant _ _ (c.deref.ensures.value ∙ c.in_ok-corners.ensures) c.if-not-is_straight.ensures in
    let on : HasTurnBack (distinct c.args.points.now) → ⊥ = subst (λ ps. HasTurnBack ps → ⊥) (c.deref-2.ensures.value ∙ c.in_ok-corners.ensures) c.if-turns_back.ensures in
    let fit : HasNegativeEnd c.args.kind c.args.begin_ext c.args.end_ext → ⊥ = λ h. c.if-has_negative_end.ensures (negative-as _ _ _ _ _ _ (sym kind) (sym begin) (sym end) h) in
    no-fault p plain straight on fit

pub returns-in_err-corners-clause-points : goal.returns-in_err-corners-clause-points
returns-in_err-corners-clause-points c = IfOk-from_err _ _ c.from_residual.ensures.0

pub returns-in_err-corners-clause-faultless : goal.returns-in_err-corners-clause-faultless
returns-in_err-corners-clause-faultless c = IfOk-from_err _ _ c.from_residual.ensures.0

pub returns-then-not-is_straight-clause-refused : goal.returns-then-not-is_straight-clause-refused
returns-then-not-is_straight-clause-refused c =
    let p : PathElement = path_of c.args.points.now c.args.width c.args.kind c.args.begin_ext c.args.end_ext in
    let kind : to_z w16 (of_z w16 c.args.kind) ≡ c.args.kind = omega (arith, ints) in
    let width : to_z w64 (of_z w64 c.args.width) ≡ c.args.width = omega (arith, ints) in
    let plain : IsPlain p = plain-as p c.unsigned_abs-width.result _ (omega (arith, ints)) kind c.if-not-is_known_type.ensures
    (c.unsigned_abs-width.ensures.value ∙ ap unsigned_abs width) c.if-width-eq1.false in
    slanted-first p plain (subst HasSlant (c.deref.ensures.value ∙ c.in_ok-corners.ensures) c.if-not-is_straight.ensures)
