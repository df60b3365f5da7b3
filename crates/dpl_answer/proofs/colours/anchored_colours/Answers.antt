use Rattle.std.proofs.Common.{◌≡◌, ◌+◌, ◌-◌, ◌∙◌, ◌++◌, ℕ, List, length, map, drop, take, ap, sym, subst, arith}
use Rattle.std.proofs.lemmas.Result.{IfOk-from_err}
use Rattle.std.proofs.lemmas.List.{drop-map, length-drop, length-map, take_all}
use Rattle.dpl_orient.specs.declared.mask.Mask.{Mask}
use Rattle.dpl_orient.specs.Masks.{is_second}
use Rattle.std.specs.Prelude.{Some}
use Rattle.dpl_orient.specs.Fewer.{ColoursBy}
use Rattle.dpl_answer.specs.Anchors.{moved}
use Rattle.dpl_answer.proofs.Moving.{moved-below}
use Rattle.dpl_answer.proofs.colours.anchored_colours.Goals as goal

pub colours_by-requires-clause-sides : goal.colours_by-requires-clause-sides
colours_by-requires-clause-sides c = rw (c.deref.ensures.value, c.in_ok-moved.ensures, c.in-Some.ensures.1) (moved-below c.args.count c.args.sides.now c.requires.sides)

pub slice_bounds-extend_from_slice-count : goal.slice_bounds-extend_from_slice-count
slice_bounds-extend_from_slice-count c =
    let vertices : c.in-Some.vertices ≡ c.args.count + 2 = c.in-Some.ensures.1 in
    let many : length c.items-masks.result.now ≡ c.in-Some.vertices =
    sym (length-map c.items-masks.result.now is_second) ∙ (ap length c.items-masks.ensures ∙ c.in_ok-colours.ensures.each) in
    omega (arith, many, vertices)

pub returns : goal.returns
returns c =
    let colours = c.in_ok-colours.colours in
    let masks = c.items-masks.result.now in
    let vertices : c.in-Some.vertices ≡ c.args.count + 2 = c.in-Some.ensures.1 in
    let sides : c.deref.result.now ≡ moved c.args.sides.now = c.deref.ensures.value ∙ c.in_ok-moved.ensures in
    let graph = subst (λ (n : ℕ). ColoursBy c.args.reduce (Some 0) c.args.joined.now n (moved c.args.sides.now) colours) vertices
    (subst (λ (ss : List (ℕ × ℕ)). ColoursBy c.args.reduce (Some 0) c.args.joined.now c.in-Some.vertices ss colours) sides c.in_ok-colours.ensures.colours) in
    let all : take (length masks - 2) (drop 2 masks) ≡ drop 2 masks = take_all _ (drop 2 masks) (omega (arith, length-drop 2 masks)) in
    let kept : c.extend_from_slice.new.self.items ≡ drop 2 masks = c.in_ok-extend_from_slice.ensures.items
    ∙ (ap (λ (ms : List Mask). ms ++ take (length masks - 2) (drop 2 masks)) c.in_ok-letters.ensures.items ∙ all) in
    (colours, graph, c.of.ensures ∙ (ap (map is_second) kept ∙ (sym (drop-map is_second 2 masks) ∙ ap (drop 2) c.items-masks.ensures)))

pub returns-in_err-moved : goal.returns-in_err-moved
returns-in_err-moved c = IfOk-from_err _ _ c.from_residual.ensures.0

pub returns-in_err-colours : goal.returns-in_err-colours
returns-in_err-colours c = IfOk-from_err _ _ c.from_residual-in_err-colours.ensures.0

pub returns-in_err-letters : goal.returns-in_err-letters
returns-in_err-letters c = IfOk-from_err _ _ c.from_residual-in_err-letters.ensures.0

pub returns-in_err-extend_from_slice : goal.returns-in_err-extend_from_slice
returns-in_err-extend_from_slice c = IfOk-from_err _ _ c.from_residual-in_err-extend_from_slice.ensures.0
