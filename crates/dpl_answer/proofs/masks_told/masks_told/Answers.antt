use Rattle.std.proofs.Common.{◌∙◌, ◌<◌, ◌^◌, ap, subst, sym, arith, rules, List, [], Bool, length}
use Rattle.std.proofs.lemmas.Result.{IfOk-from_err}
use Rattle.std.proofs.lemmas.List.{length-map}
use Rattle.std.specs.Option.{option_copied}
use Rattle.dpl_orient.specs.Masks.{is_second}
use Rattle.dpl_law_verdict.proofs.Rising.{gains-fit}
use Rattle.dpl_piece.specs.View.{cut_view}
use Rattle.dpl_answer.specs.Anchors.{AreLettersOf, marks_in}
use Rattle.dpl_answer.specs.Lines.{AreMaskLines}
use Rattle.dpl_answer.proofs.Deciding.{letters_as_many, lines_many}
use Rattle.dpl_answer.proofs.masks_told.masks_told.Goals as goal

pub gains_by-requires-clause-each : goal.gains_by-requires-clause-each
gains_by-requires-clause-each c =
    let pieces = c.args.pieces.now in
    let marks = marks_in (option_copied c.args.marks) in
    let (edges, are, sums) = c.requires.sums in
    let colours = c.in_ok-colours.colours in
    let letters : AreLettersOf c.args.fewer marks c.args.joined.now (length pieces.parts) pieces.sides colours = rw (
      c.sides.ensures.value,
      c.items.ensures.value,
      c.parts.ensures.value,
    ) at c.in_ok-colours.ensures in
    letters_as_many c.args.fewer marks (length pieces.parts) edges c.args.joined.now pieces.sides colours sums letters

pub mask_lines-requires-clause-each : goal.mask_lines-requires-clause-each
mask_lines-requires-clause-each c =
    let pieces = c.args.pieces.now in
    let marks = marks_in (option_copied c.args.marks) in
    let (edges, are, sums) = c.requires.sums in
    let colours = c.in_ok-colours.colours in
    let letters : AreLettersOf c.args.fewer marks c.args.joined.now (length pieces.parts) pieces.sides colours = rw (
      c.sides.ensures.value,
      c.items.ensures.value,
      c.parts.ensures.value,
    ) at c.in_ok-colours.ensures in
    sym (length-map c.items-2.result.now is_second) ∙ (ap length c.items-2.ensures
    ∙ letters_as_many c.args.fewer marks (length pieces.parts) edges c.args.joined.now pieces.sides colours sums letters)

pub returns : goal.returns
returns c =
    let pieces = c.args.pieces.now in
    let marks = marks_in (option_copied c.args.marks) in
    let (edges, are, sums) = c.requires.sums in
    let colours = c.in_ok-colours.colours in
    let letters : AreLettersOf c.args.fewer marks c.args.joined.now (length pieces.parts) pieces.sides colours = rw (
      c.sides.ensures.value,
      c.items.ensures.value,
      c.parts.ensures.value,
    ) at c.in_ok-colours.ensures in
    let many = letters_as_many c.args.fewer marks (length pieces.parts) edges c.args.joined.now pieces.sides colours sums letters in
    let gains = c.in_ok-gains.gains in
    let lines = c.in_ok-lines.lines in
    let are = subst (λ (ls : List Bool). AreMaskLines pieces.zones pieces.sides pieces.keys ls lines.pieces lines.stitches) c.items-2.ensures c.in_ok-lines.ensures.are in
    let few_items : length c.items.result.now < 2 ^ 64 = search rules in
    let few_pieces : length pieces.parts < 2 ^ 64 = omega (arith, few_items, ap length (c.items.ensures.value ∙ c.parts.ensures.value)) in
    let few_slice : length c.sides.result.now < 2 ^ 64 = search rules in
    let few_sides : length pieces.sides < 2 ^ 64 = omega (arith, few_slice, ap length c.sides.ensures.value) in
    record {
      letters = letters;
      each = many;
      gains = c.in_ok-gains.ensures;
      gains_fit = gains-fit c.args.fewer marks c.args.spacing (cut_view [] pieces) colours gains few_pieces few_sides (c.in_ok-gains.ensures []);
      lines = are;
      lines_fit = c.in_ok-lines.ensures.fit;
      lines_each = lines_many (length pieces.parts) colours pieces.keys lines.pieces many c.parts.ensures.keys are.pieces;
    }

pub returns-in_err-colours : goal.returns-in_err-colours
returns-in_err-colours c = IfOk-from_err _ _ c.from_residual.ensures.0

pub returns-in_err-gains : goal.returns-in_err-gains
returns-in_err-gains c = IfOk-from_err _ _ c.from_residual-in_err-gains.ensures.0

pub returns-in_err-lines : goal.returns-in_err-lines
returns-in_err-lines c = IfOk-from_err _ _ c.from_residual-in_err-lines.ensures.0
