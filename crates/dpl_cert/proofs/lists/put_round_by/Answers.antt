use Rattle.std.proofs.Common.{◌≡◌, ◌*◌, ◌/◌, ◌%◌, ◌+◌, ◌<◌, min, IfOk, length, slice_index_or, string_bytes, arith, rules}
use Rattle.std.proofs.lemmas.Result.{on_ok_weaker}
use Rattle.dpl_cert.specs.Lines.{text}
use Rattle.dpl_cert.specs.Grammar.{rows, piece_words}
use Rattle.dpl_cert.proofs.Parts.{all-put_from, AreMadeFrom}
use Rattle.dpl_cert.proofs.lists.put_round_by.Goals as goal

pub returns : goal.returns
returns g c =
    let xs = c.args.pieces.now in
    let size = c.max-size.result in
    let made = c.in_ok-parts.parts.items in
    let some : 0 < size = omega arith in
    let len : length made ≡ length xs / size + min 1 (length xs % size) = omega (arith, c.in_ok-parts.parts.ok.0, c.in_ok-parts.ensures.len) in
    let each : AreMadeFrom piece_words c.args.first size xs made = λ k d lt.
    let at = (c.in_ok-parts.ensures.each k d lt).1 in
    let told : IfOk (slice_index_or made k d) (λ s. string_bytes s ≡ text (rows piece_words (c.args.first + k * size) at.argument.now)) = search rules in
    (omega (arith, at.argument_is.nonempty, at.argument_is.in_bounds), rw at.argument_is.value at told) in
    on_ok_weaker c.put_parts.result (λ put. all-put_from piece_words c.args.first size xs made _ _ each some len put) c.put_parts.ensures
