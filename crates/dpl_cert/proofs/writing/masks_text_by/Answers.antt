use Rattle.std.proofs.Common.{length}
use Rattle.dpl_cert.specs.Lines.{line}
use Rattle.dpl_cert.specs.Grammar.{rows, version, opening, count_words, stitches_words, piece_words, stitch_words, gain_count, gain_rows, end_words}
use Rattle.dpl_cert.proofs.Listing.{joined}
use Rattle.dpl_cert.proofs.writing.masks_text_by.Goals as goal

pub returns : goal.returns
returns g c =
    let h = c.args.head.now in
    let gs = c.args.gains.now in
    joined (line (count_words h (stitches_words (length c.args.stitches.now)))) (opening (version h gs) h.rule h.overlap h.corner)
    (gain_count gs) (rows piece_words 0 c.args.pieces.now) (rows stitch_words 0 c.args.stitches.now) (gain_rows gs) (line end_words) _ _ _ _ _ _ _ _
    c.new-out.ensures.bytes (rw c.version.ensures at c.in_ok-put_opening.ensures) c.in_ok-put_masks_counts.ensures c.in_ok-put_gain_count.ensures
    c.in_ok-put_pieces_by.ensures c.in_ok-put_stitches_by.ensures c.in_ok-put_gains.ensures c.in_ok-put_end.ensures
