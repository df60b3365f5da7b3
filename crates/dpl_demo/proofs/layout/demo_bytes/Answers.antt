use Rattle.std.proofs.Common.{◌≡◌, ◌∙◌, ◌+◌, ◌*◌, ap, arith, length}
use Rattle.dpl_demo.proofs.Rows.{all_put, file_size, first_number, opening_put, number_more, row_more}
use Rattle.dpl_demo.proofs.layout.demo_bytes.Goals as goal

pub loop-row-init : goal.loop-row-init
loop-row-init c = record { number = first_number c.args.seed; bytes = opening_put c.args.seed _ _ c.in_ok-out.ensures.items c.in_ok-extend_from_slice.ensures.items }

pub loop-row-preserved : goal.loop-row-preserved
loop-row-preserved c =
    let number = number_more c.args.seed c.loop-row.row c.loop-row.number c.next_number-number.result c.loop-row.invariant.number c.next_number-number.ensures in
    record {
      number = number;
      bytes = row_more c.args.seed c.loop-row.row _ _ c.next_number-number.result c.gap_of.result number c.gap_of.ensures c.loop-row.invariant.bytes c.in_ok-put_row.ensures;
    }

pub returns-clause-size : goal.returns-clause-size
returns-clause-size c =
    let done : c.loop-row.row ≡ c.args.rows = omega (arith, c.loop-row.auto.row-end) in
    let all = all_put c.args.seed c.loop-row.row _ _ c.loop-row.invariant.bytes c.in_ok-extend_from_slice-2.ensures.items in
    ap length all ∙ file_size c.args.seed c.loop-row.row ∙ ap (λ n. 106 + 128 * n) done
