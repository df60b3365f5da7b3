use Rattle.std.proofs.Common.{◌≡◌, ◌∙◌, ap, subst, sym, inl, inr, ◌<◌, length, refl, set, rules, w32, FitsSigned, arith}
use Rattle.std.proofs.lemmas.Bool.{false≢true}
use Rattle.std.proofs.lemmas.Int.{to_z-of_z}
use Rattle.std.proofs.lemmas.List.{get_or_default}
use Rattle.dpl_upward.specs.Fronts.{piece_at}
use Rattle.dpl_order.specs.Joins.{taller}
use Rattle.dpl_order.specs.Pieces.{Continues}
use Rattle.dpl_upward.proofs.FrontLaws.{zero}
use Rattle.std.proofs.lemmas.Result.{IfOk-from_err}
use Rattle.dpl_upward.proofs.upward.put_at.Goals.{else-number-len-via-then-number-len+else-continues, else-number-len-via-else-number-len}
use Rattle.dpl_upward.proofs.upward.put_at.Goals as goal

pub returns-then-continues : goal.returns-then-continues
returns-then-continues c =
    let pieces = c.args.pieces.now.items in
    let number = c.args.number in
    let bar = c.args.bar in
    let here : number < length pieces = search rules in
    let high : FitsSigned w32 bar.y1 = search rules in
    let read : c.index.result.now ≡ piece_at pieces number = c.index.ensures ∙ get_or_default pieces number c.index.result.now zero here in
    let slab : c.index_mut.result.now ≡ piece_at pieces number = c.index_mut.ensures.value ∙ get_or_default pieces number c.index_mut.result.now zero here in
    inl (
      refl,
      record {
        within = here;
        on = rw read at (c.if-continues.ensures.0 refl);
        grown = rw (to_z-of_z w32 _ high) (ap (λ r. set pieces number (taller r bar.y1)) slab);
      },
    )

pub returns : goal.returns
returns c =
    let pieces = c.args.pieces.now.items in
    let number = c.args.number in
    inr (record {
      off = λ l on. elim c.else-number-len.branch [
        | else-number-len-via-then-number-len+else-continues w ↦
            (let read : w.index.result.now ≡ piece_at pieces number = w.index.ensures ∙ get_or_default pieces number w.index.result.now zero l in
            false≢true (w.if-continues.ensures.1 (subst (λ r. Continues r c.args.bar) (sym read) on)))
        | else-number-len-via-else-number-len w ↦ (let over = w.if-number-len.false in omega (arith, l, over))
      ];
      last = search rules;
      added = c.in_ok-push.ensures.items;
    })

pub returns-in_err-push : goal.returns-in_err-push
returns-in_err-push c = IfOk-from_err _ _ c.from_residual.ensures.0
