use Rattle.std.proofs.Common.{◌≡◌, Err, refl, ◌∙◌}
use Rattle.std.proofs.lemmas.Result.{err_from_is_err_and}
use Rattle.std.specs.Option.{option_map}
use Rattle.dpl_spec_format.specs.Kinds as kinds
use Rattle.dpl_records.specs.Seen.{seen}
use Rattle.dpl_syntax.specs.Reading as reading
use Rattle.dpl_syntax.proofs.Chains.{same_bytes, none_then, item_then, item_fails, fails_behind, may_is, may_fails}
use Rattle.dpl_syntax.proofs.Refusals.{refuses}
use Rattle.dpl_syntax.proofs.reader.Reader.take_style.Goals as goal

pub returns-in_err-take_if-clause-err : goal.returns-in_err-take_if-clause-err
returns-in_err-take_if-clause-err c =
    let p = err_from_is_err_and c.from_residual.result c.from_residual.ensures.1 in
    let bytes = c.args.self.now.bytes.now in
    rw (p.1, p.2) (refuses (λ f. reading.take_if bytes kinds.presentation c.args.self.now.at ≡ Err f) (λ f. reading.items_at bytes reading.style c.args.self.now.at ≡ Err f) c.in_err-take_if.field-0.0
    (λ f h. (item_fails bytes _ _ _ f _ refl (may_fails bytes kinds.presentation c.args.self.now.at f h))) c.in_err-take_if.ensures.exact)

pub returns-in_err-take_if-2-clause-err : goal.returns-in_err-take_if-2-clause-err
returns-in_err-take_if-2-clause-err c =
    let p = err_from_is_err_and c.from_residual-in_err-take_if-2.result c.from_residual-in_err-take_if-2.ensures.1 in
    let bytes = c.args.self.now.bytes.now in
    let same_1 = same_bytes c.take_if.new.self c.args.self.now c.in_ok-take_if.ensures.bytes in
    rw (p.1, p.2) (refuses (λ f. reading.take_if c.take_if.new.self.bytes.now kinds.pathtype c.take_if.new.self.at ≡ Err f) (λ f. reading.items_at bytes reading.style
    c.args.self.now.at ≡ Err f) c.in_err-take_if-2.field-0.0
    (λ f h. (fails_behind bytes _ _ _ _ _ f _ refl (may_is bytes kinds.presentation c.args.self.now.at c.take_if.new.self.at (option_map seen c.in_ok-take_if.field-0) c.in_ok-take_if.ensures.exact)
    (item_fails bytes _ _ _ f _ same_1 (may_fails c.take_if.new.self.bytes.now kinds.pathtype c.take_if.new.self.at f h)))) c.in_err-take_if-2.ensures.exact)

pub returns-in_err-take_if-3-clause-err : goal.returns-in_err-take_if-3-clause-err
returns-in_err-take_if-3-clause-err c =
    let p = err_from_is_err_and c.from_residual-in_err-take_if-3.result c.from_residual-in_err-take_if-3.ensures.1 in
    let bytes = c.args.self.now.bytes.now in
    let same_1 = same_bytes c.take_if.new.self c.args.self.now c.in_ok-take_if.ensures.bytes in
    let same_2 = same_bytes c.take_if-2.new.self c.take_if.new.self c.in_ok-take_if-2.ensures.bytes ∙ same_1 in
    rw (p.1, p.2) (refuses (λ f. reading.take_if c.take_if-2.new.self.bytes.now kinds.width c.take_if-2.new.self.at ≡ Err f) (λ f. reading.items_at bytes reading.style
    c.args.self.now.at ≡ Err f) c.in_err-take_if-3.field-0.0
    (λ f h. (fails_behind bytes _ _ _ _ _ f _ refl (may_is bytes kinds.presentation c.args.self.now.at c.take_if.new.self.at (option_map seen c.in_ok-take_if.field-0) c.in_ok-take_if.ensures.exact)
    (fails_behind bytes _ _ _ _ _ f _ same_1 (may_is c.take_if.new.self.bytes.now kinds.pathtype c.take_if.new.self.at c.take_if-2.new.self.at (option_map seen c.in_ok-take_if-2.field-0)
    c.in_ok-take_if-2.ensures.exact)
    (item_fails bytes _ _ _ f _ same_2 (may_fails c.take_if-2.new.self.bytes.now kinds.width c.take_if-2.new.self.at f h))))) c.in_err-take_if-3.ensures.exact)

pub returns-in_err-take_trans-clause-err : goal.returns-in_err-take_trans-clause-err
returns-in_err-take_trans-clause-err c =
    let p = err_from_is_err_and c.from_residual-in_err-take_trans.result c.from_residual-in_err-take_trans.ensures.1 in
    let bytes = c.args.self.now.bytes.now in
    let same_1 = same_bytes c.take_if.new.self c.args.self.now c.in_ok-take_if.ensures.bytes in
    let same_2 = same_bytes c.take_if-2.new.self c.take_if.new.self c.in_ok-take_if-2.ensures.bytes ∙ same_1 in
    let same_3 = same_bytes c.take_if-3.new.self c.take_if-2.new.self c.in_ok-take_if-3.ensures.bytes ∙ same_2 in
    rw (p.1, p.2) (refuses (λ f. reading.item_at c.take_if-3.new.self.bytes.now reading.transformed c.take_if-3.new.self.at ≡ Err f) (λ f. reading.items_at bytes reading.style
    c.args.self.now.at ≡ Err f) c.in_err-take_trans.field-0.0
    (λ f h. (fails_behind bytes _ _ _ _ _ f _ refl (may_is bytes kinds.presentation c.args.self.now.at c.take_if.new.self.at (option_map seen c.in_ok-take_if.field-0) c.in_ok-take_if.ensures.exact)
    (fails_behind bytes _ _ _ _ _ f _ same_1 (may_is c.take_if.new.self.bytes.now kinds.pathtype c.take_if.new.self.at c.take_if-2.new.self.at (option_map seen c.in_ok-take_if-2.field-0)
    c.in_ok-take_if-2.ensures.exact)
    (fails_behind bytes _ _ _ _ _ f _ same_2 (may_is c.take_if-2.new.self.bytes.now kinds.width c.take_if-2.new.self.at c.take_if-3.new.self.at (option_map seen c.in_ok-take_if-3.field-0)
    c.in_ok-take_if-3.ensures.exact)
    (item_fails bytes _ _ _ f _ same_3 h))))) c.in_err-take_trans.ensures.err)

pub returns-clause-ok : goal.returns-clause-ok
returns-clause-ok c =
    let bytes = c.args.self.now.bytes.now in
    let same_1 = same_bytes c.take_if.new.self c.args.self.now c.in_ok-take_if.ensures.bytes in
    let same_2 = same_bytes c.take_if-2.new.self c.take_if.new.self c.in_ok-take_if-2.ensures.bytes ∙ same_1 in
    let same_3 = same_bytes c.take_if-3.new.self c.take_if-2.new.self c.in_ok-take_if-3.ensures.bytes ∙ same_2 in
    let t = c.in_ok-take_trans.ensures.ok in
    record {
      presentation = option_map seen c.in_ok-take_if.field-0;
      pathtype = option_map seen c.in_ok-take_if-2.field-0;
      width = option_map seen c.in_ok-take_if-3.field-0;
      strans = t.strans;
      mag = t.mag;
      angle = t.angle;
      fills = (item_then bytes _ _ _ _ _ _ _ _ refl (may_is bytes kinds.presentation c.args.self.now.at c.take_if.new.self.at (option_map seen c.in_ok-take_if.field-0) c.in_ok-take_if.ensures.exact)
          (item_then bytes _ _ _ _ _ _ _ _ same_1 (may_is c.take_if.new.self.bytes.now kinds.pathtype c.take_if.new.self.at c.take_if-2.new.self.at (option_map seen
          c.in_ok-take_if-2.field-0) c.in_ok-take_if-2.ensures.exact)
          (item_then bytes _ _ _ _ _ _ _ _ same_2 (may_is c.take_if-2.new.self.bytes.now kinds.width c.take_if-2.new.self.at c.take_if-3.new.self.at (option_map seen
          c.in_ok-take_if-3.field-0) c.in_ok-take_if-3.ensures.exact)
          (item_then bytes _ _ _ _ _ _ _ _ same_3 c.in_ok-take_trans.ensures.ok.fills
          (none_then bytes c.take_trans.new.self.at)))));
    }
