use Rattle.std.proofs.Common.{◌≡◌, Err, refl, ◌∙◌, le_trans, rules, w16, FitsSigned}
use Rattle.std.proofs.lemmas.Result.{err_from_is_err_and}
use Rattle.std.proofs.lemmas.Int.{to_z-of_z}
use Rattle.dpl_spec_format.specs.Kinds as kinds
use Rattle.dpl_syntax.specs.Reading as reading
use Rattle.dpl_syntax.proofs.Chains.{same_bytes, none_then, item_then, item_fails, fails_behind, body_then, body_fails, must_is, must_fails, named_is, named_fails, points_are, points_fail}
use Rattle.dpl_syntax.proofs.Refusals.{refuses}
use Rattle.dpl_syntax.proofs.Sizes.{colrow_size, colrow_first}
use Rattle.dpl_syntax.proofs.reader.Reader.aref.Goals as goal

pub returns-in_err-name-clause-exact : goal.returns-in_err-name-clause-exact
returns-in_err-name-clause-exact c =
    let p = err_from_is_err_and c.from_residual.result c.from_residual.ensures.1 in
    let bytes = c.args.self.now.bytes.now in
    rw (p.1, p.2) (refuses (λ f. reading.take_name bytes c.args.self.now.at ≡ Err f) (λ f. reading.body_behind_flags bytes kinds.aref c.args.self.now.at ≡ Err f) c.in_err-name.field-0.0
    (λ f h. body_fails bytes kinds.aref c.args.self.now.at f (item_fails bytes _ _ _ f _ refl (named_fails bytes c.args.self.now.at f h))) c.in_err-name.ensures.err)

pub returns-in_err-name-clause-points : goal.returns-in_err-name-clause-points
returns-in_err-name-clause-points c = rw (err_from_is_err_and c.from_residual.result c.from_residual.ensures.1).1 tt

pub returns-in_err-name-clause-on : goal.returns-in_err-name-clause-on
returns-in_err-name-clause-on c = c.in_err-name.ensures.on

pub returns-in_err-name-clause-bytes : goal.returns-in_err-name-clause-bytes
returns-in_err-name-clause-bytes c = c.in_err-name.ensures.bytes

pub returns-in_err-trans-clause-exact : goal.returns-in_err-trans-clause-exact
returns-in_err-trans-clause-exact c =
    let p = err_from_is_err_and c.from_residual-in_err-trans.result c.from_residual-in_err-trans.ensures.1 in
    let bytes = c.args.self.now.bytes.now in
    let same_name = same_bytes c.take_name.new.self c.args.self.now c.in_ok-name.ensures.bytes in
    rw (p.1, p.2) (refuses (λ f. reading.item_at c.take_name.new.self.bytes.now reading.transformed c.take_name.new.self.at ≡ Err f) (λ f. reading.body_behind_flags bytes kinds.aref
    c.args.self.now.at ≡ Err f) c.in_err-trans.field-0.0
    (λ f h. body_fails bytes kinds.aref c.args.self.now.at f (fails_behind bytes _ _ _ _ _ f _ refl (named_is bytes c.args.self.now.at c.take_name.new.self.at c.in_ok-name.ensures.ok.from
    c.in_ok-name.ensures.ok.found)
    (item_fails bytes _ _ _ f _ same_name h))) c.in_err-trans.ensures.err)

pub returns-in_err-trans-clause-points : goal.returns-in_err-trans-clause-points
returns-in_err-trans-clause-points c = rw (err_from_is_err_and c.from_residual-in_err-trans.result c.from_residual-in_err-trans.ensures.1).1 tt

pub returns-in_err-trans-clause-on : goal.returns-in_err-trans-clause-on
returns-in_err-trans-clause-on c = le_trans c.in_ok-name.ensures.on c.in_err-trans.ensures.on

pub returns-in_err-trans-clause-bytes : goal.returns-in_err-trans-clause-bytes
returns-in_err-trans-clause-bytes c = c.in_err-trans.ensures.bytes ∙ c.in_ok-name.ensures.bytes

pub returns-in_err-colrow-clause-exact : goal.returns-in_err-colrow-clause-exact
returns-in_err-colrow-clause-exact c =
    let p = err_from_is_err_and c.from_residual-in_err-colrow.result c.from_residual-in_err-colrow.ensures.1 in
    let bytes = c.args.self.now.bytes.now in
    let same_name = same_bytes c.take_name.new.self c.args.self.now c.in_ok-name.ensures.bytes in
    let same_trans = same_bytes c.take_trans.new.self c.take_name.new.self c.in_ok-trans.ensures.bytes ∙ same_name in
    rw (p.1, p.2) (refuses (λ f. reading.take c.take_trans.new.self.bytes.now kinds.colrow c.take_trans.new.self.at ≡ Err f) (λ f. reading.body_behind_flags bytes kinds.aref
    c.args.self.now.at ≡ Err f) c.in_err-colrow.field-0.0
    (λ f h. body_fails bytes kinds.aref c.args.self.now.at f (fails_behind bytes _ _ _ _ _ f _ refl (named_is bytes c.args.self.now.at c.take_name.new.self.at c.in_ok-name.ensures.ok.from
    c.in_ok-name.ensures.ok.found)
    (fails_behind bytes _ _ _ _ _ f _ same_name c.in_ok-trans.ensures.ok.fills
    (item_fails bytes _ _ _ f _ same_trans (must_fails c.take_trans.new.self.bytes.now kinds.colrow c.take_trans.new.self.at f h))))) c.in_err-colrow.ensures.err)

pub returns-in_err-colrow-clause-points : goal.returns-in_err-colrow-clause-points
returns-in_err-colrow-clause-points c = rw (err_from_is_err_and c.from_residual-in_err-colrow.result c.from_residual-in_err-colrow.ensures.1).1 tt

pub returns-in_err-colrow-clause-on : goal.returns-in_err-colrow-clause-on
returns-in_err-colrow-clause-on c = le_trans c.in_ok-name.ensures.on (le_trans c.in_ok-trans.ensures.on c.in_err-colrow.ensures.on)

pub returns-in_err-colrow-clause-bytes : goal.returns-in_err-colrow-clause-bytes
returns-in_err-colrow-clause-bytes c = c.in_err-colrow.ensures.bytes ∙ c.in_ok-trans.ensures.bytes ∙ c.in_ok-name.ensures.bytes

pub returns-in_err-xy-clause-exact : goal.returns-in_err-xy-clause-exact
returns-in_err-xy-clause-exact c =
    let p = err_from_is_err_and c.from_residual-in_err-xy.result c.from_residual-in_err-xy.ensures.1 in
    let bytes = c.args.self.now.bytes.now in
    let same_name = same_bytes c.take_name.new.self c.args.self.now c.in_ok-name.ensures.bytes in
    let same_trans = same_bytes c.take_trans.new.self c.take_name.new.self c.in_ok-trans.ensures.bytes ∙ same_name in
    let same_colrow = same_bytes c.take_data.new.self c.take_trans.new.self c.in_ok-colrow.ensures.bytes ∙ same_trans in
    rw (p.1, p.2) (refuses (λ f. reading.take_points c.take_data.new.self.bytes.now 24 c.take_data.new.self.at ≡ Err f) (λ f. reading.body_behind_flags bytes kinds.aref
    c.args.self.now.at ≡ Err f) c.in_err-xy.field-0.0
    (λ f h. body_fails bytes kinds.aref c.args.self.now.at f (fails_behind bytes _ _ _ _ _ f _ refl (named_is bytes c.args.self.now.at c.take_name.new.self.at c.in_ok-name.ensures.ok.from
    c.in_ok-name.ensures.ok.found)
    (fails_behind bytes _ _ _ _ _ f _ same_name c.in_ok-trans.ensures.ok.fills
    (fails_behind bytes _ _ _ _ _ f _ same_trans (must_is c.take_trans.new.self.bytes.now kinds.colrow c.take_trans.new.self.at c.take_data.new.self.at c.in_ok-colrow.ensures.ok.from
    c.in_ok-colrow.ensures.ok.found)
    (item_fails bytes _ _ _ f _ same_colrow (points_fail c.take_data.new.self.bytes.now 24 c.take_data.new.self.at f h)))))) c.in_err-xy.ensures.err)

pub returns-in_err-xy-clause-points : goal.returns-in_err-xy-clause-points
returns-in_err-xy-clause-points c = rw (err_from_is_err_and c.from_residual-in_err-xy.result c.from_residual-in_err-xy.ensures.1).1 tt

pub returns-in_err-xy-clause-on : goal.returns-in_err-xy-clause-on
returns-in_err-xy-clause-on c = le_trans c.in_ok-name.ensures.on (le_trans c.in_ok-trans.ensures.on (le_trans c.in_ok-colrow.ensures.on c.in_err-xy.ensures.on))

pub returns-in_err-xy-clause-bytes : goal.returns-in_err-xy-clause-bytes
returns-in_err-xy-clause-bytes c = c.in_err-xy.ensures.bytes ∙ c.in_ok-colrow.ensures.bytes ∙ c.in_ok-trans.ensures.bytes ∙ c.in_ok-name.ensures.bytes

pub returns-clause-exact : goal.returns-clause-exact
returns-clause-exact c =
    let bytes = c.args.self.now.bytes.now in
    let same_name = same_bytes c.take_name.new.self c.args.self.now c.in_ok-name.ensures.bytes in
    let same_trans = same_bytes c.take_trans.new.self c.take_name.new.self c.in_ok-trans.ensures.bytes ∙ same_name in
    let same_colrow = same_bytes c.take_data.new.self c.take_trans.new.self c.in_ok-colrow.ensures.bytes ∙ same_trans in
    let found = body_then bytes kinds.aref c.args.self.now.at c.take_points.new.self.at _
    (item_then bytes _ _ _ _ _ _ _ _ refl (named_is bytes c.args.self.now.at c.take_name.new.self.at c.in_ok-name.ensures.ok.from c.in_ok-name.ensures.ok.found)
    (item_then bytes _ _ _ _ _ _ _ _ same_name c.in_ok-trans.ensures.ok.fills
    (item_then bytes _ _ _ _ _ _ _ _ same_trans (must_is c.take_trans.new.self.bytes.now kinds.colrow c.take_trans.new.self.at c.take_data.new.self.at c.in_ok-colrow.ensures.ok.from
    c.in_ok-colrow.ensures.ok.found)
    (item_then bytes _ _ _ _ _ _ _ _ same_colrow (points_are c.take_data.new.self.bytes.now 24 c.take_data.new.self.at c.take_points.new.self.at c.in_ok-xy.ensures.ok.from c.in_ok-xy.ensures.ok.found)
    (none_then bytes c.take_points.new.self.at))))) in
    let columns : FitsSigned w16 c.i16_at.result = search rules in
    let rows : FitsSigned w16 c.i16_at-2.result = search rules in
    rw (
      to_z-of_z w16 c.i16_at.result columns,
      to_z-of_z w16 c.i16_at-2.result rows,
      c.i16_at.ensures,
      c.i16_at-2.ensures,
      c.in_ok-name.ensures.ok.is,
      c.in_ok-trans.ensures.ok.is,
      c.in_ok-colrow.ensures.ok.is,
      c.in_ok-xy.ensures.ok.is,
    ) found

pub returns-clause-on : goal.returns-clause-on
returns-clause-on c = le_trans c.in_ok-name.ensures.on (le_trans c.in_ok-trans.ensures.on (le_trans c.in_ok-colrow.ensures.on c.in_ok-xy.ensures.on))

pub returns-clause-bytes : goal.returns-clause-bytes
returns-clause-bytes c = c.in_ok-xy.ensures.bytes ∙ c.in_ok-colrow.ensures.bytes ∙ c.in_ok-trans.ensures.bytes ∙ c.in_ok-name.ensures.bytes

pub i16_at-requires-2 : goal.i16_at-requires-2
i16_at-requires-2 c = colrow_size _ c.in_ok-colrow.ensures.sized

pub i16_at-requires : goal.i16_at-requires
i16_at-requires c = colrow_first _ c.in_ok-colrow.ensures.sized
