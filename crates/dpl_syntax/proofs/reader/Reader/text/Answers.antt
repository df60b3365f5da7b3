use Rattle.std.proofs.Common.{◌≡◌, Err, refl, ◌∙◌, le_trans, rules, w16, FitsSigned}
use Rattle.std.proofs.lemmas.Result.{err_from_is_err_and}
use Rattle.std.proofs.lemmas.Int.{to_z-of_z}
use Rattle.dpl_spec_format.specs.Kinds as kinds
use Rattle.dpl_syntax.specs.Reading as reading
use Rattle.dpl_syntax.proofs.Chains.{same_bytes, none_then, item_then, item_fails, fails_behind, body_then, body_fails}
use Rattle.dpl_syntax.proofs.Chains.{must_is, must_fails, points_are, points_fail, items_then, items_fail, fails_after}
use Rattle.dpl_syntax.proofs.Refusals.{refuses}
use Rattle.dpl_syntax.proofs.Sizes.{layer_size, texttype_size}
use Rattle.dpl_syntax.proofs.reader.Reader.text.Goals as goal

pub returns-in_err-layer-clause-exact : goal.returns-in_err-layer-clause-exact
returns-in_err-layer-clause-exact c =
    let p = err_from_is_err_and c.from_residual.result c.from_residual.ensures.1 in
    let bytes = c.args.self.now.bytes.now in
    rw (p.1, p.2) (refuses (λ f. reading.take bytes kinds.layer c.args.self.now.at ≡ Err f) (λ f. reading.body_behind_flags bytes kinds.text c.args.self.now.at ≡ Err f) c.in_err-layer.field-0.0
    (λ f h. body_fails bytes kinds.text c.args.self.now.at f (item_fails bytes _ _ _ f _ refl (must_fails bytes kinds.layer c.args.self.now.at f h))) c.in_err-layer.ensures.err)

pub returns-in_err-layer-clause-points : goal.returns-in_err-layer-clause-points
returns-in_err-layer-clause-points c = rw (err_from_is_err_and c.from_residual.result c.from_residual.ensures.1).1 tt

pub returns-in_err-layer-clause-on : goal.returns-in_err-layer-clause-on
returns-in_err-layer-clause-on c = c.in_err-layer.ensures.on

pub returns-in_err-layer-clause-bytes : goal.returns-in_err-layer-clause-bytes
returns-in_err-layer-clause-bytes c = c.in_err-layer.ensures.bytes

pub returns-in_err-texttype-clause-exact : goal.returns-in_err-texttype-clause-exact
returns-in_err-texttype-clause-exact c =
    let p = err_from_is_err_and c.from_residual-in_err-texttype.result c.from_residual-in_err-texttype.ensures.1 in
    let bytes = c.args.self.now.bytes.now in
    let same_layer = same_bytes c.take_data.new.self c.args.self.now c.in_ok-layer.ensures.bytes in
    rw (p.1, p.2) (refuses (λ f. reading.take c.take_data.new.self.bytes.now kinds.texttype c.take_data.new.self.at ≡ Err f) (λ f. reading.body_behind_flags bytes kinds.text
    c.args.self.now.at ≡ Err f) c.in_err-texttype.field-0.0
    (λ f h. body_fails bytes kinds.text c.args.self.now.at f (fails_behind bytes _ _ _ _ _ f _ refl (must_is bytes kinds.layer c.args.self.now.at c.take_data.new.self.at
    c.in_ok-layer.ensures.ok.from c.in_ok-layer.ensures.ok.found)
    (item_fails bytes _ _ _ f _ same_layer (must_fails c.take_data.new.self.bytes.now kinds.texttype c.take_data.new.self.at f h)))) c.in_err-texttype.ensures.err)

pub returns-in_err-texttype-clause-points : goal.returns-in_err-texttype-clause-points
returns-in_err-texttype-clause-points c = rw (err_from_is_err_and c.from_residual-in_err-texttype.result c.from_residual-in_err-texttype.ensures.1).1 tt

pub returns-in_err-texttype-clause-on : goal.returns-in_err-texttype-clause-on
returns-in_err-texttype-clause-on c = le_trans c.in_ok-layer.ensures.on c.in_err-texttype.ensures.on

pub returns-in_err-texttype-clause-bytes : goal.returns-in_err-texttype-clause-bytes
returns-in_err-texttype-clause-bytes c = c.in_err-texttype.ensures.bytes ∙ c.in_ok-layer.ensures.bytes

pub returns-in_err-take_style-clause-exact : goal.returns-in_err-take_style-clause-exact
returns-in_err-take_style-clause-exact c =
    let p = err_from_is_err_and c.from_residual-in_err-take_style.result c.from_residual-in_err-take_style.ensures.1 in
    let bytes = c.args.self.now.bytes.now in
    let same_layer = same_bytes c.take_data.new.self c.args.self.now c.in_ok-layer.ensures.bytes in
    let same_texttype = same_bytes c.take_data-2.new.self c.take_data.new.self c.in_ok-texttype.ensures.bytes ∙ same_layer in
    rw (p.1, p.2) (refuses (λ f. reading.items_at c.take_data-2.new.self.bytes.now reading.style c.take_data-2.new.self.at ≡ Err f) (λ f. reading.body_behind_flags bytes kinds.text
    c.args.self.now.at ≡ Err f) c.in_err-take_style.field-0.0
    (λ f h. body_fails bytes kinds.text c.args.self.now.at f (fails_behind bytes _ _ _ _ _ f _ refl (must_is bytes kinds.layer c.args.self.now.at c.take_data.new.self.at
    c.in_ok-layer.ensures.ok.from c.in_ok-layer.ensures.ok.found)
    (fails_behind bytes _ _ _ _ _ f _ same_layer (must_is c.take_data.new.self.bytes.now kinds.texttype c.take_data.new.self.at c.take_data-2.new.self.at c.in_ok-texttype.ensures.ok.from
    c.in_ok-texttype.ensures.ok.found)
    (items_fail bytes _ reading.style _ f _ same_texttype h)))) c.in_err-take_style.ensures.err)

pub returns-in_err-take_style-clause-points : goal.returns-in_err-take_style-clause-points
returns-in_err-take_style-clause-points c = rw (err_from_is_err_and c.from_residual-in_err-take_style.result c.from_residual-in_err-take_style.ensures.1).1 tt

pub returns-in_err-take_style-clause-on : goal.returns-in_err-take_style-clause-on
returns-in_err-take_style-clause-on c = le_trans c.in_ok-layer.ensures.on (le_trans c.in_ok-texttype.ensures.on c.in_err-take_style.ensures.on)

pub returns-in_err-take_style-clause-bytes : goal.returns-in_err-take_style-clause-bytes
returns-in_err-take_style-clause-bytes c = c.in_err-take_style.ensures.bytes ∙ c.in_ok-texttype.ensures.bytes ∙ c.in_ok-layer.ensures.bytes

pub returns-in_err-xy-clause-exact : goal.returns-in_err-xy-clause-exact
returns-in_err-xy-clause-exact c =
    let p = err_from_is_err_and c.from_residual-in_err-xy.result c.from_residual-in_err-xy.ensures.1 in
    let bytes = c.args.self.now.bytes.now in
    let same_layer = same_bytes c.take_data.new.self c.args.self.now c.in_ok-layer.ensures.bytes in
    let same_texttype = same_bytes c.take_data-2.new.self c.take_data.new.self c.in_ok-texttype.ensures.bytes ∙ same_layer in
    let same_take_style = same_bytes c.take_style.new.self c.take_data-2.new.self c.in_ok-take_style.ensures.bytes ∙ same_texttype in
    rw (p.1, p.2) (refuses (λ f. reading.take_points c.take_style.new.self.bytes.now 8 c.take_style.new.self.at ≡ Err f) (λ f. reading.body_behind_flags bytes kinds.text
    c.args.self.now.at ≡ Err f) c.in_err-xy.field-0.0
    (λ f h. body_fails bytes kinds.text c.args.self.now.at f (fails_behind bytes _ _ _ _ _ f _ refl (must_is bytes kinds.layer c.args.self.now.at c.take_data.new.self.at
    c.in_ok-layer.ensures.ok.from c.in_ok-layer.ensures.ok.found)
    (fails_behind bytes _ _ _ _ _ f _ same_layer (must_is c.take_data.new.self.bytes.now kinds.texttype c.take_data.new.self.at c.take_data-2.new.self.at c.in_ok-texttype.ensures.ok.from
    c.in_ok-texttype.ensures.ok.found)
    (fails_after bytes _ reading.style _ _ _ f _ same_texttype c.in_ok-take_style.ensures.ok.fills
    (item_fails bytes _ _ _ f _ same_take_style (points_fail c.take_style.new.self.bytes.now 8 c.take_style.new.self.at f h)))))) c.in_err-xy.ensures.err)

pub returns-in_err-xy-clause-points : goal.returns-in_err-xy-clause-points
returns-in_err-xy-clause-points c = rw (err_from_is_err_and c.from_residual-in_err-xy.result c.from_residual-in_err-xy.ensures.1).1 tt

pub returns-in_err-xy-clause-on : goal.returns-in_err-xy-clause-on
returns-in_err-xy-clause-on c = le_trans c.in_ok-layer.ensures.on (le_trans c.in_ok-texttype.ensures.on (le_trans c.in_ok-take_style.ensures.on c.in_err-xy.ensures.on))

pub returns-in_err-xy-clause-bytes : goal.returns-in_err-xy-clause-bytes
returns-in_err-xy-clause-bytes c = c.in_err-xy.ensures.bytes ∙ c.in_ok-take_style.ensures.bytes ∙ c.in_ok-texttype.ensures.bytes ∙ c.in_ok-layer.ensures.bytes

pub returns-in_err-string-clause-exact : goal.returns-in_err-string-clause-exact
returns-in_err-string-clause-exact c =
    let p = err_from_is_err_and c.from_residual-in_err-string.result c.from_residual-in_err-string.ensures.1 in
    let bytes = c.args.self.now.bytes.now in
    let same_layer = same_bytes c.take_data.new.self c.args.self.now c.in_ok-layer.ensures.bytes in
    let same_texttype = same_bytes c.take_data-2.new.self c.take_data.new.self c.in_ok-texttype.ensures.bytes ∙ same_layer in
    let same_take_style = same_bytes c.take_style.new.self c.take_data-2.new.self c.in_ok-take_style.ensures.bytes ∙ same_texttype in
    let same_xy = same_bytes c.take_points.new.self c.take_style.new.self c.in_ok-xy.ensures.bytes ∙ same_take_style in
    rw (p.1, p.2) (refuses (λ f. reading.take c.take_points.new.self.bytes.now kinds.text_string c.take_points.new.self.at ≡ Err f) (λ f. reading.body_behind_flags bytes kinds.text
    c.args.self.now.at ≡ Err f) c.in_err-string.field-0.0
    (λ f h. body_fails bytes kinds.text c.args.self.now.at f (fails_behind bytes _ _ _ _ _ f _ refl (must_is bytes kinds.layer c.args.self.now.at c.take_data.new.self.at
    c.in_ok-layer.ensures.ok.from c.in_ok-layer.ensures.ok.found)
    (fails_behind bytes _ _ _ _ _ f _ same_layer (must_is c.take_data.new.self.bytes.now kinds.texttype c.take_data.new.self.at c.take_data-2.new.self.at c.in_ok-texttype.ensures.ok.from
    c.in_ok-texttype.ensures.ok.found)
    (fails_after bytes _ reading.style _ _ _ f _ same_texttype c.in_ok-take_style.ensures.ok.fills
    (fails_behind bytes _ _ _ _ _ f _ same_take_style (points_are c.take_style.new.self.bytes.now 8 c.take_style.new.self.at c.take_points.new.self.at c.in_ok-xy.ensures.ok.from
    c.in_ok-xy.ensures.ok.found)
    (item_fails bytes _ _ _ f _ same_xy (must_fails c.take_points.new.self.bytes.now kinds.text_string c.take_points.new.self.at f h))))))) c.in_err-string.ensures.err)

pub returns-in_err-string-clause-points : goal.returns-in_err-string-clause-points
returns-in_err-string-clause-points c = rw (err_from_is_err_and c.from_residual-in_err-string.result c.from_residual-in_err-string.ensures.1).1 tt

pub returns-in_err-string-clause-on : goal.returns-in_err-string-clause-on
returns-in_err-string-clause-on c =
    le_trans c.in_ok-layer.ensures.on (le_trans c.in_ok-texttype.ensures.on (le_trans c.in_ok-take_style.ensures.on (le_trans c.in_ok-xy.ensures.on
    c.in_err-string.ensures.on)))

pub returns-in_err-string-clause-bytes : goal.returns-in_err-string-clause-bytes
returns-in_err-string-clause-bytes c = c.in_err-string.ensures.bytes ∙ c.in_ok-xy.ensures.bytes ∙ c.in_ok-take_style.ensures.bytes ∙ c.in_ok-texttype.ensures.bytes ∙ c.in_ok-layer.ensures.bytes

pub returns-clause-exact : goal.returns-clause-exact
returns-clause-exact c =
    let bytes = c.args.self.now.bytes.now in
    let same_layer = same_bytes c.take_data.new.self c.args.self.now c.in_ok-layer.ensures.bytes in
    let same_texttype = same_bytes c.take_data-2.new.self c.take_data.new.self c.in_ok-texttype.ensures.bytes ∙ same_layer in
    let same_take_style = same_bytes c.take_style.new.self c.take_data-2.new.self c.in_ok-take_style.ensures.bytes ∙ same_texttype in
    let same_xy = same_bytes c.take_points.new.self c.take_style.new.self c.in_ok-xy.ensures.bytes ∙ same_take_style in
    let found = body_then bytes kinds.text c.args.self.now.at c.take_data-3.new.self.at _
    (item_then bytes _ _ _ _ _ _ _ _ refl (must_is bytes kinds.layer c.args.self.now.at c.take_data.new.self.at c.in_ok-layer.ensures.ok.from c.in_ok-layer.ensures.ok.found)
    (item_then bytes _ _ _ _ _ _ _ _ same_layer (must_is c.take_data.new.self.bytes.now kinds.texttype c.take_data.new.self.at c.take_data-2.new.self.at c.in_ok-texttype.ensures.ok.from
    c.in_ok-texttype.ensures.ok.found)
    (items_then bytes _ reading.style _ _ _ _ _ _ same_texttype c.in_ok-take_style.ensures.ok.fills
    (item_then bytes _ _ _ _ _ _ _ _ same_take_style (points_are c.take_style.new.self.bytes.now 8 c.take_style.new.self.at c.take_points.new.self.at c.in_ok-xy.ensures.ok.from
    c.in_ok-xy.ensures.ok.found)
    (item_then bytes _ _ _ _ _ _ _ _ same_xy (must_is c.take_points.new.self.bytes.now kinds.text_string c.take_points.new.self.at c.take_data-3.new.self.at c.in_ok-string.ensures.ok.from
    c.in_ok-string.ensures.ok.found)
    (none_then bytes c.take_data-3.new.self.at)))))) in
    let fits : FitsSigned w16 c.i16_at.result = search rules in
    rw (
      to_z-of_z w16 c.i16_at.result fits,
      c.u16_at.ensures,
      c.i16_at.ensures,
      c.in_ok-layer.ensures.ok.is,
      c.in_ok-texttype.ensures.ok.is,
      c.in_ok-xy.ensures.ok.is,
      c.in_ok-string.ensures.ok.is,
    ) found

pub returns-clause-on : goal.returns-clause-on
returns-clause-on c = le_trans c.in_ok-layer.ensures.on (le_trans c.in_ok-texttype.ensures.on (le_trans c.in_ok-take_style.ensures.on (le_trans c.in_ok-xy.ensures.on c.in_ok-string.ensures.on)))

pub returns-clause-bytes : goal.returns-clause-bytes
returns-clause-bytes c = c.in_ok-string.ensures.bytes ∙ c.in_ok-xy.ensures.bytes ∙ c.in_ok-take_style.ensures.bytes ∙ c.in_ok-texttype.ensures.bytes ∙ c.in_ok-layer.ensures.bytes

pub u16_at-requires : goal.u16_at-requires
u16_at-requires c = layer_size _ c.in_ok-layer.ensures.sized

pub i16_at-requires : goal.i16_at-requires
i16_at-requires c = texttype_size _ c.in_ok-texttype.ensures.sized
