use Rattle.std.proofs.Common.{◌≡◌, ◌≤◌, length, Err, refl, ◌∙◌, le_trans}
use Rattle.std.proofs.lemmas.Result.{err_from_is_err_and}
use Rattle.dpl_spec_format.specs.Fields as fields
use Rattle.dpl_spec_format.specs.Kinds as kinds
use Rattle.dpl_spec_format.specs.Table.{IsSizeOf}
use Rattle.dpl_syntax.specs.Reading as reading
use Rattle.dpl_syntax.proofs.Chains.{same_bytes, none_then, item_then, item_fails, fails_behind, body_then, body_fails, must_is, must_fails, may_is, may_fails, in_slot}
use Rattle.dpl_syntax.proofs.Refusals.{refuses}
use Rattle.dpl_syntax.proofs.Sizes.{if_there, layer_size, datatype_size, pathtype_size, width_size, bgnextn_size, endextn_size, points_size}
use Rattle.dpl_syntax.proofs.reader.Reader.path.Goals as goal

pub returns-in_err-layer-clause-exact : goal.returns-in_err-layer-clause-exact
returns-in_err-layer-clause-exact c =
    let p = err_from_is_err_and c.from_residual.result c.from_residual.ensures.1 in
    let bytes = c.args.self.now.bytes.now in
    rw (p.1, p.2) (refuses (λ f. reading.take bytes kinds.layer c.args.self.now.at ≡ Err f) (λ f. reading.body_behind_flags bytes kinds.path c.args.self.now.at ≡ Err f) c.in_err-layer.field-0.0
    (λ f h. body_fails bytes kinds.path c.args.self.now.at f (item_fails bytes _ _ _ f _ refl (must_fails bytes kinds.layer c.args.self.now.at f h))) c.in_err-layer.ensures.err)

pub returns-in_err-layer-clause-points : goal.returns-in_err-layer-clause-points
returns-in_err-layer-clause-points c = rw (err_from_is_err_and c.from_residual.result c.from_residual.ensures.1).1 tt

pub returns-in_err-layer-clause-on : goal.returns-in_err-layer-clause-on
returns-in_err-layer-clause-on c = c.in_err-layer.ensures.on

pub returns-in_err-layer-clause-bytes : goal.returns-in_err-layer-clause-bytes
returns-in_err-layer-clause-bytes c = c.in_err-layer.ensures.bytes

pub returns-in_err-datatype-clause-exact : goal.returns-in_err-datatype-clause-exact
returns-in_err-datatype-clause-exact c =
    let p = err_from_is_err_and c.from_residual-in_err-datatype.result c.from_residual-in_err-datatype.ensures.1 in
    let bytes = c.args.self.now.bytes.now in
    let same_layer = same_bytes c.take_data.new.self c.args.self.now c.in_ok-layer.ensures.bytes in
    rw (p.1, p.2) (refuses (λ f. reading.take c.take_data.new.self.bytes.now kinds.datatype c.take_data.new.self.at ≡ Err f) (λ f. reading.body_behind_flags bytes kinds.path
    c.args.self.now.at ≡ Err f) c.in_err-datatype.field-0.0
    (λ f h. body_fails bytes kinds.path c.args.self.now.at f (fails_behind bytes _ _ _ _ _ f _ refl (must_is bytes kinds.layer c.args.self.now.at c.take_data.new.self.at
    c.in_ok-layer.ensures.ok.from c.in_ok-layer.ensures.ok.found)
    (item_fails bytes _ _ _ f _ same_layer (must_fails c.take_data.new.self.bytes.now kinds.datatype c.take_data.new.self.at f h)))) c.in_err-datatype.ensures.err)

pub returns-in_err-datatype-clause-points : goal.returns-in_err-datatype-clause-points
returns-in_err-datatype-clause-points c = rw (err_from_is_err_and c.from_residual-in_err-datatype.result c.from_residual-in_err-datatype.ensures.1).1 tt

pub returns-in_err-datatype-clause-on : goal.returns-in_err-datatype-clause-on
returns-in_err-datatype-clause-on c = le_trans c.in_ok-layer.ensures.on c.in_err-datatype.ensures.on

pub returns-in_err-datatype-clause-bytes : goal.returns-in_err-datatype-clause-bytes
returns-in_err-datatype-clause-bytes c = c.in_err-datatype.ensures.bytes ∙ c.in_ok-layer.ensures.bytes

pub returns-in_err-kind-clause-exact : goal.returns-in_err-kind-clause-exact
returns-in_err-kind-clause-exact c =
    let p = err_from_is_err_and c.from_residual-in_err-kind.result c.from_residual-in_err-kind.ensures.1 in
    let bytes = c.args.self.now.bytes.now in
    let same_layer = same_bytes c.take_data.new.self c.args.self.now c.in_ok-layer.ensures.bytes in
    let same_datatype = same_bytes c.take_data-2.new.self c.take_data.new.self c.in_ok-datatype.ensures.bytes ∙ same_layer in
    rw (p.1, p.2) (refuses (λ f. reading.take_if c.take_data-2.new.self.bytes.now kinds.pathtype c.take_data-2.new.self.at ≡ Err f) (λ f. reading.body_behind_flags bytes kinds.path
    c.args.self.now.at ≡ Err f) c.in_err-kind.field-0.0
    (λ f h. body_fails bytes kinds.path c.args.self.now.at f (fails_behind bytes _ _ _ _ _ f _ refl (must_is bytes kinds.layer c.args.self.now.at c.take_data.new.self.at
    c.in_ok-layer.ensures.ok.from c.in_ok-layer.ensures.ok.found)
    (fails_behind bytes _ _ _ _ _ f _ same_layer (must_is c.take_data.new.self.bytes.now kinds.datatype c.take_data.new.self.at c.take_data-2.new.self.at c.in_ok-datatype.ensures.ok.from
    c.in_ok-datatype.ensures.ok.found)
    (item_fails bytes _ _ _ f _ same_datatype (may_fails c.take_data-2.new.self.bytes.now kinds.pathtype c.take_data-2.new.self.at f h))))) c.in_err-kind.ensures.err)

pub returns-in_err-kind-clause-points : goal.returns-in_err-kind-clause-points
returns-in_err-kind-clause-points c = rw (err_from_is_err_and c.from_residual-in_err-kind.result c.from_residual-in_err-kind.ensures.1).1 tt

pub returns-in_err-kind-clause-on : goal.returns-in_err-kind-clause-on
returns-in_err-kind-clause-on c = le_trans c.in_ok-layer.ensures.on (le_trans c.in_ok-datatype.ensures.on c.in_err-kind.ensures.on)

pub returns-in_err-kind-clause-bytes : goal.returns-in_err-kind-clause-bytes
returns-in_err-kind-clause-bytes c = c.in_err-kind.ensures.bytes ∙ c.in_ok-datatype.ensures.bytes ∙ c.in_ok-layer.ensures.bytes

pub returns-in_err-width-clause-exact : goal.returns-in_err-width-clause-exact
returns-in_err-width-clause-exact c =
    let p = err_from_is_err_and c.from_residual-in_err-width.result c.from_residual-in_err-width.ensures.1 in
    let bytes = c.args.self.now.bytes.now in
    let same_layer = same_bytes c.take_data.new.self c.args.self.now c.in_ok-layer.ensures.bytes in
    let same_datatype = same_bytes c.take_data-2.new.self c.take_data.new.self c.in_ok-datatype.ensures.bytes ∙ same_layer in
    let same_kind = same_bytes c.take_data_if.new.self c.take_data-2.new.self c.in_ok-kind.ensures.bytes ∙ same_datatype in
    rw (p.1, p.2) (refuses (λ f. reading.take_if c.take_data_if.new.self.bytes.now kinds.width c.take_data_if.new.self.at ≡ Err f) (λ f. reading.body_behind_flags bytes kinds.path
    c.args.self.now.at ≡ Err f) c.in_err-width.field-0.0
    (λ f h. body_fails bytes kinds.path c.args.self.now.at f (fails_behind bytes _ _ _ _ _ f _ refl (must_is bytes kinds.layer c.args.self.now.at c.take_data.new.self.at
    c.in_ok-layer.ensures.ok.from c.in_ok-layer.ensures.ok.found)
    (fails_behind bytes _ _ _ _ _ f _ same_layer (must_is c.take_data.new.self.bytes.now kinds.datatype c.take_data.new.self.at c.take_data-2.new.self.at c.in_ok-datatype.ensures.ok.from
    c.in_ok-datatype.ensures.ok.found)
    (fails_behind bytes _ _ _ _ _ f _ same_datatype (may_is c.take_data-2.new.self.bytes.now kinds.pathtype c.take_data-2.new.self.at c.take_data_if.new.self.at c.in_ok-kind.ensures.ok.from
    c.in_ok-kind.ensures.ok.found)
    (item_fails bytes _ _ _ f _ same_kind (may_fails c.take_data_if.new.self.bytes.now kinds.width c.take_data_if.new.self.at f h)))))) c.in_err-width.ensures.err)

pub returns-in_err-width-clause-points : goal.returns-in_err-width-clause-points
returns-in_err-width-clause-points c = rw (err_from_is_err_and c.from_residual-in_err-width.result c.from_residual-in_err-width.ensures.1).1 tt

pub returns-in_err-width-clause-on : goal.returns-in_err-width-clause-on
returns-in_err-width-clause-on c = le_trans c.in_ok-layer.ensures.on (le_trans c.in_ok-datatype.ensures.on (le_trans c.in_ok-kind.ensures.on c.in_err-width.ensures.on))

pub returns-in_err-width-clause-bytes : goal.returns-in_err-width-clause-bytes
returns-in_err-width-clause-bytes c = c.in_err-width.ensures.bytes ∙ c.in_ok-kind.ensures.bytes ∙ c.in_ok-datatype.ensures.bytes ∙ c.in_ok-layer.ensures.bytes

pub returns-in_err-begin_ext-clause-exact : goal.returns-in_err-begin_ext-clause-exact
returns-in_err-begin_ext-clause-exact c =
    let p = err_from_is_err_and c.from_residual-in_err-begin_ext.result c.from_residual-in_err-begin_ext.ensures.1 in
    let bytes = c.args.self.now.bytes.now in
    let same_layer = same_bytes c.take_data.new.self c.args.self.now c.in_ok-layer.ensures.bytes in
    let same_datatype = same_bytes c.take_data-2.new.self c.take_data.new.self c.in_ok-datatype.ensures.bytes ∙ same_layer in
    let same_kind = same_bytes c.take_data_if.new.self c.take_data-2.new.self c.in_ok-kind.ensures.bytes ∙ same_datatype in
    let same_width = same_bytes c.take_data_if-2.new.self c.take_data_if.new.self c.in_ok-width.ensures.bytes ∙ same_kind in
    rw (p.1, p.2) (refuses (λ f. reading.take_if c.take_data_if-2.new.self.bytes.now kinds.bgnextn c.take_data_if-2.new.self.at ≡ Err f) (λ f. reading.body_behind_flags bytes kinds.path
    c.args.self.now.at ≡ Err f) c.in_err-begin_ext.field-0.0
    (λ f h. body_fails bytes kinds.path c.args.self.now.at f (fails_behind bytes _ _ _ _ _ f _ refl (must_is bytes kinds.layer c.args.self.now.at c.take_data.new.self.at
    c.in_ok-layer.ensures.ok.from c.in_ok-layer.ensures.ok.found)
    (fails_behind bytes _ _ _ _ _ f _ same_layer (must_is c.take_data.new.self.bytes.now kinds.datatype c.take_data.new.self.at c.take_data-2.new.self.at c.in_ok-datatype.ensures.ok.from
    c.in_ok-datatype.ensures.ok.found)
    (fails_behind bytes _ _ _ _ _ f _ same_datatype (may_is c.take_data-2.new.self.bytes.now kinds.pathtype c.take_data-2.new.self.at c.take_data_if.new.self.at c.in_ok-kind.ensures.ok.from
    c.in_ok-kind.ensures.ok.found)
    (fails_behind bytes _ _ _ _ _ f _ same_kind (may_is c.take_data_if.new.self.bytes.now kinds.width c.take_data_if.new.self.at c.take_data_if-2.new.self.at c.in_ok-width.ensures.ok.from
    c.in_ok-width.ensures.ok.found)
    (item_fails bytes _ _ _ f _ same_width (may_fails c.take_data_if-2.new.self.bytes.now kinds.bgnextn c.take_data_if-2.new.self.at f h))))))) c.in_err-begin_ext.ensures.err)

pub returns-in_err-begin_ext-clause-points : goal.returns-in_err-begin_ext-clause-points
returns-in_err-begin_ext-clause-points c = rw (err_from_is_err_and c.from_residual-in_err-begin_ext.result c.from_residual-in_err-begin_ext.ensures.1).1 tt

pub returns-in_err-begin_ext-clause-on : goal.returns-in_err-begin_ext-clause-on
returns-in_err-begin_ext-clause-on c =
    le_trans c.in_ok-layer.ensures.on (le_trans c.in_ok-datatype.ensures.on (le_trans c.in_ok-kind.ensures.on (le_trans c.in_ok-width.ensures.on
    c.in_err-begin_ext.ensures.on)))

pub returns-in_err-begin_ext-clause-bytes : goal.returns-in_err-begin_ext-clause-bytes
returns-in_err-begin_ext-clause-bytes c = c.in_err-begin_ext.ensures.bytes ∙ c.in_ok-width.ensures.bytes ∙ c.in_ok-kind.ensures.bytes ∙ c.in_ok-datatype.ensures.bytes ∙ c.in_ok-layer.ensures.bytes

pub returns-in_err-end_ext-clause-exact : goal.returns-in_err-end_ext-clause-exact
returns-in_err-end_ext-clause-exact c =
    let p = err_from_is_err_and c.from_residual-in_err-end_ext.result c.from_residual-in_err-end_ext.ensures.1 in
    let bytes = c.args.self.now.bytes.now in
    let same_layer = same_bytes c.take_data.new.self c.args.self.now c.in_ok-layer.ensures.bytes in
    let same_datatype = same_bytes c.take_data-2.new.self c.take_data.new.self c.in_ok-datatype.ensures.bytes ∙ same_layer in
    let same_kind = same_bytes c.take_data_if.new.self c.take_data-2.new.self c.in_ok-kind.ensures.bytes ∙ same_datatype in
    let same_width = same_bytes c.take_data_if-2.new.self c.take_data_if.new.self c.in_ok-width.ensures.bytes ∙ same_kind in
    let same_begin_ext = same_bytes c.take_data_if-3.new.self c.take_data_if-2.new.self c.in_ok-begin_ext.ensures.bytes ∙ same_width in
    rw (p.1, p.2) (refuses (λ f. reading.take_if c.take_data_if-3.new.self.bytes.now kinds.endextn c.take_data_if-3.new.self.at ≡ Err f) (λ f. reading.body_behind_flags bytes kinds.path
    c.args.self.now.at ≡ Err f) c.in_err-end_ext.field-0.0
    (λ f h. body_fails bytes kinds.path c.args.self.now.at f (fails_behind bytes _ _ _ _ _ f _ refl (must_is bytes kinds.layer c.args.self.now.at c.take_data.new.self.at
    c.in_ok-layer.ensures.ok.from c.in_ok-layer.ensures.ok.found)
    (fails_behind bytes _ _ _ _ _ f _ same_layer (must_is c.take_data.new.self.bytes.now kinds.datatype c.take_data.new.self.at c.take_data-2.new.self.at c.in_ok-datatype.ensures.ok.from
    c.in_ok-datatype.ensures.ok.found)
    (fails_behind bytes _ _ _ _ _ f _ same_datatype (may_is c.take_data-2.new.self.bytes.now kinds.pathtype c.take_data-2.new.self.at c.take_data_if.new.self.at c.in_ok-kind.ensures.ok.from
    c.in_ok-kind.ensures.ok.found)
    (fails_behind bytes _ _ _ _ _ f _ same_kind (may_is c.take_data_if.new.self.bytes.now kinds.width c.take_data_if.new.self.at c.take_data_if-2.new.self.at c.in_ok-width.ensures.ok.from
    c.in_ok-width.ensures.ok.found)
    (fails_behind bytes _ _ _ _ _ f _ same_width (may_is c.take_data_if-2.new.self.bytes.now kinds.bgnextn c.take_data_if-2.new.self.at c.take_data_if-3.new.self.at
    c.in_ok-begin_ext.ensures.ok.from c.in_ok-begin_ext.ensures.ok.found)
    (item_fails bytes _ _ _ f _ same_begin_ext (may_fails c.take_data_if-3.new.self.bytes.now kinds.endextn c.take_data_if-3.new.self.at f h)))))))) c.in_err-end_ext.ensures.err)

pub returns-in_err-end_ext-clause-points : goal.returns-in_err-end_ext-clause-points
returns-in_err-end_ext-clause-points c = rw (err_from_is_err_and c.from_residual-in_err-end_ext.result c.from_residual-in_err-end_ext.ensures.1).1 tt

pub returns-in_err-end_ext-clause-on : goal.returns-in_err-end_ext-clause-on
returns-in_err-end_ext-clause-on c =
    le_trans c.in_ok-layer.ensures.on (le_trans c.in_ok-datatype.ensures.on (le_trans c.in_ok-kind.ensures.on (le_trans c.in_ok-width.ensures.on (le_trans
    c.in_ok-begin_ext.ensures.on c.in_err-end_ext.ensures.on))))

pub returns-in_err-end_ext-clause-bytes : goal.returns-in_err-end_ext-clause-bytes
returns-in_err-end_ext-clause-bytes c =
    c.in_err-end_ext.ensures.bytes ∙ c.in_ok-begin_ext.ensures.bytes ∙ c.in_ok-width.ensures.bytes ∙ c.in_ok-kind.ensures.bytes ∙
    c.in_ok-datatype.ensures.bytes ∙ c.in_ok-layer.ensures.bytes

pub returns-in_err-xy-clause-exact : goal.returns-in_err-xy-clause-exact
returns-in_err-xy-clause-exact c =
    let p = err_from_is_err_and c.from_residual-in_err-xy.result c.from_residual-in_err-xy.ensures.1 in
    let bytes = c.args.self.now.bytes.now in
    let same_layer = same_bytes c.take_data.new.self c.args.self.now c.in_ok-layer.ensures.bytes in
    let same_datatype = same_bytes c.take_data-2.new.self c.take_data.new.self c.in_ok-datatype.ensures.bytes ∙ same_layer in
    let same_kind = same_bytes c.take_data_if.new.self c.take_data-2.new.self c.in_ok-kind.ensures.bytes ∙ same_datatype in
    let same_width = same_bytes c.take_data_if-2.new.self c.take_data_if.new.self c.in_ok-width.ensures.bytes ∙ same_kind in
    let same_begin_ext = same_bytes c.take_data_if-3.new.self c.take_data_if-2.new.self c.in_ok-begin_ext.ensures.bytes ∙ same_width in
    let same_end_ext = same_bytes c.take_data_if-4.new.self c.take_data_if-3.new.self c.in_ok-end_ext.ensures.bytes ∙ same_begin_ext in
    rw (p.1, p.2) (refuses (λ f. reading.take c.take_data_if-4.new.self.bytes.now kinds.xy c.take_data_if-4.new.self.at ≡ Err f) (λ f. reading.body_behind_flags bytes kinds.path
    c.args.self.now.at ≡ Err f) c.in_err-xy.field-0.0
    (λ f h. body_fails bytes kinds.path c.args.self.now.at f (fails_behind bytes _ _ _ _ _ f _ refl (must_is bytes kinds.layer c.args.self.now.at c.take_data.new.self.at
    c.in_ok-layer.ensures.ok.from c.in_ok-layer.ensures.ok.found)
    (fails_behind bytes _ _ _ _ _ f _ same_layer (must_is c.take_data.new.self.bytes.now kinds.datatype c.take_data.new.self.at c.take_data-2.new.self.at c.in_ok-datatype.ensures.ok.from
    c.in_ok-datatype.ensures.ok.found)
    (fails_behind bytes _ _ _ _ _ f _ same_datatype (may_is c.take_data-2.new.self.bytes.now kinds.pathtype c.take_data-2.new.self.at c.take_data_if.new.self.at c.in_ok-kind.ensures.ok.from
    c.in_ok-kind.ensures.ok.found)
    (fails_behind bytes _ _ _ _ _ f _ same_kind (may_is c.take_data_if.new.self.bytes.now kinds.width c.take_data_if.new.self.at c.take_data_if-2.new.self.at c.in_ok-width.ensures.ok.from
    c.in_ok-width.ensures.ok.found)
    (fails_behind bytes _ _ _ _ _ f _ same_width (may_is c.take_data_if-2.new.self.bytes.now kinds.bgnextn c.take_data_if-2.new.self.at c.take_data_if-3.new.self.at
    c.in_ok-begin_ext.ensures.ok.from c.in_ok-begin_ext.ensures.ok.found)
    (fails_behind bytes _ _ _ _ _ f _ same_begin_ext (may_is c.take_data_if-3.new.self.bytes.now kinds.endextn c.take_data_if-3.new.self.at c.take_data_if-4.new.self.at
    c.in_ok-end_ext.ensures.ok.from c.in_ok-end_ext.ensures.ok.found)
    (item_fails bytes _ _ _ f _ same_end_ext (must_fails c.take_data_if-4.new.self.bytes.now kinds.xy c.take_data_if-4.new.self.at f h))))))))) c.in_err-xy.ensures.err)

pub returns-in_err-xy-clause-points : goal.returns-in_err-xy-clause-points
returns-in_err-xy-clause-points c = rw (err_from_is_err_and c.from_residual-in_err-xy.result c.from_residual-in_err-xy.ensures.1).1 tt

pub returns-in_err-xy-clause-on : goal.returns-in_err-xy-clause-on
returns-in_err-xy-clause-on c =
    le_trans c.in_ok-layer.ensures.on (le_trans c.in_ok-datatype.ensures.on (le_trans c.in_ok-kind.ensures.on (le_trans c.in_ok-width.ensures.on (le_trans
    c.in_ok-begin_ext.ensures.on (le_trans c.in_ok-end_ext.ensures.on c.in_err-xy.ensures.on)))))

pub returns-in_err-xy-clause-bytes : goal.returns-in_err-xy-clause-bytes
returns-in_err-xy-clause-bytes c =
    c.in_err-xy.ensures.bytes ∙ c.in_ok-end_ext.ensures.bytes ∙ c.in_ok-begin_ext.ensures.bytes ∙ c.in_ok-width.ensures.bytes ∙ c.in_ok-kind.ensures.bytes ∙
    c.in_ok-datatype.ensures.bytes ∙ c.in_ok-layer.ensures.bytes

pub returns-clause-exact : goal.returns-clause-exact
returns-clause-exact c =
    let bytes = c.args.self.now.bytes.now in
    let same_layer = same_bytes c.take_data.new.self c.args.self.now c.in_ok-layer.ensures.bytes in
    let same_datatype = same_bytes c.take_data-2.new.self c.take_data.new.self c.in_ok-datatype.ensures.bytes ∙ same_layer in
    let same_kind = same_bytes c.take_data_if.new.self c.take_data-2.new.self c.in_ok-kind.ensures.bytes ∙ same_datatype in
    let same_width = same_bytes c.take_data_if-2.new.self c.take_data_if.new.self c.in_ok-width.ensures.bytes ∙ same_kind in
    let same_begin_ext = same_bytes c.take_data_if-3.new.self c.take_data_if-2.new.self c.in_ok-begin_ext.ensures.bytes ∙ same_width in
    let same_end_ext = same_bytes c.take_data_if-4.new.self c.take_data_if-3.new.self c.in_ok-end_ext.ensures.bytes ∙ same_begin_ext in
    let found = body_then bytes kinds.path c.args.self.now.at c.take_data-3.new.self.at _
    (item_then bytes _ _ _ _ _ _ _ _ refl (must_is bytes kinds.layer c.args.self.now.at c.take_data.new.self.at c.in_ok-layer.ensures.ok.from c.in_ok-layer.ensures.ok.found)
    (item_then bytes _ _ _ _ _ _ _ _ same_layer (must_is c.take_data.new.self.bytes.now kinds.datatype c.take_data.new.self.at c.take_data-2.new.self.at c.in_ok-datatype.ensures.ok.from
    c.in_ok-datatype.ensures.ok.found)
    (item_then bytes _ _ _ _ _ _ _ _ same_datatype (may_is c.take_data-2.new.self.bytes.now kinds.pathtype c.take_data-2.new.self.at c.take_data_if.new.self.at c.in_ok-kind.ensures.ok.from
    c.in_ok-kind.ensures.ok.found)
    (item_then bytes _ _ _ _ _ _ _ _ same_kind (may_is c.take_data_if.new.self.bytes.now kinds.width c.take_data_if.new.self.at c.take_data_if-2.new.self.at c.in_ok-width.ensures.ok.from
    c.in_ok-width.ensures.ok.found)
    (item_then bytes _ _ _ _ _ _ _ _ same_width (may_is c.take_data_if-2.new.self.bytes.now kinds.bgnextn c.take_data_if-2.new.self.at c.take_data_if-3.new.self.at
    c.in_ok-begin_ext.ensures.ok.from c.in_ok-begin_ext.ensures.ok.found)
    (item_then bytes _ _ _ _ _ _ _ _ same_begin_ext (may_is c.take_data_if-3.new.self.bytes.now kinds.endextn c.take_data_if-3.new.self.at c.take_data_if-4.new.self.at
    c.in_ok-end_ext.ensures.ok.from c.in_ok-end_ext.ensures.ok.found)
    (item_then bytes _ _ _ _ _ _ _ _ same_end_ext (must_is c.take_data_if-4.new.self.bytes.now kinds.xy c.take_data_if-4.new.self.at c.take_data-3.new.self.at c.in_ok-xy.ensures.ok.from
    c.in_ok-xy.ensures.ok.found)
    (none_then bytes c.take_data-3.new.self.at)))))))) in
    let kind = c.short.ensures ∙ in_slot (λ x. fields.i16_at x 0) c.in_ok-kind.kind c.in_ok-kind.ensures.ok.from c.in_ok-kind.ensures.ok.is in
    let width = c.long.ensures ∙ in_slot (λ x. fields.i32_at x 0) c.in_ok-width.width c.in_ok-width.ensures.ok.from c.in_ok-width.ensures.ok.is in
    let begin_ext = c.long-2.ensures ∙ in_slot (λ x. fields.i32_at x 0) c.in_ok-begin_ext.begin_ext c.in_ok-begin_ext.ensures.ok.from c.in_ok-begin_ext.ensures.ok.is in
    let end_ext = c.long-3.ensures ∙ in_slot (λ x. fields.i32_at x 0) c.in_ok-end_ext.end_ext c.in_ok-end_ext.ensures.ok.from c.in_ok-end_ext.ensures.ok.is in
    rw (c.u16_at.ensures, c.u16_at-2.ensures, kind, width, begin_ext, end_ext, c.in_ok-layer.ensures.ok.is, c.in_ok-datatype.ensures.ok.is, c.in_ok-xy.ensures.ok.is) found

pub returns-clause-on : goal.returns-clause-on
returns-clause-on c =
    le_trans c.in_ok-layer.ensures.on (le_trans c.in_ok-datatype.ensures.on (le_trans c.in_ok-kind.ensures.on (le_trans c.in_ok-width.ensures.on (le_trans
    c.in_ok-begin_ext.ensures.on (le_trans c.in_ok-end_ext.ensures.on c.in_ok-xy.ensures.on)))))

pub returns-clause-bytes : goal.returns-clause-bytes
returns-clause-bytes c =
    c.in_ok-xy.ensures.bytes ∙ c.in_ok-end_ext.ensures.bytes ∙ c.in_ok-begin_ext.ensures.bytes ∙ c.in_ok-width.ensures.bytes ∙ c.in_ok-kind.ensures.bytes ∙
    c.in_ok-datatype.ensures.bytes ∙ c.in_ok-layer.ensures.bytes

pub u16_at-requires : goal.u16_at-requires
u16_at-requires c = layer_size _ c.in_ok-layer.ensures.sized

pub u16_at-requires-2 : goal.u16_at-requires-2
u16_at-requires-2 c = datatype_size _ c.in_ok-datatype.ensures.sized

pub short-requires : goal.short-requires
short-requires c = if_there c.in_ok-kind.kind (λ d. IsSizeOf kinds.pathtype (length d.now)) (λ d. 2 ≤ length d.now) (λ d s. pathtype_size (length d.now) s) c.in_ok-kind.ensures.sized

pub long-requires : goal.long-requires
long-requires c = if_there c.in_ok-width.width (λ d. IsSizeOf kinds.width (length d.now)) (λ d. 4 ≤ length d.now) (λ d s. width_size (length d.now) s) c.in_ok-width.ensures.sized

pub long-requires-2 : goal.long-requires-2
long-requires-2 c = if_there c.in_ok-begin_ext.begin_ext (λ d. IsSizeOf kinds.bgnextn (length d.now)) (λ d. 4 ≤ length d.now) (λ d s. bgnextn_size (length d.now) s) c.in_ok-begin_ext.ensures.sized

pub long-requires-3 : goal.long-requires-3
long-requires-3 c = if_there c.in_ok-end_ext.end_ext (λ d. IsSizeOf kinds.endextn (length d.now)) (λ d. 4 ≤ length d.now) (λ d s. endextn_size (length d.now) s) c.in_ok-end_ext.ensures.sized

pub returns-clause-points : goal.returns-clause-points
returns-clause-points c = points_size _ c.in_ok-xy.ensures.sized
