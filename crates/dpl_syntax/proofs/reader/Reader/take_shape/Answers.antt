use Rattle.std.proofs.Common.{◌≡◌, Err, refl, ◌∙◌, le_trans}
use Rattle.std.proofs.lemmas.Result.{err_from_is_err_and}
use Rattle.dpl_spec_format.specs.Fields.{u16_at}
use Rattle.dpl_spec_format.specs.Kinds as kinds
use Rattle.dpl_syntax.specs.Reading as reading
use Rattle.dpl_syntax.specs.Shapes.{shape}
use Rattle.dpl_syntax.proofs.Chains.{same_bytes, none_then, item_then, item_fails, fails_behind, must_is, must_fails}
use Rattle.dpl_syntax.proofs.Refusals.{refuses}
use Rattle.dpl_syntax.proofs.Sizes.{layer_size}
use Rattle.dpl_syntax.proofs.reader.Reader.take_shape.Goals as goal

pub returns-in_err-layer-clause-err : goal.returns-in_err-layer-clause-err
returns-in_err-layer-clause-err c =
    let p = err_from_is_err_and c.from_residual.result c.from_residual.ensures.1 in
    let bytes = c.args.self.now.bytes.now in
    rw (p.1, p.2) (refuses (λ f. reading.take bytes kinds.layer c.args.self.now.at ≡ Err f) (λ f. reading.items_at bytes (shape c.args.kind) c.args.self.now.at ≡ Err f)
    c.in_err-layer.field-0.0 (λ f h. (item_fails bytes _ _ _ f _ refl (must_fails bytes kinds.layer c.args.self.now.at f h))) c.in_err-layer.ensures.err)

pub returns-in_err-layer-clause-ok : goal.returns-in_err-layer-clause-ok
returns-in_err-layer-clause-ok c = rw (err_from_is_err_and c.from_residual.result c.from_residual.ensures.1).1 tt

pub returns-in_err-layer-clause-sized : goal.returns-in_err-layer-clause-sized
returns-in_err-layer-clause-sized c = rw (err_from_is_err_and c.from_residual.result c.from_residual.ensures.1).1 tt

pub returns-in_err-layer-clause-points : goal.returns-in_err-layer-clause-points
returns-in_err-layer-clause-points c = rw (err_from_is_err_and c.from_residual.result c.from_residual.ensures.1).1 tt

pub returns-in_err-layer-clause-on : goal.returns-in_err-layer-clause-on
returns-in_err-layer-clause-on c = c.in_err-layer.ensures.on

pub returns-in_err-layer-clause-bytes : goal.returns-in_err-layer-clause-bytes
returns-in_err-layer-clause-bytes c = c.in_err-layer.ensures.bytes

pub returns-in_err-number-clause-err : goal.returns-in_err-number-clause-err
returns-in_err-number-clause-err c =
    let p = err_from_is_err_and c.from_residual-in_err-number.result c.from_residual-in_err-number.ensures.1 in
    let bytes = c.args.self.now.bytes.now in
    let same_layer = same_bytes c.take_data.new.self c.args.self.now c.in_ok-layer.ensures.bytes in
    rw (p.1, p.2) (refuses (λ f. reading.take c.take_data.new.self.bytes.now c.args.kind c.take_data.new.self.at ≡ Err f) (λ f. reading.items_at bytes (shape c.args.kind) c.args.self.now.at ≡ Err f)
    c.in_err-number.field-0.0 (λ f h. (fails_behind bytes _ _ _ _ _ f _ refl (must_is bytes kinds.layer c.args.self.now.at c.take_data.new.self.at c.in_ok-layer.ensures.ok.from
    c.in_ok-layer.ensures.ok.found)
    (item_fails bytes _ _ _ f _ same_layer (must_fails c.take_data.new.self.bytes.now c.args.kind c.take_data.new.self.at f h)))) c.in_err-number.ensures.err)

pub returns-in_err-number-clause-ok : goal.returns-in_err-number-clause-ok
returns-in_err-number-clause-ok c = rw (err_from_is_err_and c.from_residual-in_err-number.result c.from_residual-in_err-number.ensures.1).1 tt

pub returns-in_err-number-clause-sized : goal.returns-in_err-number-clause-sized
returns-in_err-number-clause-sized c = rw (err_from_is_err_and c.from_residual-in_err-number.result c.from_residual-in_err-number.ensures.1).1 tt

pub returns-in_err-number-clause-points : goal.returns-in_err-number-clause-points
returns-in_err-number-clause-points c = rw (err_from_is_err_and c.from_residual-in_err-number.result c.from_residual-in_err-number.ensures.1).1 tt

pub returns-in_err-number-clause-on : goal.returns-in_err-number-clause-on
returns-in_err-number-clause-on c = le_trans c.in_ok-layer.ensures.on c.in_err-number.ensures.on

pub returns-in_err-number-clause-bytes : goal.returns-in_err-number-clause-bytes
returns-in_err-number-clause-bytes c = c.in_err-number.ensures.bytes ∙ c.in_ok-layer.ensures.bytes

pub returns-in_err-xy-clause-err : goal.returns-in_err-xy-clause-err
returns-in_err-xy-clause-err c =
    let p = err_from_is_err_and c.from_residual-in_err-xy.result c.from_residual-in_err-xy.ensures.1 in
    let bytes = c.args.self.now.bytes.now in
    let same_layer = same_bytes c.take_data.new.self c.args.self.now c.in_ok-layer.ensures.bytes in
    let same_number = same_bytes c.take_data-2.new.self c.take_data.new.self c.in_ok-number.ensures.bytes ∙ same_layer in
    rw (p.1, p.2) (refuses (λ f. reading.take c.take_data-2.new.self.bytes.now kinds.xy c.take_data-2.new.self.at ≡ Err f) (λ f. reading.items_at bytes (shape c.args.kind) c.args.self.now.at ≡ Err f)
    c.in_err-xy.field-0.0 (λ f h. (fails_behind bytes _ _ _ _ _ f _ refl (must_is bytes kinds.layer c.args.self.now.at c.take_data.new.self.at c.in_ok-layer.ensures.ok.from
    c.in_ok-layer.ensures.ok.found)
    (fails_behind bytes _ _ _ _ _ f _ same_layer (must_is c.take_data.new.self.bytes.now c.args.kind c.take_data.new.self.at c.take_data-2.new.self.at c.in_ok-number.ensures.ok.from
    c.in_ok-number.ensures.ok.found)
    (item_fails bytes _ _ _ f _ same_number (must_fails c.take_data-2.new.self.bytes.now kinds.xy c.take_data-2.new.self.at f h))))) c.in_err-xy.ensures.err)

pub returns-in_err-xy-clause-ok : goal.returns-in_err-xy-clause-ok
returns-in_err-xy-clause-ok c = rw (err_from_is_err_and c.from_residual-in_err-xy.result c.from_residual-in_err-xy.ensures.1).1 tt

pub returns-in_err-xy-clause-sized : goal.returns-in_err-xy-clause-sized
returns-in_err-xy-clause-sized c = rw (err_from_is_err_and c.from_residual-in_err-xy.result c.from_residual-in_err-xy.ensures.1).1 tt

pub returns-in_err-xy-clause-points : goal.returns-in_err-xy-clause-points
returns-in_err-xy-clause-points c = rw (err_from_is_err_and c.from_residual-in_err-xy.result c.from_residual-in_err-xy.ensures.1).1 tt

pub returns-in_err-xy-clause-on : goal.returns-in_err-xy-clause-on
returns-in_err-xy-clause-on c = le_trans c.in_ok-layer.ensures.on (le_trans c.in_ok-number.ensures.on c.in_err-xy.ensures.on)

pub returns-in_err-xy-clause-bytes : goal.returns-in_err-xy-clause-bytes
returns-in_err-xy-clause-bytes c = c.in_err-xy.ensures.bytes ∙ c.in_ok-number.ensures.bytes ∙ c.in_ok-layer.ensures.bytes

pub u16_at-requires : goal.u16_at-requires
u16_at-requires c = layer_size _ c.in_ok-layer.ensures.sized

pub returns-clause-ok : goal.returns-clause-ok
returns-clause-ok c =
    let bytes = c.args.self.now.bytes.now in
    let same_layer = same_bytes c.take_data.new.self c.args.self.now c.in_ok-layer.ensures.bytes in
    let same_number = same_bytes c.take_data-2.new.self c.take_data.new.self c.in_ok-number.ensures.bytes ∙ same_layer in
    let layer : c.u16_at.result ≡ u16_at c.in_ok-layer.ensures.ok.from.body 0 = rw c.u16_at.ensures (rw c.in_ok-layer.ensures.ok.is refl) in
    record {
      of_layer = c.in_ok-layer.ensures.ok.from;
      of_number = c.in_ok-number.ensures.ok.from;
      of_xy = c.in_ok-xy.ensures.ok.from;
      fills = (item_then bytes _ _ _ _ _ _ _ _ refl (must_is bytes kinds.layer c.args.self.now.at c.take_data.new.self.at c.in_ok-layer.ensures.ok.from c.in_ok-layer.ensures.ok.found)
          (item_then bytes _ _ _ _ _ _ _ _ same_layer (must_is c.take_data.new.self.bytes.now c.args.kind c.take_data.new.self.at c.take_data-2.new.self.at c.in_ok-number.ensures.ok.from
          c.in_ok-number.ensures.ok.found)
          (item_then bytes _ _ _ _ _ _ _ _ same_number (must_is c.take_data-2.new.self.bytes.now kinds.xy c.take_data-2.new.self.at c.take_data-3.new.self.at c.in_ok-xy.ensures.ok.from
          c.in_ok-xy.ensures.ok.found)
          (none_then bytes c.take_data-3.new.self.at))));
      layer_is = layer;
      number_is = c.in_ok-number.ensures.ok.is;
      xy_is = c.in_ok-xy.ensures.ok.is;
    }

pub returns-clause-on : goal.returns-clause-on
returns-clause-on c = le_trans c.in_ok-layer.ensures.on (le_trans c.in_ok-number.ensures.on c.in_ok-xy.ensures.on)

pub returns-clause-bytes : goal.returns-clause-bytes
returns-clause-bytes c = c.in_ok-xy.ensures.bytes ∙ c.in_ok-number.ensures.bytes ∙ c.in_ok-layer.ensures.bytes
