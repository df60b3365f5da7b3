use Rattle.std.proofs.Common.{◌≤◌, length, ◌∙◌}
use Rattle.std.proofs.lemmas.Result.{err_from_is_err_and}
use Rattle.dpl_spec_format.specs.Fields as fields
use Rattle.dpl_spec_format.specs.Kinds as kinds
use Rattle.dpl_spec_format.specs.Table.{IsSizeOf}
use Rattle.dpl_syntax.proofs.Sizes.{if_there, strans_size, mag_size, angle_size}
use Rattle.dpl_syntax.proofs.Chains.{in_slot, transformed_is}
use Rattle.dpl_syntax.proofs.reader.Reader.take_trans.Goals as goal

pub returns-clause-ok : goal.returns-clause-ok
returns-clause-ok c =
    let s = rw c.in-Some.is at c.in_ok-strans.ensures.ok in
    let m = rw c.in_ok-strans.ensures.bytes at c.in_ok-mag.ensures.ok in
    let g = rw (c.in_ok-mag.ensures.bytes, c.in_ok-strans.ensures.bytes) at c.in_ok-angle.ensures.ok in
    let mag = c.real.ensures ∙ in_slot (λ x. fields.real_at x 0) c.in_ok-mag.mag m.from m.is in
    let angle = c.real-2.ensures ∙ in_slot (λ x. fields.real_at x 0) c.in_ok-angle.angle g.from g.is in
    transformed_is c.args.self.now.bytes.now c.args.self.now.at c.take_data_if.new.self.at c.take_data_if-2.new.self.at c.take_data_if-3.new.self.at
    c.u16_at.result (c.real.result, c.real-2.result) c.in-Some.strans.now s.from m.from g.from s.found s.is c.u16_at.ensures m.found mag g.found angle

pub returns-in_err-strans-clause-ok : goal.returns-in_err-strans-clause-ok
returns-in_err-strans-clause-ok c = rw (err_from_is_err_and c.from_residual.result c.from_residual.ensures.1).1 tt

pub returns-in_err-mag-clause-ok : goal.returns-in_err-mag-clause-ok
returns-in_err-mag-clause-ok c = rw (err_from_is_err_and c.from_residual-in_err-mag.result c.from_residual-in_err-mag.ensures.1).1 tt

pub returns-in_err-angle-clause-ok : goal.returns-in_err-angle-clause-ok
returns-in_err-angle-clause-ok c = rw (err_from_is_err_and c.from_residual-in_err-angle.result c.from_residual-in_err-angle.ensures.1).1 tt

pub returns-in_err-mag-clause-bytes : goal.returns-in_err-mag-clause-bytes
returns-in_err-mag-clause-bytes c = c.in_err-mag.ensures.bytes ∙ c.in_ok-strans.ensures.bytes

pub returns-in_err-angle-clause-bytes : goal.returns-in_err-angle-clause-bytes
returns-in_err-angle-clause-bytes c = c.in_err-angle.ensures.bytes ∙ c.in_ok-mag.ensures.bytes ∙ c.in_ok-strans.ensures.bytes

pub returns-clause-bytes : goal.returns-clause-bytes
returns-clause-bytes c = c.in_ok-angle.ensures.bytes ∙ c.in_ok-mag.ensures.bytes ∙ c.in_ok-strans.ensures.bytes

pub real-requires : goal.real-requires
real-requires c = if_there c.in_ok-mag.mag (λ d. IsSizeOf kinds.mag (length d.now)) (λ d. 8 ≤ length d.now) (λ d s. mag_size (length d.now) s) c.in_ok-mag.ensures.sized

pub real-requires-2 : goal.real-requires-2
real-requires-2 c = if_there c.in_ok-angle.angle (λ d. IsSizeOf kinds.angle (length d.now)) (λ d. 8 ≤ length d.now) (λ d s. angle_size (length d.now) s) c.in_ok-angle.ensures.sized

pub u16_at-requires : goal.u16_at-requires
u16_at-requires c = strans_size _ (rw c.in-Some.is at c.in_ok-strans.ensures.sized)
