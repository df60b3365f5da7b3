use Rattle.std.proofs.Common.{◌≡◌, [], ◌∷◌, ◌++◌, map, Err, ◌∙◌, arith, le_trans}
use Rattle.std.proofs.lemmas.Result.{err_from_is_err_and}
use Rattle.std.proofs.lemmas.List.{map_push}
use Rattle.std.proofs.lemmas.List.Elements.{All-push}
use Rattle.dpl_spec_format.specs.Kinds as kinds
use Rattle.dpl_records.specs.Seen.{seen}
use Rattle.dpl_syntax.specs.Elements.{element_seen, IsSized}
use Rattle.dpl_syntax.specs.Reading as reading
use Rattle.dpl_syntax.specs.Passing.{Fails, IsTakenElement, class_first, elements_first, AreElements}
use Rattle.dpl_syntax.proofs.Ends.{fails_then}
use Rattle.dpl_syntax.proofs.Refusals.{refuses}
use Rattle.dpl_syntax.proofs.ElementLists.{elements_more, elements_done}
use Rattle.dpl_syntax.proofs.WholeStructures.{elements_fail, no_endstr}
use Rattle.dpl_syntax.proofs.reader.Reader.add_elements.Goals as goal

pub loop-element-preserved : goal.loop-element-preserved
loop-element-preserved c =
    let b = c.skip_class.new.self.bytes.now in
    let e = c.in-Some.element in
    let next = c.next_element.new.self.at in
    let items = map element_seen c.loop-element.elements.items in
    let taken : IsTakenElement b c.loop-element.self.at (element_seen e) next = rw (c.loop-element.invariant.bytes) at (rw c.in-Some.is at c.in_ok-element.ensures.some) in
    let pushed : map element_seen c.push.new.self.items ≡ items ++ element_seen e ∷ [] = rw
    c.in_ok-push.ensures.items (map_push element_seen c.loop-element.elements.items e) in
    record {
      bytes = c.next_element.ensures.bytes ∙ c.loop-element.invariant.bytes;
      on = omega arith;
      sized = rw c.in_ok-push.ensures.items (All-push IsSized c.loop-element.elements.items e c.loop-element.invariant.sized
          (rw c.in-Some.is at c.in_ok-element.ensures.sized));
      passes = rw pushed (elements_more b c.skip_class.new.self.at c.loop-element.self.at next items
          (element_seen e) taken.first c.loop-element.invariant.passes taken.is_next taken.passes);
    }

pub returns-in_err-element-clause-err : goal.returns-in_err-element-clause-err
returns-in_err-element-clause-err c =
    let p = err_from_is_err_and c.from_residual-in_err-element.result c.from_residual-in_err-element.ensures.1 in
    let b = c.args.self.now.bytes.now in
    let at = c.args.self.now.at in
    let first = c.skip_class.new.self.at in
    let next = c.loop-element.self.at in
    let so_far = rw c.in_ok-skip_class.ensures.bytes at c.loop-element.invariant.passes in
    let e = rw (c.loop-element.invariant.bytes, c.in_ok-skip_class.ensures.bytes) at c.in_err-element.ensures.err in
    rw (p.1, p.2) (refuses (Fails b elements_first next) (Fails b class_first at) c.in_err-element.field-0.0
    (λ f h. elements_fail b at first c.in_ok-skip_class.ensures.ok f
    (fails_then b elements_first elements_first (AreElements (map element_seen c.loop-element.elements.items)) first next f so_far h)) e)

pub returns-in_err-take-clause-err : goal.returns-in_err-take-clause-err
returns-in_err-take-clause-err c =
    let p = err_from_is_err_and c.from_residual-in_err-take.result c.from_residual-in_err-take.ensures.1 in
    let b = c.args.self.now.bytes.now in
    let at = c.args.self.now.at in
    let items = map element_seen c.loop-element.elements.items in
    let so_far = rw c.in_ok-skip_class.ensures.bytes at c.loop-element.invariant.passes in
    let none = rw (c.loop-element.invariant.bytes, c.in_ok-skip_class.ensures.bytes) at (rw c.in_default.is at c.in_ok-element.ensures.none) in
    let done = elements_done b c.skip_class.new.self.at c.loop-element.self.at items so_far none.0 in
    let e = rw (c.in_ok-element.ensures.bytes, c.loop-element.invariant.bytes, c.in_ok-skip_class.ensures.bytes, none.1) at c.in_err-take.ensures.exact in
    rw (p.1, p.2) (refuses (λ f. reading.take b kinds.endstr c.loop-element.self.at ≡ Err f) (Fails b class_first at) c.in_err-take.field-0.0
    (no_endstr b at c.skip_class.new.self.at c.in_ok-skip_class.ensures.ok c.loop-element.self.at items done) e)

pub returns-clause-ok : goal.returns-clause-ok
returns-clause-ok c =
    let b = c.args.self.now.bytes.now in
    let items = map element_seen c.loop-element.elements.items in
    let so_far = rw c.in_ok-skip_class.ensures.bytes at c.loop-element.invariant.passes in
    let none = rw (c.loop-element.invariant.bytes, c.in_ok-skip_class.ensures.bytes) at (rw c.in_default.is at c.in_ok-element.ensures.none) in
    record {
      first = c.skip_class.new.self.at;
      end = c.loop-element.self.at;
      endstr = seen c.in_ok-take.field-0;
      classes = c.in_ok-skip_class.ensures.ok;
      elements = elements_done b c.skip_class.new.self.at c.loop-element.self.at items so_far none.0;
      ends = rw (c.in_ok-element.ensures.bytes, c.loop-element.invariant.bytes, c.in_ok-skip_class.ensures.bytes, none.1) at c.in_ok-take.ensures.exact;
    }

pub returns-in_err-skip_class-clause-ok : goal.returns-in_err-skip_class-clause-ok
returns-in_err-skip_class-clause-ok c = rw (err_from_is_err_and c.from_residual.result c.from_residual.ensures.1).1 tt

pub returns-in_err-skip_class-clause-sized : goal.returns-in_err-skip_class-clause-sized
returns-in_err-skip_class-clause-sized c = rw (err_from_is_err_and c.from_residual.result c.from_residual.ensures.1).1 tt

pub returns-in_err-element-clause-ok : goal.returns-in_err-element-clause-ok
returns-in_err-element-clause-ok c = rw (err_from_is_err_and c.from_residual-in_err-element.result c.from_residual-in_err-element.ensures.1).1 tt

pub returns-in_err-element-clause-sized : goal.returns-in_err-element-clause-sized
returns-in_err-element-clause-sized c = rw (err_from_is_err_and c.from_residual-in_err-element.result c.from_residual-in_err-element.ensures.1).1 tt

pub returns-in_err-push-clause-ok : goal.returns-in_err-push-clause-ok
returns-in_err-push-clause-ok c = rw (err_from_is_err_and c.from_residual-in_err-push.result c.from_residual-in_err-push.ensures.1).1 tt

pub returns-in_err-push-clause-sized : goal.returns-in_err-push-clause-sized
returns-in_err-push-clause-sized c = rw (err_from_is_err_and c.from_residual-in_err-push.result c.from_residual-in_err-push.ensures.1).1 tt

pub returns-in_err-take-clause-ok : goal.returns-in_err-take-clause-ok
returns-in_err-take-clause-ok c = rw (err_from_is_err_and c.from_residual-in_err-take.result c.from_residual-in_err-take.ensures.1).1 tt

pub returns-in_err-take-clause-sized : goal.returns-in_err-take-clause-sized
returns-in_err-take-clause-sized c = rw (err_from_is_err_and c.from_residual-in_err-take.result c.from_residual-in_err-take.ensures.1).1 tt

pub returns-in_err-skip_class-clause-bytes : goal.returns-in_err-skip_class-clause-bytes
returns-in_err-skip_class-clause-bytes c = c.in_err-skip_class.ensures.bytes

pub returns-in_err-skip_class-clause-on : goal.returns-in_err-skip_class-clause-on
returns-in_err-skip_class-clause-on c = c.in_err-skip_class.ensures.on

pub returns-in_err-element-clause-bytes : goal.returns-in_err-element-clause-bytes
returns-in_err-element-clause-bytes c = c.in_err-element.ensures.bytes ∙ c.loop-element.invariant.bytes ∙ c.in_ok-skip_class.ensures.bytes

pub returns-in_err-element-clause-on : goal.returns-in_err-element-clause-on
returns-in_err-element-clause-on c = le_trans (le_trans c.in_ok-skip_class.ensures.on c.loop-element.invariant.on) c.in_err-element.ensures.on

pub returns-in_err-push-clause-bytes : goal.returns-in_err-push-clause-bytes
returns-in_err-push-clause-bytes c = c.in_ok-element.ensures.bytes ∙ c.loop-element.invariant.bytes ∙ c.in_ok-skip_class.ensures.bytes

pub returns-in_err-push-clause-on : goal.returns-in_err-push-clause-on
returns-in_err-push-clause-on c = le_trans (le_trans c.in_ok-skip_class.ensures.on c.loop-element.invariant.on) c.in_ok-element.ensures.on

pub returns-in_err-take-clause-bytes : goal.returns-in_err-take-clause-bytes
returns-in_err-take-clause-bytes c = c.in_err-take.ensures.bytes ∙ c.in_ok-element.ensures.bytes ∙ c.loop-element.invariant.bytes ∙ c.in_ok-skip_class.ensures.bytes

pub returns-in_err-take-clause-on : goal.returns-in_err-take-clause-on
returns-in_err-take-clause-on c = le_trans (le_trans c.in_ok-skip_class.ensures.on c.loop-element.invariant.on) (le_trans c.in_ok-element.ensures.on c.in_err-take.ensures.on)

pub returns-clause-bytes : goal.returns-clause-bytes
returns-clause-bytes c = c.in_ok-take.ensures.bytes ∙ c.in_ok-element.ensures.bytes ∙ c.loop-element.invariant.bytes ∙ c.in_ok-skip_class.ensures.bytes

pub returns-clause-on : goal.returns-clause-on
returns-clause-on c = le_trans (le_trans c.in_ok-skip_class.ensures.on c.loop-element.invariant.on) (le_trans c.in_ok-element.ensures.on c.in_ok-take.ensures.on)
