use Rattle.std.proofs.Common.{◌≡◌, ℕ, List, map, Err, ◌∙◌}
use Rattle.std.specs.Borrow.{Bor}
use Rattle.std.proofs.lemmas.Result.{err_from_is_err_and, on_ok_weaker}
use Rattle.dpl_spec_format.specs.Fields.{name_of}
use Rattle.dpl_spec_format.specs.Records.{Record}
use Rattle.dpl_spec_format.specs.Tree as tree
use Rattle.dpl_records.specs.Seen.{seen}
use Rattle.dpl_syntax.specs.declared.library.Structure.{Structure}
use Rattle.dpl_syntax.specs.Elements.{element_seen}
use Rattle.dpl_syntax.specs.Libraries.{known_names}
use Rattle.dpl_syntax.specs.Reading as reading
use Rattle.dpl_syntax.specs.Passing.{Fails, class_first, FailsNamed, structure_then}
use Rattle.dpl_syntax.proofs.Refusals.{refuses}
use Rattle.dpl_syntax.proofs.WholeStructures.{name_err, fails_behind, structure_ok}
use Rattle.dpl_syntax.proofs.reader.Reader.add_structure.Goals as goal

pub returns-in_err-strname-clause-err : goal.returns-in_err-strname-clause-err
returns-in_err-strname-clause-err c =
    let p = err_from_is_err_and c.from_residual.result c.from_residual.ensures.1 in
    let b = c.args.self.now.bytes.now in
    let known = known_names c.args.structures.now.entries in
    let h = seen c.args.bgnstr in
    let e = rw c.requires.behind at c.in_err-strname.ensures.exact in
    rw (p.1, p.2) (refuses (λ f. reading.take_strname b known h.next ≡ Err f) (FailsNamed b known structure_then h.at)
    c.in_err-strname.field-0.0 (name_err b h.at h known c.requires.next.found c.requires.next.is) e)

pub returns-in_err-elements-clause-err : goal.returns-in_err-elements-clause-err
returns-in_err-elements-clause-err c =
    let p = err_from_is_err_and c.from_residual-in_err-elements.result c.from_residual-in_err-elements.ensures.1 in
    let b = c.args.self.now.bytes.now in
    let known = known_names c.args.structures.now.entries in
    let h = seen c.args.bgnstr in
    let y : Record × ℕ = (seen c.in_ok-strname.strname, c.take_strname.new.self.at) in
    let name = rw c.requires.behind at c.in_ok-strname.ensures.exact in
    let e = rw c.in_ok-strname.ensures.bytes at c.in_err-elements.ensures.err in
    rw (p.1, p.2) (refuses (Fails b class_first y.1) (FailsNamed b known structure_then h.at) c.in_err-elements.field-0.0
    (fails_behind b h.at h known c.requires.next.found c.requires.next.is y name) e)

pub returns-clause-ok : goal.returns-clause-ok
returns-clause-ok c =
    let b = c.args.self.now.bytes.now in
    let known = known_names c.args.structures.now.entries in
    let h = seen c.args.bgnstr in
    let y : Record × ℕ = (seen c.in_ok-strname.strname, c.take_strname.new.self.at) in
    let name = rw c.requires.behind at c.in_ok-strname.ensures.exact in
    let elements = rw c.in_ok-strname.ensures.bytes at c.in_ok-elements.ensures.ok in
    let all = c.in_ok-elements.ensures.bytes ∙ c.in_ok-strname.ensures.bytes in
    let one : c.whole.result.now ≡ tree.whole b h = rw all at c.whole.ensures in
    let two : c.whole-2.result.now ≡ tree.whole b y.0 = rw all at c.whole-2.ensures in
    let three : c.name_of.result.now ≡ name_of y.0.body = c.name_of.ensures in
    let passes = structure_ok b h.at h known c.requires.next.found c.requires.next.is y name c.elements.new.self.at
    (map element_seen c.in_ok-elements.elements.items) elements in
    let entry : Bor (List ℕ) × Structure = (
      c.name_of.result,
      record { at = c.args.bgnstr.at; bgnstr = c.whole.result; strname = c.whole-2.result; elements = c.in_ok-elements.elements },
    ) in
    on_ok_weaker c.add.result (λ e. record { entry = entry; entries = e; sized = c.in_ok-elements.ensures.sized; passes = rw (one, two, three) passes }) c.add.ensures.ok

pub returns-in_err-strname-clause-bytes : goal.returns-in_err-strname-clause-bytes
returns-in_err-strname-clause-bytes c = c.in_err-strname.ensures.bytes

pub returns-in_err-elements-clause-bytes : goal.returns-in_err-elements-clause-bytes
returns-in_err-elements-clause-bytes c = c.in_err-elements.ensures.bytes ∙ c.in_ok-strname.ensures.bytes

pub returns-clause-bytes : goal.returns-clause-bytes
returns-clause-bytes c = c.in_ok-elements.ensures.bytes ∙ c.in_ok-strname.ensures.bytes

pub returns-in_err-strname-clause-ok : goal.returns-in_err-strname-clause-ok
returns-in_err-strname-clause-ok c = rw (err_from_is_err_and c.from_residual.result c.from_residual.ensures.1).1 tt

pub returns-in_err-strname-clause-len : goal.returns-in_err-strname-clause-len
returns-in_err-strname-clause-len c = rw (err_from_is_err_and c.from_residual.result c.from_residual.ensures.1).1 tt

pub returns-in_err-strname-clause-further : goal.returns-in_err-strname-clause-further
returns-in_err-strname-clause-further c = rw (err_from_is_err_and c.from_residual.result c.from_residual.ensures.1).1 tt

pub returns-in_err-elements-clause-ok : goal.returns-in_err-elements-clause-ok
returns-in_err-elements-clause-ok c = rw (err_from_is_err_and c.from_residual-in_err-elements.result c.from_residual-in_err-elements.ensures.1).1 tt

pub returns-in_err-elements-clause-len : goal.returns-in_err-elements-clause-len
returns-in_err-elements-clause-len c = rw (err_from_is_err_and c.from_residual-in_err-elements.result c.from_residual-in_err-elements.ensures.1).1 tt

pub returns-in_err-elements-clause-further : goal.returns-in_err-elements-clause-further
returns-in_err-elements-clause-further c = rw (err_from_is_err_and c.from_residual-in_err-elements.result c.from_residual-in_err-elements.ensures.1).1 tt
