use Rattle.std.proofs.Common.{◌≡◌, ℕ, List, [], ◌∷◌, ◌++◌, Err, ◌∙◌, arith}
use Rattle.std.specs.Prelude.{All}
use Rattle.std.specs.Borrow.{Bor}
use Rattle.std.proofs.lemmas.Result.{err_from_is_err_and}
use Rattle.std.proofs.lemmas.List.{map_push}
use Rattle.std.proofs.lemmas.List.Elements.{All-push}
use Rattle.dpl_spec_format.specs.Kinds as kinds
use Rattle.dpl_records.specs.Seen.{seen}
use Rattle.dpl_syntax.specs.declared.library.Structure.{Structure}
use Rattle.dpl_syntax.specs.Elements.{IsSized}
use Rattle.dpl_syntax.specs.Libraries.{structure_seen, structures_seen, known_names}
use Rattle.dpl_syntax.specs.Adding.{IsAdded}
use Rattle.dpl_syntax.specs.Reading as reading
use Rattle.dpl_syntax.specs.Passing.{FailsNamed, structure_then, structures_first}
use Rattle.dpl_syntax.proofs.Refusals.{refuses}
use Rattle.dpl_syntax.proofs.Taking.{if_some, if_none, if_fails}
use Rattle.dpl_syntax.proofs.StructureLists.{structures_more, structures_fail, structures_stop, structures_done, no_endlib, is_next, is_here}
use Rattle.dpl_syntax.proofs.reader.Reader.add_structures.Goals as goal

pub returns-in_err-bgnstr-clause-err : goal.returns-in_err-bgnstr-clause-err
returns-in_err-bgnstr-clause-err c =
    let p = err_from_is_err_and c.from_residual.result c.from_residual.ensures.1 in
    let b = c.args.self.now.bytes.now in
    let at = c.loop-bgnstr.self.at in
    let e = rw c.loop-bgnstr.invariant.bytes at c.in_err-bgnstr.ensures.exact in
    rw (p.1, p.2) (refuses (λ f. reading.take_if b kinds.bgnstr at ≡ Err f) (FailsNamed b [] structures_first c.args.self.now.at) c.in_err-bgnstr.field-0.0
    (λ f x. structures_stop b c.args.self.now.at at c.loop-bgnstr.structures.entries c.loop-bgnstr.invariant.passes f
    (if_fails b kinds.bgnstr at f x)) e)

pub add_structure-requires-clause-next : goal.add_structure-requires-clause-next
add_structure-requires-clause-next c =
    let b = c.loop-bgnstr.self.bytes.now in
    let at = c.loop-bgnstr.self.at in
    let within = rw c.in-Some.is at c.in_ok-bgnstr.ensures.within in
    let e = rw c.in-Some.is at c.in_ok-bgnstr.ensures.exact in
    rw c.in_ok-bgnstr.ensures.bytes (is_here b kinds.bgnstr at (seen c.in-Some.bgnstr)
    (is_next b kinds.bgnstr at c.take_if.new.self.at (seen c.in-Some.bgnstr) e within.0 within.1 within.2))

pub add_structure-requires-clause-behind : goal.add_structure-requires-clause-behind
add_structure-requires-clause-behind c =
    let e = rw c.in-Some.is at c.in_ok-bgnstr.ensures.exact in
    (if_some c.loop-bgnstr.self.bytes.now kinds.bgnstr c.loop-bgnstr.self.at (seen c.in-Some.bgnstr) c.take_if.new.self.at e).2

pub returns-in_err-add_structure-clause-err : goal.returns-in_err-add_structure-clause-err
returns-in_err-add_structure-clause-err c =
    let p = err_from_is_err_and c.from_residual-in_err-add_structure.result c.from_residual-in_err-add_structure.ensures.1 in
    let b = c.args.self.now.bytes.now in
    let from = c.args.self.now.at in
    let at = c.loop-bgnstr.self.at in
    let entries = c.loop-bgnstr.structures.entries in
    let h = seen c.in-Some.bgnstr in
    let within = rw (c.in-Some.is, c.loop-bgnstr.invariant.bytes) at c.in_ok-bgnstr.ensures.within in
    let taken = rw (c.loop-bgnstr.invariant.bytes, c.in-Some.is) at c.in_ok-bgnstr.ensures.exact in
    let next = is_next b kinds.bgnstr at c.take_if.new.self.at h taken within.0 within.1 within.2 in
    let e = rw (c.in_ok-bgnstr.ensures.bytes, c.loop-bgnstr.invariant.bytes, within.0) at c.in_err-add_structure.ensures.err in
    rw (p.1, p.2) (refuses (FailsNamed b (known_names entries) structure_then at) (FailsNamed b [] structures_first from)
    c.in_err-add_structure.field-0.0 (λ f x. structures_fail b from at entries c.loop-bgnstr.invariant.passes h f next x) e)

pub loop-bgnstr-preserved : goal.loop-bgnstr-preserved
loop-bgnstr-preserved c =
    let b = c.args.self.now.bytes.now in
    let from = c.args.self.now.at in
    let at = c.loop-bgnstr.self.at in
    let entries = c.loop-bgnstr.structures.entries in
    let h = seen c.in-Some.bgnstr in
    let n = c.add_structure.new.self.at in
    let within = rw (c.in-Some.is, c.loop-bgnstr.invariant.bytes) at c.in_ok-bgnstr.ensures.within in
    let taken = rw (c.loop-bgnstr.invariant.bytes, c.in-Some.is) at c.in_ok-bgnstr.ensures.exact in
    let next = is_next b kinds.bgnstr at c.take_if.new.self.at h taken within.0 within.1 within.2 in
    let added : IsAdded b entries c.add_structure.new.structures.entries at n = rw (
      c.in_ok-bgnstr.ensures.bytes,
      c.loop-bgnstr.invariant.bytes,
      within.0,
    ) at c.in_ok-add_structure.ensures.ok in
    let e = added.entry in
    let seen_items : structures_seen (entries ++ e ∷ []) ≡ structures_seen entries ++ structure_seen e.0.now e.1 ∷ [] = map_push
    (λ (e : Bor (List ℕ) × Structure). structure_seen e.0.now e.1) entries e in
    record {
      bytes = c.in_ok-add_structure.ensures.bytes ∙ c.in_ok-bgnstr.ensures.bytes ∙ c.loop-bgnstr.invariant.bytes;
      sized = rw added.entries (All-push (λ (e : Bor (List ℕ) × Structure). All IsSized e.1.elements.items) entries e c.loop-bgnstr.invariant.sized added.sized);
      few = omega (arith, c.in_ok-add_structure.ensures.len, c.in_ok-add_structure.ensures.further, c.in_ok-bgnstr.ensures.on, c.loop-bgnstr.invariant.few);
      passes = rw (added.entries, seen_items)
          (structures_more b from at entries c.loop-bgnstr.invariant.passes n h (structure_seen e.0.now e.1) next added.passes);
    }

pub returns-in_err-take-clause-err : goal.returns-in_err-take-clause-err
returns-in_err-take-clause-err c =
    let p = err_from_is_err_and c.from_residual-in_err-take.result c.from_residual-in_err-take.ensures.1 in
    let b = c.args.self.now.bytes.now in
    let from = c.args.self.now.at in
    let at = c.loop-bgnstr.self.at in
    let entries = c.loop-bgnstr.structures.entries in
    let none = if_none b kinds.bgnstr at c.take_if.new.self.at (rw (c.loop-bgnstr.invariant.bytes, c.in_default.is) at c.in_ok-bgnstr.ensures.exact) in
    let done = structures_done b from at entries c.loop-bgnstr.invariant.passes (none.0, none.1, none.2) in
    let e = rw (c.in_ok-bgnstr.ensures.bytes, c.loop-bgnstr.invariant.bytes, none.3) at c.in_err-take.ensures.exact in
    rw (p.1, p.2) (refuses (λ f. reading.take b kinds.endlib at ≡ Err f) (FailsNamed b [] structures_first from) c.in_err-take.field-0.0
    (λ f x. no_endlib b from at (structures_seen entries) f done x) e)

pub returns-clause-ok : goal.returns-clause-ok
returns-clause-ok c =
    let b = c.args.self.now.bytes.now in
    let at = c.loop-bgnstr.self.at in
    let none = if_none b kinds.bgnstr at c.take_if.new.self.at (rw (c.loop-bgnstr.invariant.bytes, c.in_default.is) at c.in_ok-bgnstr.ensures.exact) in
    record {
      end = at;
      endlib = (seen c.in_ok-take.field-0, c.take.new.self.at);
      structures = structures_done b c.args.self.now.at at c.loop-bgnstr.structures.entries c.loop-bgnstr.invariant.passes (none.0, none.1, none.2);
      ends = rw (c.in_ok-bgnstr.ensures.bytes, c.loop-bgnstr.invariant.bytes, none.3) at c.in_ok-take.ensures.exact;
    }

pub returns-in_err-bgnstr-clause-bytes : goal.returns-in_err-bgnstr-clause-bytes
returns-in_err-bgnstr-clause-bytes c = c.in_err-bgnstr.ensures.bytes ∙ c.loop-bgnstr.invariant.bytes

pub returns-in_err-add_structure-clause-bytes : goal.returns-in_err-add_structure-clause-bytes
returns-in_err-add_structure-clause-bytes c = c.in_err-add_structure.ensures.bytes ∙ c.in_ok-bgnstr.ensures.bytes ∙ c.loop-bgnstr.invariant.bytes

pub returns-in_err-take-clause-bytes : goal.returns-in_err-take-clause-bytes
returns-in_err-take-clause-bytes c = c.in_err-take.ensures.bytes ∙ c.in_ok-bgnstr.ensures.bytes ∙ c.loop-bgnstr.invariant.bytes

pub returns-clause-bytes : goal.returns-clause-bytes
returns-clause-bytes c = c.in_ok-take.ensures.bytes ∙ c.in_ok-bgnstr.ensures.bytes ∙ c.loop-bgnstr.invariant.bytes

pub returns-in_err-bgnstr-clause-ok : goal.returns-in_err-bgnstr-clause-ok
returns-in_err-bgnstr-clause-ok c = rw (err_from_is_err_and c.from_residual.result c.from_residual.ensures.1).1 tt

pub returns-in_err-bgnstr-clause-sized : goal.returns-in_err-bgnstr-clause-sized
returns-in_err-bgnstr-clause-sized c = rw (err_from_is_err_and c.from_residual.result c.from_residual.ensures.1).1 tt

pub returns-in_err-bgnstr-clause-few : goal.returns-in_err-bgnstr-clause-few
returns-in_err-bgnstr-clause-few c = rw (err_from_is_err_and c.from_residual.result c.from_residual.ensures.1).1 tt

pub returns-in_err-add_structure-clause-ok : goal.returns-in_err-add_structure-clause-ok
returns-in_err-add_structure-clause-ok c = rw (err_from_is_err_and c.from_residual-in_err-add_structure.result c.from_residual-in_err-add_structure.ensures.1).1 tt

pub returns-in_err-add_structure-clause-sized : goal.returns-in_err-add_structure-clause-sized
returns-in_err-add_structure-clause-sized c = rw (err_from_is_err_and c.from_residual-in_err-add_structure.result c.from_residual-in_err-add_structure.ensures.1).1 tt

pub returns-in_err-add_structure-clause-few : goal.returns-in_err-add_structure-clause-few
returns-in_err-add_structure-clause-few c = rw (err_from_is_err_and c.from_residual-in_err-add_structure.result c.from_residual-in_err-add_structure.ensures.1).1 tt

pub returns-in_err-take-clause-ok : goal.returns-in_err-take-clause-ok
returns-in_err-take-clause-ok c = rw (err_from_is_err_and c.from_residual-in_err-take.result c.from_residual-in_err-take.ensures.1).1 tt

pub returns-in_err-take-clause-sized : goal.returns-in_err-take-clause-sized
returns-in_err-take-clause-sized c = rw (err_from_is_err_and c.from_residual-in_err-take.result c.from_residual-in_err-take.ensures.1).1 tt

pub returns-in_err-take-clause-few : goal.returns-in_err-take-clause-few
returns-in_err-take-clause-few c = rw (err_from_is_err_and c.from_residual-in_err-take.result c.from_residual-in_err-take.ensures.1).1 tt
