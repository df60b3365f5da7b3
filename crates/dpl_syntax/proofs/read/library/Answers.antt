use Rattle.std.proofs.Common.{◌≡◌, ℕ, [], Err}
use Rattle.std.proofs.lemmas.Result.{err_from_is_err_and}
use Rattle.dpl_spec_format.specs.Kinds as kinds
use Rattle.dpl_spec_format.specs.Records.{Record}
use Rattle.dpl_spec_format.specs.Layout.{IsFirstFault}
use Rattle.dpl_syntax.specs.Libraries.{structures_seen}
use Rattle.dpl_syntax.specs.Reading as reading
use Rattle.dpl_syntax.specs.Passing.{FailsSkips, part_then, FailsNamed, structures_first}
use Rattle.dpl_syntax.proofs.Refusals.{refuses}
use Rattle.dpl_syntax.proofs.WholeLibraries.{no_header, no_bgnlib, no_libname, no_units, no_structures, holds}
use Rattle.dpl_syntax.proofs.read.library.Goals as goal

pub returns-in_err-header-clause-fault : goal.returns-in_err-header-clause-fault
returns-in_err-header-clause-fault c =
    let p = err_from_is_err_and c.from_residual.result c.from_residual.ensures.1 in
    let x = c.args.bytes.now in
    rw (p.1, p.2) (refuses (λ f. reading.take x kinds.header 0 ≡ Err f) (IsFirstFault x) c.in_err-header.field-0.0 (no_header x) c.in_err-header.ensures.err)

pub returns-in_err-bgnlib-clause-fault : goal.returns-in_err-bgnlib-clause-fault
returns-in_err-bgnlib-clause-fault c =
    let p = err_from_is_err_and c.from_residual-in_err-bgnlib.result c.from_residual-in_err-bgnlib.ensures.1 in
    let x = c.args.bytes.now in
    let h : Record × ℕ = (c.in_ok-header.ensures.ok.first, c.take_whole.new.self.at) in
    let e = rw c.in_ok-header.ensures.bytes at c.in_err-bgnlib.ensures.err in
    rw (p.1, p.2) (refuses (FailsSkips x (part_then kinds.bgnlib) h.1) (IsFirstFault x) c.in_err-bgnlib.field-0.0
    (no_bgnlib x h c.in_ok-header.ensures.ok.found) e)

pub returns-in_err-libname-clause-fault : goal.returns-in_err-libname-clause-fault
returns-in_err-libname-clause-fault c =
    let p = err_from_is_err_and c.from_residual-in_err-libname.result c.from_residual-in_err-libname.ensures.1 in
    let x = c.args.bytes.now in
    let h : Record × ℕ = (c.in_ok-header.ensures.ok.first, c.take_whole.new.self.at) in
    let b = rw c.in_ok-header.ensures.bytes at c.in_ok-bgnlib.ensures.ok in
    let e = rw (c.in_ok-bgnlib.ensures.bytes, c.in_ok-header.ensures.bytes) at c.in_err-libname.ensures.err in
    rw (p.1, p.2) (refuses (FailsSkips x (part_then kinds.libname) c.take_part.new.self.at) (IsFirstFault x) c.in_err-libname.field-0.0
    (no_libname x h c.in_ok-header.ensures.ok.found b.first c.take_part.new.self.at b.passes) e)

pub returns-in_err-units-clause-fault : goal.returns-in_err-units-clause-fault
returns-in_err-units-clause-fault c =
    let p = err_from_is_err_and c.from_residual-in_err-units.result c.from_residual-in_err-units.ensures.1 in
    let x = c.args.bytes.now in
    let h : Record × ℕ = (c.in_ok-header.ensures.ok.first, c.take_whole.new.self.at) in
    let b = rw c.in_ok-header.ensures.bytes at c.in_ok-bgnlib.ensures.ok in
    let l = rw (c.in_ok-bgnlib.ensures.bytes, c.in_ok-header.ensures.bytes) at c.in_ok-libname.ensures.ok in
    let e = rw (c.in_ok-libname.ensures.bytes, c.in_ok-bgnlib.ensures.bytes, c.in_ok-header.ensures.bytes) at c.in_err-units.ensures.err in
    rw (p.1, p.2) (refuses (FailsSkips x (part_then kinds.units) c.take_part-2.new.self.at) (IsFirstFault x) c.in_err-units.field-0.0
    (no_units x h c.in_ok-header.ensures.ok.found b.first c.take_part.new.self.at b.passes l.first c.take_part-2.new.self.at l.passes) e)

pub returns-in_err-structures-clause-fault : goal.returns-in_err-structures-clause-fault
returns-in_err-structures-clause-fault c =
    let p = err_from_is_err_and c.from_residual-in_err-structures.result c.from_residual-in_err-structures.ensures.1 in
    let x = c.args.bytes.now in
    let h : Record × ℕ = (c.in_ok-header.ensures.ok.first, c.take_whole.new.self.at) in
    let b = rw c.in_ok-header.ensures.bytes at c.in_ok-bgnlib.ensures.ok in
    let l = rw (c.in_ok-bgnlib.ensures.bytes, c.in_ok-header.ensures.bytes) at c.in_ok-libname.ensures.ok in
    let u = rw (c.in_ok-libname.ensures.bytes, c.in_ok-bgnlib.ensures.bytes, c.in_ok-header.ensures.bytes) at c.in_ok-units.ensures.ok in
    let e = rw (c.in_ok-units.ensures.bytes, c.in_ok-libname.ensures.bytes, c.in_ok-bgnlib.ensures.bytes, c.in_ok-header.ensures.bytes) at c.in_err-structures.ensures.err in
    rw (p.1, p.2) (refuses (FailsNamed x [] structures_first c.take_part-3.new.self.at) (IsFirstFault x) c.in_err-structures.field-0.0
    (no_structures x h c.in_ok-header.ensures.ok.found b.first c.take_part.new.self.at b.passes l.first c.take_part-2.new.self.at l.passes u.first c.take_part-3.new.self.at u.passes) e)

pub returns-clause-library : goal.returns-clause-library
returns-clause-library c =
    let x = c.args.bytes.now in
    let h : Record × ℕ = (c.in_ok-header.ensures.ok.first, c.take_whole.new.self.at) in
    let b = rw c.in_ok-header.ensures.bytes at c.in_ok-bgnlib.ensures.ok in
    let l = rw (c.in_ok-bgnlib.ensures.bytes, c.in_ok-header.ensures.bytes) at c.in_ok-libname.ensures.ok in
    let u = rw (c.in_ok-libname.ensures.bytes, c.in_ok-bgnlib.ensures.bytes, c.in_ok-header.ensures.bytes) at c.in_ok-units.ensures.ok in
    let s = rw (c.in_ok-units.ensures.bytes, c.in_ok-libname.ensures.bytes, c.in_ok-bgnlib.ensures.bytes, c.in_ok-header.ensures.bytes) at c.in_ok-structures.ensures.ok in
    rw (c.in_ok-header.ensures.ok.is, b.is, l.is, u.is)
    (holds x h c.in_ok-header.ensures.ok.found b.first c.take_part.new.self.at b.passes l.first c.take_part-2.new.self.at l.passes u.first c.take_part-3.new.self.at u.passes
    (structures_seen c.in_ok-structures.structures.entries) s.end s.structures s.endlib s.ends)

pub returns-in_err-header-clause-library : goal.returns-in_err-header-clause-library
returns-in_err-header-clause-library c = rw (err_from_is_err_and c.from_residual.result c.from_residual.ensures.1).1 tt

pub returns-in_err-bgnlib-clause-library : goal.returns-in_err-bgnlib-clause-library
returns-in_err-bgnlib-clause-library c = rw (err_from_is_err_and c.from_residual-in_err-bgnlib.result c.from_residual-in_err-bgnlib.ensures.1).1 tt

pub returns-in_err-libname-clause-library : goal.returns-in_err-libname-clause-library
returns-in_err-libname-clause-library c = rw (err_from_is_err_and c.from_residual-in_err-libname.result c.from_residual-in_err-libname.ensures.1).1 tt

pub returns-in_err-units-clause-library : goal.returns-in_err-units-clause-library
returns-in_err-units-clause-library c = rw (err_from_is_err_and c.from_residual-in_err-units.result c.from_residual-in_err-units.ensures.1).1 tt

pub returns-in_err-structures-clause-library : goal.returns-in_err-structures-clause-library
returns-in_err-structures-clause-library c = rw (err_from_is_err_and c.from_residual-in_err-structures.result c.from_residual-in_err-structures.ensures.1).1 tt
