use Rattle.std.proofs.Common.{◌<◌, ◌∙◌, ap, arith, length}
use Rattle.std.proofs.lemmas.Bool.{false≢true}
use Rattle.dpl_check.specs.Places.{bare}
use Rattle.dpl_check.proofs.Placing.{near-shown, pair-shown, part-known, unpaired-none}
use Rattle.dpl_check.proofs.place.shows_conflict.Goals as goal

pub is_near_line-requires-clause-items : goal.is_near_line-requires-clause-items
is_near_line-requires-clause-items c = rw (c.items-parts.ensures.value, c.parts.ensures.value) c.requires.items

pub bounds-owner-piece : goal.bounds-owner-piece
bounds-owner-piece c =
    let near = c.is_near_line.ensures.0 c.if-not-is_near_line.false in
    let known : c.args.piece < length c.items-parts.result.now = part-known c.items-parts.result.now c.args.piece c.in-Pair.from near.from in
    let same = ap length (c.items-parts.ensures.value ∙ c.parts.ensures.value) in
    omega (arith, known, same, ap length c.owner-owner.ensures.value, c.owner-owner.ensures.each)

pub bounds-owner-next : goal.bounds-owner-next
bounds-owner-next c =
    let near = c.is_near_line.ensures.0 c.if-not-is_near_line.false in
    let known : c.args.next < length c.items-parts.result.now = part-known c.items-parts.result.now c.args.next c.in-Pair.to near.to in
    let same = ap length (c.items-parts.ensures.value ∙ c.parts.ensures.value) in
    omega (arith, known, same, ap length c.owner-owner.ensures.value, c.owner-owner.ensures.each)

pub is_near_line-requires-clause-first : goal.is_near_line-requires-clause-first
is_near_line-requires-clause-first c = (rw c.in-Pair.is at c.requires.line).0

pub is_near_line-requires-clause-second : goal.is_near_line-requires-clause-second
is_near_line-requires-clause-second c = (rw c.in-Pair.is at c.requires.line).1

pub is_near_line-requires-clause-parts : goal.is_near_line-requires-clause-parts
is_near_line-requires-clause-parts c = rw c.items-parts.ensures.value c.items-parts.ensures.parts

pub returns-in_default : goal.returns-in_default
returns-in_default c = (
  λ test. absurd (false≢true test),
  λ shown. absurd (unpaired-none c.args.spacing (bare c.args.cut.now.pieces) c.args.piece c.args.next c.args.line.now c.in_default.not-Pair shown),
)

pub returns-then-not-is_near_line : goal.returns-then-not-is_near_line
returns-then-not-is_near_line c = (
  λ test. absurd (false≢true test),
  λ shown. (
      let pair = pair-shown c.args.spacing (bare c.args.cut.now.pieces) c.args.piece c.args.next c.args.line.now c.in-Pair.from c.in-Pair.to c.in-Pair.is shown in
      c.if-not-is_near_line.ensures.1 (rw (c.items-parts.ensures.value, c.parts.ensures.value) pair)
      ),
)

pub returns : goal.returns
returns c =
    let near = rw (c.items-parts.ensures.value, c.parts.ensures.value) at (c.is_near_line.ensures.0 c.if-not-is_near_line.false) in
    rw c.owner-owner.ensures.value
    (near-shown c.args.spacing (bare c.args.cut.now.pieces) c.args.piece c.args.next c.args.line.now c.in-Pair.from c.in-Pair.to c.in-Pair.is near)
