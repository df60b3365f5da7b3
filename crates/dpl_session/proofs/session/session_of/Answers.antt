use Rattle.std.proofs.Common.{subst, refl}
use Rattle.std.specs.Prelude.{None}
use Rattle.dpl_spec_split.specs.Squares.{Covers}
use Rattle.dpl_piece.specs.View.{cut_view}
use Rattle.dpl_session.specs.Kept.{IsFresh, IsFreshIn}
use Rattle.dpl_session.proofs.Standing.{none_marked, owners_few, piece_square, standing, whole_pieces}
use Rattle.dpl_session.specs.Tiles.{TookFew}
use Rattle.dpl_session.proofs.Gathered.{took_nothing, took_other}
use Rattle.dpl_session.proofs.Sides.{one_side}
use Rattle.dpl_session.proofs.session.session_of.Goals as goal

pub settle-requires-clause-whole : goal.settle-requires-clause-whole
settle-requires-clause-whole g c =
    let (features, many, is) = c.in_ok-cut.ensures None (none_marked _ c.empty-unmarked.ensures) in
    let pieces = c.in_ok-cut.cut.pieces in
    whole_pieces c.args.spacing c.args.overlap c.args.layer (cut_view features pieces) is

pub settle-requires-clause-owners : goal.settle-requires-clause-owners
settle-requires-clause-owners g c =
    let (features, many, is) = c.in_ok-cut.ensures None (none_marked _ c.empty-unmarked.ensures) in
    let pieces = c.in_ok-cut.cut.pieces in
    owners_few c.args.spacing c.args.overlap c.args.layer (cut_view features pieces) c.in_ok-cut.cut.features is many

pub settle-requires-clause-cells : goal.settle-requires-clause-cells
settle-requires-clause-cells g c =
    let (features, many, is) = c.in_ok-cut.ensures None (none_marked _ c.empty-unmarked.ensures) in
    let pieces = c.in_ok-cut.cut.pieces in
    (c.args.layer, c.in_ok-cells.ensures.cells, piece_square c.args.spacing c.args.overlap c.args.layer (cut_view features pieces) is)

pub returns-in_err-cut-clause-steps : goal.returns-in_err-cut-clause-steps
returns-in_err-cut-clause-steps g c = λ side is_side. took_nothing _ c.args.steps.now c.args.steps.now refl

pub returns-in_err-cells-clause-steps : goal.returns-in_err-cells-clause-steps
returns-in_err-cells-clause-steps g c = λ side is_side. took_nothing _ c.args.steps.now c.args.steps.now refl

pub returns-in_err-settled-clause-steps : goal.returns-in_err-settled-clause-steps
returns-in_err-settled-clause-steps g c = λ side is_side. (
    let (features, many, is) = c.in_ok-cut.ensures None (none_marked _ c.empty-unmarked.ensures) in
    let pieces = c.in_ok-cut.cut.pieces in
    let same = one_side (Covers c.args.layer) c.args.tile c.in_ok-cells.cells.side side c.in_ok-cells.ensures.side is_side in
    subst (λ n. TookFew (IsFreshIn c.args.spacing c.args.overlap c.args.layer c.args.old.now n) c.args.steps.now c.settle.new.steps) same
    (took_other (IsFresh c.args.spacing.rule c.args.old.now c.in_ok-cells.cells.side pieces.parts pieces.owners)
    (IsFreshIn c.args.spacing c.args.overlap c.args.layer c.args.old.now c.in_ok-cells.cells.side) c.args.steps.now c.settle.new.steps
    (λ cell fresh. record { cut = cut_view features pieces; of = is; fresh = fresh }) c.in_err-settled.ensures.steps))

pub invariant_of-result : goal.invariant_of-result
invariant_of-result g c =
    let (features, many, is) = c.in_ok-cut.ensures None (none_marked _ c.empty-unmarked.ensures) in
    let pieces = c.in_ok-cut.cut.pieces in
    let (edges, tiles) = c.in_ok-settled.ensures.tiles in
    standing c.args.layer c.args.spacing c.args.overlap c.args.tile c.in_ok-cells.cells.side features pieces c.in_ok-settled.settled.verdict c.in_ok-cells.cells.cells.items
    c.in_ok-settled.settled.tiles.items edges c.requires.corner c.requires.overlap c.requires.tile (c.in_ok-cells.ensures.side.doublings, c.in_ok-cells.ensures.side.doubled) is
    c.in_ok-cells.ensures.cells tiles c.in_ok-settled.ensures.decided

pub returns-clause-steps : goal.returns-clause-steps
returns-clause-steps g c = λ side is_side. (
    let (features, many, is) = c.in_ok-cut.ensures None (none_marked _ c.empty-unmarked.ensures) in
    let pieces = c.in_ok-cut.cut.pieces in
    let same = one_side (Covers c.args.layer) c.args.tile c.in_ok-cells.cells.side side c.in_ok-cells.ensures.side is_side in
    subst (λ n. TookFew (IsFreshIn c.args.spacing c.args.overlap c.args.layer c.args.old.now n) c.args.steps.now c.settle.new.steps) same
    (took_other (IsFresh c.args.spacing.rule c.args.old.now c.in_ok-cells.cells.side pieces.parts pieces.owners)
    (IsFreshIn c.args.spacing c.args.overlap c.args.layer c.args.old.now c.in_ok-cells.cells.side) c.args.steps.now c.settle.new.steps
    (λ cell fresh. record { cut = cut_view features pieces; of = is; fresh = fresh }) c.in_ok-settled.ensures.steps))
