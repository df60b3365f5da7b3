use Rattle.dpl_spec_split.specs.Squares.{Covers}
use Rattle.dpl_slabs.proofs.StripLaws.{adds-strip}
use Rattle.std.proofs.lemmas.Result.{IfOk-from_err}
use Rattle.dpl_slabs.proofs.strips.add_strip.Goals as goal

pub returns : goal.returns
returns g c =
    rw (c.in_ok-extend_from_slice.ensures.items, c.deref.ensures.value)
    (adds-strip (Covers c.args.strip.now) c.args.slabs.now.items c.in_ok-more.more.items c.args.strip.now c.requires.canonical
    c.requires.below (λ p h. h) c.in_ok-more.ensures.slabs c.in_ok-more.ensures.within)

pub returns-in_err-more : goal.returns-in_err-more
returns-in_err-more g c = IfOk-from_err _ _ c.from_residual.ensures.0

pub returns-in_err-extend_from_slice : goal.returns-in_err-extend_from_slice
returns-in_err-extend_from_slice g c = IfOk-from_err _ _ c.from_residual-in_err-extend_from_slice.ensures.0
