use Rattle.dpl_slabs.proofs.StripLaws.{rise-drop, rise-take}
use Rattle.dpl_slabs.proofs.ahead.shares.Goals as goal

pub strip_length-start-requires-clause-rise : goal.strip_length-start-requires-clause-rise
strip_length-start-requires-clause-rise c = rise-take _ _ (rise-drop _ c.args.rects.now c.requires.rise)
