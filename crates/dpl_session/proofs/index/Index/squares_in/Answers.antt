use Rattle.std.proofs.lemmas.Result.{IfOk-weaker}
use Rattle.dpl_session.proofs.Seeking.{framed}
use Rattle.dpl_session.proofs.index.Index.squares_in.Goals as goal

pub of_rects-requires : goal.of_rects-requires
of_rects-requires c = c.in_ok-found.ensures.within c.self.inside.pieces.now.parts c.self.invariant.1 c.self.invariant.0

pub returns : goal.returns
returns c = IfOk-weaker c.meet.result _ _
    (λ squares are. rw (← c.self.view_is) (framed c.args.window.now c.everywhere-whole.result c.clipped-clip.result c.self.inside.pieces.now.parts
    c.in_ok-found.found.items c.in_ok-all.all c.in_ok-frame.frame squares
    c.self.invariant.1 c.everywhere-whole.ensures.whole (c.in_ok-found.ensures.squares c.self.inside.pieces.now.parts c.self.invariant.0)
    c.in_ok-all.ensures c.in_ok-frame.ensures c.clipped-clip.ensures.squares are))
    c.meet.ensures
