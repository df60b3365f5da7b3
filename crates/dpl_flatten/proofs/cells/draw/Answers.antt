use Rattle.std.proofs.Common.{refl}
use Rattle.dpl_spec_layout.specs.declared.ElementFault.TheVariants.{SlantedBoundary}
use Rattle.dpl_flatten.proofs.cells.draw.Goals as goal

pub draw_boundary-requires : goal.draw_boundary-requires
draw_boundary-requires c = λ slanted. c.requires SlantedBoundary (c.in-Boundary.ensures.refused SlantedBoundary (refl, slanted))

pub draw_path-requires : goal.draw_path-requires
draw_path-requires c = λ f p. c.requires f (c.in-Path.ensures.refused f p)

pub returns-in-Boundary-clause-outlines : goal.returns-in-Boundary-clause-outlines
returns-in-Boundary-clause-outlines c = rw c.in-Boundary.ensures.loops c.draw_boundary.ensures.outlines

pub returns-in-Boundary-clause-straight : goal.returns-in-Boundary-clause-straight
returns-in-Boundary-clause-straight c = rw c.in-Boundary.ensures.loops c.draw_boundary.ensures.straight

pub returns-in-Boundary-clause-within : goal.returns-in-Boundary-clause-within
returns-in-Boundary-clause-within c = rw c.in-Boundary.ensures.loops c.draw_boundary.ensures.within

pub returns-in-Path-clause-outlines : goal.returns-in-Path-clause-outlines
returns-in-Path-clause-outlines c = rw c.in-Path.ensures.loops c.draw_path.ensures.outlines

pub returns-in-Path-clause-straight : goal.returns-in-Path-clause-straight
returns-in-Path-clause-straight c = rw c.in-Path.ensures.loops c.draw_path.ensures.straight

pub returns-in-Path-clause-within : goal.returns-in-Path-clause-within
returns-in-Path-clause-within c = rw c.in-Path.ensures.loops c.draw_path.ensures.within
