-- The conflicts of many layers.
use Rattle.std.specs.Prelude.{◌<◌, ℕ, [], None}
use Rattle.dpl_spec_split.specs.declared.Spacing.{Spacing}
use Rattle.dpl_tile.specs.Plans.{IsPlan}
use Rattle.dpl_board.specs.Boards.{AreAllPosted, Board, Stands}
use Rattle.dpl_board.specs.Sheets.{Sheet}
use Rattle.dpl_cut.specs.declared.BareLayerCut.{BareLayerCut}
use Rattle.dpl_answer.specs.Anchors.{AreMarkEdges}
use Rattle.dpl_answer.specs.Sheets.{sheet_of}
use Rattle.dpl_answer.specs.View.{AreConflictsOf}
use Rattle.dpl_answer.specs.declared.conflicts.Conflicts.{Conflicts}
use Rattle.dpl_answer.specs.declared.many.Start.{Start}
use Rattle.dpl_answer.specs.declared.many.Start.TheVariants.{Known, Tiled}

-- the conflicts of the pieces of a cut layer, without marks
abbrev pub AreConflictsOfCut : Spacing → BareLayerCut → Conflicts → Type 0
AreConflictsOfCut spacing cut conflicts = AreConflictsOf None spacing cut.pieces.parts cut.pieces.owners conflicts

-- the conflicts of a cut layer, or a plan of its pieces for some side, without marks
abbrev pub IsStartOf : Spacing → BareLayerCut → Start → Type 0
IsStartOf spacing cut (Known conflicts) = AreConflictsOfCut spacing cut conflicts
IsStartOf spacing cut (Tiled job) =
    ((side : ℕ) × (0 < side) × IsPlan cut.pieces.parts cut.pieces.owners spacing side job.plan) × AreMarkEdges None cut.pieces.parts job.marked

-- the tiles that are left to workers, with their edges
abbrev pub tiles_left : Start → Sheet
tiles_left (Known conflicts) = []
tiles_left (Tiled job) = sheet_of job

-- a board on which all tiles stand that were left
abbrev pub IsToldBy : Start → Board → Type 0
IsToldBy start board = Stands (tiles_left start) board × AreAllPosted board

-- the conflicts of whatever cut layer has this start
abbrev pub AreConflictsFrom : Start → Conflicts → Type 0
AreConflictsFrom start conflicts = (spacing : Spacing) (cut : BareLayerCut) → IsStartOf spacing cut start → AreConflictsOfCut spacing cut conflicts
