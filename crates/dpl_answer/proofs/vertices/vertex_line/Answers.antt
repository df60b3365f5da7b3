use Rattle.std.proofs.Common.{rules}
use Rattle.dpl_answer.proofs.LineLaws.{key_within}
use Rattle.dpl_answer.proofs.vertices.vertex_line.Goals as goal

pub returns-in-Piece-clause-within : goal.returns-in-Piece-clause-within
returns-in-Piece-clause-within c = (search rules, key_within c.args.pieces.now.keys c.requires.within c.in-Piece.piece c.key.result c.key.ensures.value)
