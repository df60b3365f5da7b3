use Rattle.std.proofs.Common.{arith, inl, inr}
use Rattle.dpl_board.specs.Starts.{blocks_of}
use Rattle.dpl_board.proofs.Noting.{halved-size}
use Rattle.dpl_board.proofs.kept.Kept.is_ready.Goals as goal

pub returns-then-block-eq0 : goal.returns-then-block-eq0
returns-then-block-eq0 c = (
  λ h. absurd (cc),
  λ halved. absurd (
      let s = halved-size (blocks_of c.args.self.now.starts.items) c.requires.blocks c.args.block halved in
      elim c.then-block-eq0.either [
        | inl none ↦ (let a = s.0 in omega (arith, none, a))
        | inr past ↦ (let a = s.1 in let b = past.1 in omega (arith, a, b))
      ]
      ),
)
