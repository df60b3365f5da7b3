use Rattle.std.proofs.Common.{◌≡◌, inl, inr, ◌∙◌, arith}
use Rattle.std.proofs.lemmas.Bool.{cases_lt}
use Rattle.dpl_board.proofs.Posters.{posted-at, read-at, some-from}
use Rattle.dpl_board.proofs.posts.Posts.first_missing.Goals as goal

pub loop-tile-preserved : goal.loop-tile-preserved
loop-tile-preserved c = λ s l. elim (cases_lt s c.loop-tile.tile) [
  | inl before ↦ c.loop-tile.invariant s before
  | inr past ↦ (
      let here : c.loop-tile.tile ≡ s = omega (arith, l, past) in
      let some = some-from c.index.result.now c.if-is_none.ensures in
      let within = c.loop-tile-test.true in
      let at = read-at c.args.self.now.posters.items c.loop-tile.tile c.index.result.now (rw c.requires.workers.len within) c.index.ensures in
      rw (← here) (posted-at c.args.self.now.tiles c.args.self.now.posters.items c.args.self.now.history.items c.requires
      c.loop-tile.tile some.0 within (at ∙ some.1))
      )
]
