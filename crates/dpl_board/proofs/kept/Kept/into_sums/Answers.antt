use Rattle.std.proofs.Common.{rules, ◌≡◌, ◌<◌, ◌∙◌, length, sym, arith}
use Rattle.std.specs.Prelude.{vec_len}
use Rattle.dpl_board.proofs.Gathers.{gathered-none, gathered-some}
use Rattle.dpl_board.proofs.Posters.{none-from, read-at, some-from}
use Rattle.dpl_board.proofs.kept.Kept.into_sums.Goals.{then-is_some, else-is_some}
use Rattle.dpl_board.proofs.kept.Kept.into_sums.Goals as goal

pub loop-tile-preserved : goal.loop-tile-preserved
loop-tile-preserved c =
    let S = c.args.self.starts.items in
    let J = c.args.self.sums.items in
    let t = c.loop-tile.tile in
    let l = c.loop-tile-test.true in
    let n = c.len-tile-end.ensures in
    let m : length S ≡ vec_len c.args.self.starts = search rules in
    let s : length J ≡ vec_len c.args.self.sums = search rules in
    let r = c.requires.sums in
    let within : t < length S = omega (arith, l, m, n) in
    let same : length J ≡ length S = omega (arith, m, s, r) in
    let at = read-at S t c.index.result.now within c.index.ensures in
    elim c.if-is_some.branch [
      | then-is_some w ↦
          let some = some-from c.index.result.now (sym w.if-is_some.ensures) in
          rw (w.sums-is, w.count-is) (gathered-some S J t c.loop-tile.count some.0 c.loop-tile.sums.items w.swap.new.self.items c.requires.aligned within same
          (at ∙ some.1) w.swap.ensures.by_index c.loop-tile.invariant)
      | else-is_some w ↦
          rw (w.sums-is, w.count-is) (gathered-none S J t c.loop-tile.count c.loop-tile.sums.items within
          (at ∙ none-from c.index.result.now (sym w.if-is_some.ensures)) c.loop-tile.invariant)
    ]
