use Rattle.std.specs.Prelude.{false, None}
use Rattle.dpl_law_split.proofs.Lettering.{lettered}
use Rattle.dpl_law_verdict.proofs.Painted.{plain}
use Rattle.dpl_law_verdict.proofs.Ranges.{layer-within}
use Rattle.dpl_law_verdict.proofs.Written.{cycle-cert, masks-cert, masks-within}
use Rattle.dpl_law_verdict.proofs.own_results_are_written.Goals as goal

pub returns : goal.returns
returns a = record {
  layer = layer-within;
  masks = λ marks spacing overlap layer c m ruled cornered lapped within cut are.
      (let masks = lettered false marks spacing c m (plain marks spacing c m are) in
      let (first, second) = masks-within marks spacing overlap layer c ruled cornered lapped within cut m masks in
      (first, second, masks-cert marks spacing overlap layer c ruled cornered lapped within cut m masks false None tt));
  by = λ fewer marks spacing overlap layer c m gains ruled cornered lapped within cut are told.
      (let masks = lettered fewer marks spacing c m are in
      let (first, second) = masks-within marks spacing overlap layer c ruled cornered lapped within cut m masks in
      (first, second, masks-cert marks spacing overlap layer c ruled cornered lapped within cut m masks fewer gains told));
  cycle = λ spacing overlap layer c cycle near ruled cornered lapped within cut reported each pairs. cycle-cert None spacing overlap layer c ruled cornered
      lapped within cut cycle near reported each pairs;
}
