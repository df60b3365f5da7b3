use Rattle.std.proofs.Common.{◌≡◌, ◌+◌, ◌*◌, ◌^◌, ◌<◌, arith, refl, rules, subst, sym}
use Rattle.std.specs.Prelude.{Some}
use Rattle.atomic_table.specs.Table.{keeps}
use Rattle.dpl_turn.specs.Rule.{MayFollow, entry_in}
use Rattle.dpl_turn.proofs.Steps.{entry_back, names}
use Rattle.dpl_turn.proofs.board.Board.name.Goals as goal

pub store-requires : goal.store-requires
store-requires g c =
    let v = c.args.seat.now.me.0 in
    let n = c.from.result * 4294967296 + c.from-2.result in
    let w : c.from.result ≡ c.args.worker = search rules in
    let t : c.from-2.result ≡ c.args.tile = search rules in
    let fits : c.args.tile < 2 ^ 32 = search rules in
    let back = entry_back n c.args.worker c.args.tile (omega (arith, w, t)) fits in
    let may = subst (MayFollow v.sheet v.workers v.found) (sym back) c.requires.may in (
      c.requires.table,
      (let two = c.args.self.now.sized.0 in omega arith),
      λ s h len at fits. (
        record v { named = Some (entry_in n) },
        keeps,
        tt,
        names _ _ c.args.seat.now.id v (entry_in n) n s c.args.seat.now.me.1 h at c.requires.turn.0 c.requires.turn.1 may,
        refl,
      ),
    )
