use Rattle.std.proofs.Common.{◌≡◌, ap, subst, sym, List}
use Rattle.dpl_board.specs.declared.entry.Entry.{Entry}
use Rattle.dpl_turn.specs.Rule.{StartsWith, longer}
use Rattle.dpl_turn.proofs.Meets.{longer_prefix_of}
use Rattle.dpl_turn.proofs.board.Board.rejoin.Goals as goal

pub returns-clause-prefixes : goal.returns-clause-prefixes
returns-clause-prefixes g c =
    let a = c.args.seat.now.place.me.0.known in
    let b = c.args.other.place.me.0.known in
    let h = c.meet.ensures.prefixes in
    let f = longer_prefix_of h.0 a b h.2 h.3 in
    let is : c.meet.new.seat.me.0.known ≡ longer a b = ap (λ m. m.0.known) c.meet.ensures.seat in
    (subst (λ (l : List Entry). StartsWith l a) (sym is) f.0, subst (λ (l : List Entry). StartsWith l b) (sym is) f.1)
