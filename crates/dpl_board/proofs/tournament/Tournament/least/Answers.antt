use Rattle.std.proofs.Common.{◌≡◌, ◌<◌, ◌∙◌, inl, inr, arith}
use Rattle.std.proofs.lemmas.Bool.{cases_lt}
use Rattle.std.proofs.lemmas.List.{get_or_default}
use Rattle.std.specs.Prelude.{None}
use Rattle.dpl_board.specs.Tournaments.{node_in}
use Rattle.dpl_board.proofs.Tournaments.{least-leaf}
use Rattle.dpl_board.proofs.tournament.Tournament.least.Goals as goal

pub returns : goal.returns
returns c =
    let t = c.args.self.now in
    let some : 0 < t.leaves = elim (cases_lt 0 t.leaves) [ inl l ↦ l | inr none ↦ absurd (c.if-self-eq0.false (omega (arith, none))) ] in
    let at : c.index.result.now ≡ node_in t.nodes.items 1 = c.index.ensures
    ∙ get_or_default t.nodes.items 1 c.index.result.now None (let l = c.requires.len in omega (arith, l, some)) in
    rw at (least-leaf t c.requires some)
