use Rattle.std.proofs.Common.{◌≡◌, ◌+◌, ℕ, List, length, subst, sym, arith}
use Rattle.std.proofs.lemmas.Result.{IfOk-from_err}
use Rattle.dpl_crowd.specs.Crowds.{graph_in}
use Rattle.dpl_crowd.specs.Walking.{AreLevelsTo, IsBeside, IsFront, Meets}
use Rattle.dpl_crowd.proofs.LevelLaws.{all-back, front-known, front-next, levels-next}
use Rattle.dpl_crowd.proofs.levels.Walk.advance.Goals as goal

pub meet_around-requires-clause-known : goal.meet_around-requires-clause-known
meet_around-requires-clause-known c = rw (c.deref.ensures.value, c.deref_mut.ensures.value) (front-known c.args.depth c.args.self.now.levels.items c.args.self.now.front.items c.requires.front)

pub returns-clause-levels : goal.returns-clause-levels
returns-clause-levels c =
    let joined = graph_in c.args.crowd.now in
    let old : List ℕ = c.args.self.now.levels.items in
    let new : List ℕ = c.meet_around.new.levels in
    let front : List ℕ = c.args.self.now.front.items in
    let met : Meets (IsBeside joined front) (c.args.depth + 1) old new c.new-next.result.items c.meet_around.new.next.items =
    rw (c.deref.ensures.value, c.deref_mut.ensures.value) at c.in_ok-meet_around.ensures in
    let many = met.as_many in
    let new_len : length new ≡ c.args.self.now.levels.len = omega (arith, many, c.args.self.now.levels.ok.0) in
    subst (λ ls. AreLevelsTo joined 0 (length c.args.crowd.now.parts) (c.args.depth + 1) ls) (sym (all-back new old c.args.self.now.levels.len new_len))
    (levels-next joined 0 (length c.args.crowd.now.parts) c.args.depth old new front c.new-next.result.items c.meet_around.new.next.items (λ u v e. e.first) c.requires.levels
    c.requires.front met c.requires.deep)

pub returns-clause-front : goal.returns-clause-front
returns-clause-front c =
    let joined = graph_in c.args.crowd.now in
    let old : List ℕ = c.args.self.now.levels.items in
    let new : List ℕ = c.meet_around.new.levels in
    let front : List ℕ = c.args.self.now.front.items in
    let met : Meets (IsBeside joined front) (c.args.depth + 1) old new c.new-next.result.items c.meet_around.new.next.items =
    rw (c.deref.ensures.value, c.deref_mut.ensures.value) at c.in_ok-meet_around.ensures in
    let many = met.as_many in
    let new_len : length new ≡ c.args.self.now.levels.len = omega (arith, many, c.args.self.now.levels.ok.0) in
    subst (λ ls. IsFront (c.args.depth + 1) ls c.meet_around.new.next.items) (sym (all-back new old c.args.self.now.levels.len new_len))
    (front-next joined 0 (length c.args.crowd.now.parts) c.args.depth old new front c.new-next.result.items c.meet_around.new.next.items (λ u v e. e.first) c.requires.levels
    c.requires.front met c.requires.deep c.new-next.ensures.items)

pub returns-in_err-meet_around-clause-levels : goal.returns-in_err-meet_around-clause-levels
returns-in_err-meet_around-clause-levels c = IfOk-from_err _ _ c.from_residual.ensures.0

pub returns-in_err-meet_around-clause-front : goal.returns-in_err-meet_around-clause-front
returns-in_err-meet_around-clause-front c = IfOk-from_err _ _ c.from_residual.ensures.0
