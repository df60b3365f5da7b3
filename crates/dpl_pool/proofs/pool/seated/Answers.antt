use Rattle.std.proofs.Common.{◌≡◌, ◌∙◌, ◌+◌, ◌<◌, ◌≤◌, ◌++◌, ◌∷◌, [], refl, sym, subst, rules, length, vec_len, arith, false, All, ℕ, map, get_or, append_assoc, length-append}
use Rattle.std.proofs.lemmas.Result.{IfOk-from_err}
use Rattle.dpl_deal.specs.declared.hand.Hand.{Hand}
use Rattle.dpl_deal.specs.Hands.{EachAt, IsHandOf, taken}
use Rattle.dpl_turn.specs.declared.seat.Seat.{Seat}
use Rattle.dpl_turn.specs.Seats.{knows}
use Rattle.dpl_pool.specs.declared.member.Member.{Member}
use Rattle.dpl_pool.specs.Seating.{AreSeats, as_newcomer, board_table, sheet_of, workers_of}
use Rattle.dpl_pool.specs.Members.{IsMember}
use Rattle.dpl_pool.proofs.Members.{all_mid, each_mid, members_next}
use Rattle.dpl_pool.proofs.Seating.{all_through, newcomers, next_place}
use Rattle.dpl_pool.proofs.pool.seated.Goals as goal

pub split_all-requires : goal.split_all-requires
split_all-requires g c = record { tables = c.loop-hand.invariant.3 ∙ c.requires.tables }

pub loop-hand-preserved : goal.loop-hand-preserved
loop-hand-preserved g c =
    let all : c.loop-hand.yielded ++ c.in-Some.hand ∷ c.next.new.self.rest.items ≡ c.args.hands.items = search rules in
    let first = c.args.seats.now.items in
    let tables = map board_table c.args.boards.now.items in
    let others = c.in_ok-others.others in
    let m : Member = record { number = c.loop-hand.number; seats = others; hand = c.in-Some.hand; out_of_memory = false } in
    let pushed : c.push.new.self.items ≡ c.loop-hand.members.items ++ m ∷ [] = search rules in
    let none = all_mid (λ (h : Hand). taken h ≡ []) c.loop-hand.yielded c.in-Some.hand c.next.new.self.rest.items
    (subst (All (λ (h : Hand). taken h ≡ [])) (sym all) c.requires.hands.1) in
    let n = next_place c.args.hands.items c.loop-hand.yielded c.in-Some.hand c.next.new.self.rest.items c.loop-hand.number all c.loop-hand.invariant.1 in
    let few : vec_len c.args.hands ≡ length c.args.hands.items = search rules in
    let new : map knows others.items ≡ map as_newcomer (map knows c.loop-hand.seats.items) = c.in_ok-others.ensures.new in
    let both = newcomers others.items c.loop-hand.seats.items first new c.loop-hand.invariant.4 in
    let seats : AreSeats tables (map sheet_of first) others.items = record {
      at = c.in_ok-others.ensures.others ∙ (c.loop-hand.invariant.3 ∙ c.requires.tables);
      of = both.0;
    } in
    let below : All (λ (s : Seat). c.loop-hand.number < workers_of s) others.items =
    all_through (λ (k : ℕ). c.loop-hand.number < k) workers_of workers_of first others.items (sym both.1)
    (λ i d lt. let le : vec_len c.args.hands ≤ workers_of (get_or first i d) = c.requires.workers i d lt in omega (arith, le, n, few)) in
    let count : vec_len c.loop-hand.members ≡ length c.loop-hand.members.items = search rules in (
      append_assoc c.loop-hand.yielded (c.in-Some.hand ∷ []) c.next.new.self.rest.items ∙ all,
      omega (arith, c.loop-hand.invariant.1, length-append c.loop-hand.yielded (c.in-Some.hand ∷ [])),
      (let k : vec_len c.push.new.self ≡ vec_len c.loop-hand.members + 1 = search rules in
          omega (arith, k, c.loop-hand.invariant.2, length-append c.loop-hand.yielded (c.in-Some.hand ∷ []))),
      c.split_all.ensures.tables ∙ c.loop-hand.invariant.3,
      c.split_all.ensures.same ∙ c.loop-hand.invariant.4,
      λ deal hs. subst (EachAt (IsMember tables (map sheet_of first) deal)) (sym pushed)
          (members_next tables (map sheet_of first) deal c.loop-hand.members.items m (length c.loop-hand.yielded) (sym count ∙ c.loop-hand.invariant.2)
          (c.loop-hand.invariant.5 deal hs) seats c.loop-hand.invariant.1 below
          (each_mid (IsHandOf deal) c.loop-hand.yielded c.in-Some.hand c.next.new.self.rest.items (subst (EachAt (IsHandOf deal)) (sym all) hs)) none refl),
    )

pub returns-clause-members : goal.returns-clause-members
returns-clause-members g c = λ deal hs. c.loop-hand.invariant.5 deal hs.1

pub returns-in_err-others-clause-len : goal.returns-in_err-others-clause-len
returns-in_err-others-clause-len g c = IfOk-from_err _ _ c.from_residual.ensures.0

pub returns-in_err-others-clause-members : goal.returns-in_err-others-clause-members
returns-in_err-others-clause-members g c = IfOk-from_err _ _ c.from_residual.ensures.0

pub returns-in_err-push-clause-len : goal.returns-in_err-push-clause-len
returns-in_err-push-clause-len g c = IfOk-from_err _ _ c.from_residual-in_err-push.ensures.0

pub returns-in_err-push-clause-members : goal.returns-in_err-push-clause-members
returns-in_err-push-clause-members g c = IfOk-from_err _ _ c.from_residual-in_err-push.ensures.0
