use Rattle.std.proofs.Common.{◌≡◌, ◌∙◌, ◌+◌, ◌++◌, ◌∷◌, [], sym, subst, rules, length, vec_len, arith, List, All, ℕ, map, append_assoc, length-append}
use Rattle.std.proofs.lemmas.Result.{IfOk-from_err}
use Rattle.dpl_deal.specs.declared.hand.Hand.{Hand}
use Rattle.dpl_deal.specs.Hands.{EachAt, IsDone, IsHandOf, all_taken}
use Rattle.dpl_pool.specs.declared.member.Member.{Member}
use Rattle.dpl_pool.specs.Seating.{board_table, histories_of, sheet_of}
use Rattle.dpl_pool.specs.Members.{Covers, Leaves}
use Rattle.dpl_pool.proofs.Members.{all_snoc, covers_more, each_mid, hands_next}
use Rattle.dpl_pool.proofs.pool.gathered.Goals as goal

pub rejoin_all-requires-clause-tables : goal.rejoin_all-requires-clause-tables
rejoin_all-requires-clause-tables g c = c.loop-member.invariant.2 ∙ c.requires.tables

pub rejoin_all-requires-clause-others : goal.rejoin_all-requires-clause-others
rejoin_all-requires-clause-others g c =
    let all : c.loop-member.yielded ++ c.in-Some.member ∷ c.next.new.self.rest.items ≡ c.args.members.items = search rules in
    let P : ℕ → Member → Type 0 = Leaves (map board_table c.args.floor.now.boards.items) (map sheet_of c.args.seats.now.items) c.args.floor.now.deal in
    let leaves = each_mid P c.loop-member.yielded c.in-Some.member c.next.new.self.rest.items (subst (EachAt P) (sym all) c.requires.members) in
    let mine = leaves c.if-member.false in
    mine.0.seats.at

pub loop-member-preserved : goal.loop-member-preserved
loop-member-preserved g c =
    let all : c.loop-member.yielded ++ c.in-Some.member ∷ c.next.new.self.rest.items ≡ c.args.members.items = search rules in
    let i = c.loop-member.invariant in
    let deal = c.args.floor.now.deal in
    let sheets = map sheet_of c.args.seats.now.items in
    let P : ℕ → Member → Type 0 = Leaves (map board_table c.args.floor.now.boards.items) sheets deal in
    let leaves = each_mid P c.loop-member.yielded c.in-Some.member c.next.new.self.rest.items (subst (EachAt P) (sym all) c.requires.members) in
    let mine = leaves c.if-member.false in
    let h = c.in-Some.member.hand in
    let later = histories_of c.rejoin_all.new.seats.items in
    let pushed : c.push.new.self.items ≡ c.loop-member.hands.items ++ h ∷ [] = search rules in
    let count : vec_len c.loop-member.hands ≡ length c.loop-member.hands.items = search rules in (
      append_assoc c.loop-member.yielded (c.in-Some.member ∷ []) c.next.new.self.rest.items ∙ all,
      (let k : vec_len c.push.new.self ≡ vec_len c.loop-member.hands + 1 = search rules in omega (arith, k, i.1, length-append c.loop-member.yielded (c.in-Some.member ∷ []))),
      c.rejoin_all.ensures.tables ∙ i.2,
      c.rejoin_all.ensures.sheets ∙ i.3,
      c.rejoin_all.ensures.workers ∙ i.4,
      subst (EachAt (IsHandOf deal)) (sym pushed) (hands_next deal c.loop-member.hands.items h (length c.loop-member.yielded) (sym count ∙ i.1) i.5 mine.0.hand),
      subst (All (λ (k : Hand). IsDone k)) (sym pushed) (all_snoc (λ (k : Hand). IsDone k) c.loop-member.hands.items h i.6 mine.1),
      subst (λ (l : List Hand). Covers sheets (all_taken l) later) (sym pushed)
          (covers_more sheets c.loop-member.hands.items h later (histories_of c.loop-member.seats.items) (histories_of c.in-Some.member.seats.items)
          c.rejoin_all.ensures.seen c.rejoin_all.ensures.told i.7 mine.0.covers),
    )

pub returns-in_err-push-clause-len : goal.returns-in_err-push-clause-len
returns-in_err-push-clause-len g c = IfOk-from_err _ _ c.from_residual.ensures.0

pub returns-in_err-push-clause-hands : goal.returns-in_err-push-clause-hands
returns-in_err-push-clause-hands g c = IfOk-from_err _ _ c.from_residual.ensures.0

pub returns-in_err-push-clause-covers : goal.returns-in_err-push-clause-covers
returns-in_err-push-clause-covers g c = IfOk-from_err _ _ c.from_residual.ensures.0
