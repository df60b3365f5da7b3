use Rattle.std.proofs.Common.{◌≡◌, ◌∙◌, ◌+◌, ◌<◌, ◌≤◌, true, refl, sym, ap, subst, rules, length, get_or, map, arith, vec_len}
use Rattle.std.proofs.lemmas.List.{length-map}
use Rattle.dpl_deal.specs.Rule.{after_grip, after_seal, cut_off}
use Rattle.dpl_deal.specs.Grips.{grip_deque, grip_view}
use Rattle.dpl_deal.specs.Hands.{EachAt, IsArmed, IsOut, deques_of, marks_of, own_deque, own_view, row_of, rows_of, views_of}
use Rattle.dpl_deal.proofs.Takings.{map_put}
use Rattle.dpl_deal.proofs.Arming.{armed_more, armed_row, marked_all, marked_more, none_out, out_more, out_sealed, parts_left}
use Rattle.dpl_deal.proofs.dealing.arm_all.Goals as goal

pub loop-me-init : goal.loop-me-init
loop-me-init c = (refl, none_out _ _ _ c.requires.views, refl, λ j d lt. absurd (omega arith), λ j d lt. absurd (omega arith))

pub returns-clause-marks : goal.returns-clause-marks
returns-clause-marks c =
    let all = c.loop-me-test.false in
    let len = c.len-me-end.ensures in
    let same = c.loop-me.invariant.0 in
    let long = c.loop-me.hands.ok.0 in
    let le : length c.loop-me.hands.items ≤ c.loop-me.me = omega (arith, all, len, same, long) in
    marked_all c.loop-me.hands.items c.loop-me.me le c.loop-me.invariant.4

pub grip_all-requires : goal.grip_all-requires
grip_all-requires c = record { parts = parts_left _ _ _ (views_of c.loop-me.hands.items) (search rules) c.loop-me.invariant.1 }

pub loop-me-preserved : goal.loop-me-preserved
loop-me-preserved c =
    let few : c.loop-me.me < 64 = search rules in
    let e : views_of c.grip_all.new.hands.items ≡ map after_grip (views_of c.loop-me.hands.items) = c.in_ok-grips.ensures.views in
    let d : deques_of c.grip_all.new.hands.items ≡ deques_of c.loop-me.hands.items = c.in_ok-grips.ensures.deques in
    let r : rows_of c.grip_all.new.hands.items ≡ rows_of c.loop-me.hands.items = c.in_ok-grips.ensures.rows in
    let mm : marks_of c.grip_all.new.hands.items ≡ marks_of c.loop-me.hands.items = c.in_ok-grips.ensures.marks in
    let mk : c.arm.new.self.marked ≡ true = c.in_ok-arm.ensures.marked in
    let ds = ap length d in
    let a : vec_len c.grip_all.new.hands ≡ length c.grip_all.new.hands.items = search rules in
    let b : vec_len c.loop-me.hands ≡ length c.loop-me.hands.items = search rules in
    let gd : map grip_deque c.in_ok-grips.grips.items ≡ deques_of c.loop-me.hands.items = c.in_ok-grips.ensures.grips.0 in
    let gv : map grip_view c.in_ok-grips.grips.items ≡ map cut_off (views_of c.loop-me.hands.items) = c.in_ok-grips.ensures.grips.1 in
    let test = c.loop-me-test.true in
    let len = c.len-me-end.ensures in
    let lt0 : c.loop-me.me < vec_len c.args.hands.now = omega (arith, test, len) in
    let lt : c.loop-me.me < length c.grip_all.new.hands.items = omega (
      arith,
      lt0,
      a,
      b,
      ds,
      c.loop-me.invariant.0,
      length-map c.grip_all.new.hands.items own_deque,
      length-map c.loop-me.hands.items own_deque,
    ) in
    let is : c.index_mut.result.now ≡ get_or c.grip_all.new.hands.items c.loop-me.me c.index_mut.result.now = c.index_mut.ensures.value in
    let w : own_view c.arm.new.self ≡ after_seal (own_view c.index_mut.result.now) = c.in_ok-arm.ensures.view in
    let q : own_deque c.arm.new.self ≡ own_deque c.index_mut.result.now = c.in_ok-arm.ensures.deque in
    let g : c.arm.new.self.grips ≡ c.in_ok-grips.grips = c.in_ok-arm.ensures.grips in
    let row = armed_row (deques_of c.args.hands.now.items) c.loop-me.me c.args.tiles (vec_len c.args.hands.now) c.in_ok-grips.grips.items
    (views_of c.loop-me.hands.items) (gd ∙ c.loop-me.invariant.2) gv c.loop-me.invariant.1 in (
      omega (arith, a, b, ds, c.loop-me.invariant.0, length-map c.grip_all.new.hands.items own_deque, length-map c.loop-me.hands.items own_deque),
      out_sealed (c.loop-me.me + 1) c.args.tiles (vec_len c.args.hands.now) c.grip_all.new.hands.items c.loop-me.me c.index_mut.result.now c.arm.new.self lt is
          (out_more c.loop-me.me c.args.tiles (vec_len c.args.hands.now) (views_of c.loop-me.hands.items) (views_of c.grip_all.new.hands.items) few e c.loop-me.invariant.1) w,
      map_put own_deque c.grip_all.new.hands.items c.loop-me.me c.index_mut.result.now c.arm.new.self lt is q ∙ d ∙ c.loop-me.invariant.2,
      armed_more (deques_of c.args.hands.now.items) c.args.tiles c.grip_all.new.hands.items c.loop-me.me c.arm.new.self (rows_of c.loop-me.hands.items) lt r c.loop-me.invariant.3
          (subst (λ v. IsArmed (deques_of c.args.hands.now.items) c.args.tiles v.items) (sym g) row),
      marked_more c.grip_all.new.hands.items c.loop-me.me c.arm.new.self (marks_of c.loop-me.hands.items) lt mm c.loop-me.invariant.4 mk,
    )

pub index_mut-requires : goal.index_mut-requires
index_mut-requires c =
    let test = c.loop-me-test.true in
    let len = c.len-me-end.ensures in
    let same = c.loop-me.invariant.0 in
    let long = c.loop-me.hands.ok.0 in
    let now = c.grip_all.new.hands.ok.0 in
    omega (
      arith,
      test,
      len,
      same,
      long,
      now,
      ap length c.in_ok-grips.ensures.deques,
      length-map c.grip_all.new.hands.items own_deque,
      length-map c.loop-me.hands.items own_deque,
    )

pub returns-clause-len : goal.returns-clause-len
returns-clause-len c = c.loop-me.invariant.0

pub returns-clause-views : goal.returns-clause-views
returns-clause-views c =
    let all = c.loop-me-test.false in
    let end = c.loop-me.auto.me-end in
    let len = c.len-me-end.ensures in
    let whole : c.loop-me.me ≡ vec_len c.args.hands.now = omega (arith, all, end, len) in
    subst (λ k. EachAt (IsOut k c.args.tiles (vec_len c.args.hands.now)) (views_of c.loop-me.hands.items)) whole c.loop-me.invariant.1

pub returns-clause-hands : goal.returns-clause-hands
returns-clause-hands c = λ k d l.
    let all = c.loop-me-test.false in
    let len = c.len-me-end.ensures in
    let same = c.loop-me.invariant.0 in
    let long = c.loop-me.hands.ok.0 in
    subst (λ ds. IsArmed ds c.args.tiles (get_or (rows_of c.loop-me.hands.items) k d)) (sym c.loop-me.invariant.2)
    (c.loop-me.invariant.3 k d (omega (arith, l, all, len, same, long, length-map c.loop-me.hands.items row_of)))
