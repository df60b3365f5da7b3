use Rattle.std.proofs.Common.{rules, ◌≡◌, ◌<◌, ◌∙◌, ◌/◌, ◌^◌, ◌++◌, ◌∷◌, [], List, ℕ, None, length, get_or, arith, sym, ap, Bool, false, true}
use Rattle.std.specs.Prelude.{Option, vec_len}
use Rattle.std.proofs.lemmas.List.{get_or_default}
use Rattle.dpl_board.proofs.Tables.{few-before, next-none, next-some, start-size}
use Rattle.dpl_board.proofs.kept.Kept.list_blocks.Goals.{in-Some+else-is_err, in_default}
use Rattle.dpl_board.proofs.kept.Kept.list_blocks.Goals as goal

read-at : (starts table : List (Option ℕ)) (t : ℕ) (x : Option ℕ) → starts ≡ table → t < length table → x ≡ get_or starts t x → x ≡ get_or table t None
read-at starts table t x same within is = is ∙ (ap (λ (l : List (Option ℕ)). get_or l t x) same ∙ get_or_default table t x None within)

not-both : {b : Bool} → b ≡ false → b ≡ true → ⊥
not-both is_not is = cc

pub overflow_shr-tile : goal.overflow_shr-tile
overflow_shr-tile c =
    let S = c.args.self.now.starts.items in
    let l = c.loop-tile-test.true in
    let n = c.len-tile-end.ensures in
    let m : length S ≡ vec_len c.args.self.now.starts = search rules in
    let at = read-at c.loop-tile.self.starts.items S c.loop-tile.tile c.index.result.now (ap (λ v. v.items) c.loop-tile.invariant.2) (omega (arith, l, m, n)) c.index.ensures in
    let s = start-size S c.loop-tile.tile c.in-Some.k c.requires.blocks (sym at ∙ c.in-Some.is) in
    omega (arith, s)

pub overflow_cast-tile : goal.overflow_cast-tile
overflow_cast-tile c =
    let S = c.args.self.now.starts.items in
    let l = c.loop-tile-test.true in
    let n = c.len-tile-end.ensures in
    let m : length S ≡ vec_len c.args.self.now.starts = search rules in
    let at = read-at c.loop-tile.self.starts.items S c.loop-tile.tile c.index.result.now (ap (λ v. v.items) c.loop-tile.invariant.2) (omega (arith, l, m, n)) c.index.ensures in
    let s = start-size S c.loop-tile.tile c.in-Some.k c.requires.blocks (sym at ∙ c.in-Some.is) in
    omega (arith, s)

pub unreachable-requires : goal.unreachable-requires
unreachable-requires c =
    let S = c.args.self.now.starts.items in
    let l = c.loop-tile-test.true in
    let n = c.len-tile-end.ensures in
    let m : length S ≡ vec_len c.args.self.now.starts = search rules in
    let few = few-before S c.loop-tile.tile (omega (arith, l, m, n)) in
    let len : length c.loop-tile.self.list.items ≡ vec_len c.loop-tile.self.list = search rules in
    let items = ap length c.loop-tile.invariant.0 in
    let room = c.loop-tile.invariant.1 in
    let s = c.push.ensures.succeeds (omega (arith, l, m, n, few, len, items, room)) in
    not-both c.if-is_err.ensures.negation s

pub loop-tile-preserved : goal.loop-tile-preserved
loop-tile-preserved c =
    let S = c.args.self.now.starts.items in
    let t = c.loop-tile.tile in
    let l = c.loop-tile-test.true in
    let n = c.len-tile-end.ensures in
    let m : length S ≡ vec_len c.args.self.now.starts = search rules in
    let within : t < length S = omega (arith, l, m, n) in
    let at = read-at c.loop-tile.self.starts.items S t c.index.result.now (ap (λ v. v.items) c.loop-tile.invariant.2) within c.index.ensures in
    let old = c.loop-tile.invariant in
    elim c.match-index.branch [
      | in-Some+else-is_err w ↦
          let items = rw w.if-is_err.ensures.negation at w.push.ensures.items in
          let next = next-some S t w.in-Some.k within (sym at ∙ w.in-Some.is) in
          rw w.self-is (
            items ∙ (ap (λ bs. bs ++ (w.in-Some.k, t / 2 ^ w.in-Some.k) ∷ []) old.0 ∙ sym next),
            (let more = w.push.ensures.capacity in let room = old.1 in omega (arith, more, room)),
            old.2,
            old.3,
            old.4,
          )
      | in_default w ↦
          let next = next-none S t within (sym at ∙ w.in_default.is) in
          rw w.self-is (old.0 ∙ sym next, old.1, old.2, old.3, old.4)
    ]
