use Rattle.std.proofs.Common.{◌≡◌, ◌∙◌, ℕ, ap, arith, get_or, sym}
use Rattle.std.proofs.lemmas.Result.{IfOk-from_err}
use Rattle.std.proofs.lemmas.List.{get_or_default}
use Rattle.dpl_stars.specs.declared.joined.Joined.TheVariants.{Odd}
use Rattle.dpl_board.specs.Blocks.{IsHalved, first_in, middle_in}
use Rattle.dpl_board.specs.Starts.{blocks_of}
use Rattle.dpl_board.proofs.Noting.{halved-first, halved-size, middle-within}
use Rattle.dpl_board.proofs.Readying.{keeps-halves, to-halved}
use Rattle.dpl_board.proofs.blocks.Blocks.halves.Goals as goal

pub first_of-requires : goal.first_of-requires
first_of-requires c =
    let b = c.self.inside in
    (halved-size (blocks_of b.kept.starts.items) c.self.invariant.blocks (c.args.k, c.args.i)
    (to-halved b.posts.tiles b.posts.history.items (blocks_of b.kept.starts.items) b.kept.sums.items (c.args.k, c.args.i) (rw c.self.view_is c.requires))).1

pub index-requires : goal.index-requires
index-requires c =
    let b = c.self.inside in
    let halved : IsHalved (blocks_of b.kept.starts.items) (c.args.k, c.args.i) =
    to-halved b.posts.tiles b.posts.history.items (blocks_of b.kept.starts.items) b.kept.sums.items (c.args.k, c.args.i) (rw c.self.view_is c.requires) in
    let f = halved-first (blocks_of b.kept.starts.items) c.self.invariant.blocks (c.args.k, c.args.i) halved in
    let m = middle-within (blocks_of b.kept.starts.items) b.posts.tiles (c.args.k, c.args.i) c.self.invariant.within halved in
    let e = c.first_of.ensures in
    let s = c.self.invariant.sums in
    omega (arith, f, m, e, s)

pub middle_of-requires : goal.middle_of-requires
middle_of-requires c =
    let b = c.self.inside in
    halved-size (blocks_of b.kept.starts.items) c.self.invariant.blocks (c.args.k, c.args.i)
    (to-halved b.posts.tiles b.posts.history.items (blocks_of b.kept.starts.items) b.kept.sums.items (c.args.k, c.args.i) (rw c.self.view_is c.requires))

pub index-requires-2 : goal.index-requires-2
index-requires-2 c =
    let b = c.self.inside in
    let halved : IsHalved (blocks_of b.kept.starts.items) (c.args.k, c.args.i) =
    to-halved b.posts.tiles b.posts.history.items (blocks_of b.kept.starts.items) b.kept.sums.items (c.args.k, c.args.i) (rw c.self.view_is c.requires) in
    let m = middle-within (blocks_of b.kept.starts.items) b.posts.tiles (c.args.k, c.args.i) c.self.invariant.within halved in
    let e = c.middle_of.ensures in
    let s = c.self.invariant.sums in
    omega (arith, m, e, s)

pub returns : goal.returns
returns c =
    let b = c.self.inside in
    let S = b.kept.sums.items in
    let block : ℕ × ℕ = (c.args.k, c.args.i) in
    let halved : IsHalved (blocks_of b.kept.starts.items) block = to-halved b.posts.tiles b.posts.history.items (blocks_of b.kept.starts.items) S block (rw c.self.view_is c.requires) in
    let f = halved-first (blocks_of b.kept.starts.items) c.self.invariant.blocks block halved in
    let m = middle-within (blocks_of b.kept.starts.items) b.posts.tiles block c.self.invariant.within halved in
    let s = c.self.invariant.sums in
    let left : get_or S (first_in block) Odd ≡ c.in_ok-left.left =
    get_or_default S (first_in block) Odd c.index.result.now (omega (arith, f, m, s))
    ∙ (ap (λ (n : ℕ). get_or S n c.index.result.now) (sym c.first_of.ensures) ∙ (sym c.index.ensures ∙ sym c.in_ok-left.ensures)) in
    let right : get_or S (middle_in block) Odd ≡ c.in_ok-right.right =
    get_or_default S (middle_in block) Odd c.index-2.result.now (omega (arith, m, s))
    ∙ (ap (λ (n : ℕ). get_or S n c.index-2.result.now) (sym c.middle_of.ensures) ∙ (sym c.index-2.ensures ∙ sym c.in_ok-right.ensures)) in
    rw (← c.self.view_is) (keeps-halves b.posts.tiles b.posts.history.items (blocks_of b.kept.starts.items) S block c.in_ok-left.left c.in_ok-right.right halved left right)

pub returns-in_err-left : goal.returns-in_err-left
returns-in_err-left c = IfOk-from_err _ _ c.from_residual.ensures.0

pub returns-in_err-right : goal.returns-in_err-right
returns-in_err-right c = IfOk-from_err _ _ c.from_residual-in_err-right.ensures.0
