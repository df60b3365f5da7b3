-- Rectangles with near squares.
use Rattle.std.proofs.Common.{ℕ, ◌≤◌, ◌⊎◌, inl, inr, arith}
use Rattle.std.specs.Prelude.{pos, ◌+ℤ◌, ◌-ℤ◌, ◌≤ℤ◌}
use Rattle.std.proofs.lemmas.Int.{ints, by_lt_z}
use Rattle.dpl_spec_split.specs.declared.Rect.{Rect}
use Rattle.dpl_spec_split.specs.declared.Spacing.{Spacing}
use Rattle.dpl_spec_split.specs.Squares.{AreNear, Has, gap}
use Rattle.dpl_spec_split.proofs.SpacingLaws.{few-below}
use Rattle.dpl_join.specs.Laws.{NearAreClose}
use Rattle.dpl_join.specs.Pairs.{AreClose}

-- as far from the slab as the rule, in its columns or in its rows
abbrev IsBeyond : ℕ → Rect → Rect → Type 0
IsBeyond rule slab r =
    (r.x1 ≤ℤ (slab.x0 -ℤ pos rule)) ⊎ (((slab.x1 +ℤ pos rule) ≤ℤ r.x0) ⊎ ((r.y1 ≤ℤ (slab.y0 -ℤ pos rule)) ⊎ ((slab.y1 +ℤ pos rule) ≤ℤ r.y0)))

close-or-beyond : (rule : ℕ) (a b : Rect) → AreClose rule a b ⊎ IsBeyond rule a b
close-or-beyond rule a b =
    by_lt_z b.x0 (a.x1 +ℤ pos rule) (λ right.
    by_lt_z a.x0 (b.x1 +ℤ pos rule) (λ left.
    by_lt_z b.y0 (a.y1 +ℤ pos rule) (λ high.
    by_lt_z a.y0 (b.y1 +ℤ pos rule) (λ low. inl (record { right = right; left = left; high = high; low = low }))
    (λ l. inr (inr (inr (inl (omega (arith, ints, l)))))))
    (λ l. inr (inr (inr (inr l)))))
    (λ l. inr (inl (omega (arith, ints, l)))))
    (λ l. inr (inr (inl l)))

beyond-far : (spacing : Spacing) (a b : Rect) → spacing.corner ≤ spacing.rule → IsBeyond spacing.rule a b → AreNear spacing (Has a) (Has b) → ⊥
beyond-far spacing a b less (inl h) (p, q, p_in, q_in, near) =
    let l = p_in.left in let m = q_in.right in let g = (few-below spacing (gap p.x q.x) (gap p.y q.y) less near).0 in omega (arith, ints, h, l, m, g)
beyond-far spacing a b less (inr (inl h)) (p, q, p_in, q_in, near) =
    let l = p_in.right in let m = q_in.left in let g = (few-below spacing (gap p.x q.x) (gap p.y q.y) less near).0 in omega (arith, ints, h, l, m, g)
beyond-far spacing a b less (inr (inr (inl h))) (p, q, p_in, q_in, near) =
    let l = p_in.low in let m = q_in.high in let g = (few-below spacing (gap p.x q.x) (gap p.y q.y) less near).1 in omega (arith, ints, h, l, m, g)
beyond-far spacing a b less (inr (inr (inr h))) (p, q, p_in, q_in, near) =
    let l = p_in.high in let m = q_in.low in let g = (few-below spacing (gap p.x q.x) (gap p.y q.y) less near).1 in omega (arith, ints, h, l, m, g)

pub near-close : NearAreClose
near-close spacing a b less near = elim (close-or-beyond spacing.rule a b) [ inl close ↦ close | inr beyond ↦ absurd (beyond-far spacing a b less beyond near) ]
