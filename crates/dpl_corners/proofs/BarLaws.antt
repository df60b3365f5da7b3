-- The loops of bars.
use Rattle.std.proofs.Common.{◌≡◌, ℕ, inl, inr, Bool, true, false, cond, List, [], ◌∷◌, map, refl, sym, ◌∙◌, arith}
use Rattle.std.specs.Prelude.{◌↔◌}
use Rattle.std.specs.List.{Contains}
use Rattle.std.proofs.lemmas.Int.{ints}
use Rattle.dpl_spec_split.specs.declared.Pt.{Pt}
use Rattle.dpl_spec_split.specs.declared.Rect.{Rect}
use Rattle.dpl_spec_split.specs.Squares.{Has}
use Rattle.dpl_spec_split.specs.Loops.{winding, LoopCovers, IsPointWithin, ArePointsWithin}
use Rattle.dpl_spec_split.proofs.Ordered.{Contains-head, Contains-later, Contains-cases, Contains-nil}
use Rattle.dpl_corners.specs.declared.bar.Bar.{Bar}
use Rattle.dpl_corners.specs.Corners.{AreOrdered, IsSpanned, IsUpright, IsThrough, over, second, fourth, loop_round}
use Rattle.dpl_corners.proofs.CornerLaws.{four_steps, step-level, has-sum, sum-has}

-- the sum over the edges of a loop of four points, the first of which may stand once more at the end
four-summed : (p q r t : Pt) (ends : Bool) (s : Pt) → winding (p ∷ (q ∷ (r ∷ (t ∷ cond ends (p ∷ []) [])))) s ≡ four_steps p q r t s
four-summed p q r t false s = refl
four-summed p q r t true s = let none = step-level p p s refl in omega (arith, ints, none)

ordered-swap : (x y u v : _) → AreOrdered x y u v → AreOrdered y x u v
ordered-swap x y u v (inl o) = inr o
ordered-swap x y u v (inr o) = inl o

corners-cover : (p r : Pt) (u c : Bool) (b : Rect) → IsSpanned p r b → (s : Pt) → Has b s ↔ LoopCovers (loop_round (record { corner = p; opposite = r; upright = u; closed = c })) s
corners-cover p r true c b o s =
    let h : IsUpright p (over p r) r (over r p) = record { up = refl; along = refl; down = refl; back = refl } in
    let sum = four-summed p (over p r) r (over r p) c s in
    (λ has none. has-sum p (over p r) r (over r p) h s b o has (sym sum ∙ none), λ some. sum-has p (over p r) r (over r p) h s b o (λ none. some (sum ∙ none)))
corners-cover p r false c b o s =
    let h : IsUpright (over r p) r (over p r) p = record { up = refl; along = refl; down = refl; back = refl } in
    let o2 : IsSpanned (over r p) (over p r) b = record { columns = ordered-swap _ _ _ _ o.columns; rows = o.rows } in
    let sum = four-summed p (over r p) r (over p r) c s in (
      λ has none. has-sum (over r p) r (over p r) p h s b o2 has (omega (arith, ints, sum, none)),
      λ some. sum-has (over r p) r (over p r) p h s b o2 (λ none. some (omega (arith, ints, sum, none))),
    )

-- the rectangle between a bar's corners has the squares of its loop
pub bar-covers : (a : Bar) (b : Rect) → IsSpanned a.corner a.opposite b → (s : Pt) → Has b s ↔ LoopCovers (loop_round a) s
bar-covers a b o s = corners-cover a.corner a.opposite a.upright a.closed b o s

-- the loop through four points, and perhaps the first again
pub bar-of-four : (p q r t : Pt) (b : Bar) → IsThrough p q r t false b → loop_round b ≡ p ∷ (q ∷ (r ∷ (t ∷ [])))
bar-of-four p q r t b h = rw (h.next, h.last, h.first, h.far, h.ends) refl

pub bar-of-five : (p q r t : Pt) (b : Bar) → IsThrough p q r t true b → loop_round b ≡ p ∷ (q ∷ (r ∷ (t ∷ (p ∷ []))))
bar-of-five p q r t b h = rw (h.next, h.last, h.first, h.far, h.ends) refl

-- ---- how far it goes

-- what stands behind the first corner, the second and the third
abbrev past_third : Bar → List Pt
past_third a = fourth a ∷ cond a.closed (a.corner ∷ []) []

abbrev past_second : Bar → List Pt
past_second a = a.opposite ∷ past_third a

abbrev past_first : Bar → List Pt
past_first a = second a ∷ past_second a

pub corner-in : (a : Bar) → Contains (loop_round a) a.corner
corner-in a = Contains-head a.corner (past_first a)

pub opposite-in : (a : Bar) → Contains (loop_round a) a.opposite
opposite-in a = Contains-later a.corner a.opposite (past_first a) (Contains-later (second a) a.opposite (past_second a) (Contains-head a.opposite (past_third a)))

over-within : (bound : ℕ) (p r : Pt) → IsPointWithin bound p → IsPointWithin bound r → IsPointWithin bound (over p r)
over-within bound p r v w = record { column = v.column; row = w.row }

side-within : (bound : ℕ) (p r : Pt) (u : Bool) → IsPointWithin bound p → IsPointWithin bound r → IsPointWithin bound (cond u (over p r) (over r p))
side-within bound p r true v w = over-within bound p r v w
side-within bound p r false v w = over-within bound r p w v

end-within : (bound : ℕ) (p : Pt) (c : Bool) → IsPointWithin bound p → ArePointsWithin bound (cond c (p ∷ []) [])
end-within bound p true v x x_in = elim (Contains-cases p x [] x_in) [ inl e ↦ rw (← e) v | inr h ↦ absurd (Contains-nil x h) ]
end-within bound p false v x x_in = absurd (Contains-nil x x_in)

more-within : (bound : ℕ) (p : Pt) (ps : List Pt) → IsPointWithin bound p → ArePointsWithin bound ps → ArePointsWithin bound (p ∷ ps)
more-within bound p ps v w x x_in = elim (Contains-cases p x ps x_in) [ inl e ↦ rw (← e) v | inr h ↦ w x h ]

pub bar-within : (bound : ℕ) (a : Bar) → IsPointWithin bound a.corner → IsPointWithin bound a.opposite → ArePointsWithin bound (loop_round a)
bar-within bound a v w =
    more-within bound a.corner (past_first a) v
    (more-within bound (second a) (past_second a) (side-within bound a.corner a.opposite a.upright v w)
    (more-within bound a.opposite (past_third a) w
    (more-within bound (fourth a) (cond a.closed (a.corner ∷ []) []) (side-within bound a.opposite a.corner a.upright w v)
    (end-within bound a.corner a.closed v))))

-- ---- where it is taken

-- f takes each corner of the one to that of the other
pub record IsImage (f : Pt → Pt) (a b : Bar) : Type 0 where
  pub corner : b.corner ≡ f a.corner
  pub opposite : b.opposite ≡ f a.opposite
  pub next : second b ≡ f (second a)
  pub last : fourth b ≡ f (fourth a)
  pub ends : b.closed ≡ a.closed

four-mapped : (f : Pt → Pt) (p q r t : Pt) (c : Bool)
    → map f (p ∷ (q ∷ (r ∷ (t ∷ cond c (p ∷ []) [])))) ≡ f p ∷ (f q ∷ (f r ∷ (f t ∷ cond c (f p ∷ []) [])))
four-mapped f p q r t true = refl
four-mapped f p q r t false = refl

pub image-loop : (f : Pt → Pt) (a b : Bar) → IsImage f a b → map f (loop_round a) ≡ loop_round b
image-loop f a b i =
    four-mapped f a.corner (second a) a.opposite (fourth a) a.closed ∙ rw (i.next, i.last, i.corner, i.opposite, i.ends) refl
