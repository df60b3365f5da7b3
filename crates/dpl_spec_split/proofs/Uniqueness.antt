-- The relations of a decomposition determine their answers.
use Rattle.std.proofs.Common.{◌≡◌, ℕ, ◌%◌, ◌<◌, Bool, false, List, sym, refl, ap, ◌∙◌, subst, arith}
use Rattle.std.specs.Prelude.{◌==◌}
use Rattle.std.proofs.lemmas.List.{same_lists, get_or_default}
use Rattle.dpl_spec_split.specs.declared.Spacing.{Spacing}
use Rattle.dpl_spec_split.specs.declared.Rect.{Rect}
use Rattle.dpl_spec_split.specs.declared.Zone.{Zone}
use Rattle.dpl_spec_split.specs.Squares.{Region}
use Rattle.dpl_spec_split.specs.Slabs.{Before}
use Rattle.dpl_spec_split.specs.Zones.{AreZones}
use Rattle.dpl_spec_split.specs.Graphs.{Graph, IsDistance}
use Rattle.dpl_spec_split.specs.Summary.{Row, Joined, Stars, Odd, IsStar, AreStars, IsSummary}
use Rattle.dpl_spec_split.specs.Colours.{AreRoots, AreStitches}
use Rattle.dpl_spec_split.proofs.Ordered.{same_members}
use Rattle.dpl_spec_split.proofs.SlabLaws.{Before-strict}
use Rattle.dpl_spec_split.proofs.GraphLaws.{distance-unique, root-unique}

pub zones-unique : (spacing : Spacing) (overlap : ℕ) (layer : Region) (features : List (List Rect)) (marked : Region) (zs ws : List Zone)
    → AreZones spacing overlap layer features marked zs → AreZones spacing overlap layer features marked ws → zs ≡ ws
zones-unique spacing overlap layer features marked zs ws a b =
    same_members (λ x y. Before x.rect y.rect) (λ x y l m. Before-strict x.rect y.rect l m) zs ws a.ordered b.ordered
    (λ z. (λ h. (b.exactly z).1 ((a.exactly z).0 h), λ h. (a.exactly z).1 ((b.exactly z).0 h)))

pub record SameStar (r s : ℕ) (a b : Bool) : Type 0 where
  pub root : r ≡ s
  pub odd : a ≡ b

pub star-unique : (joined : Graph) (v r s : ℕ) (a b : Bool) → IsStar joined v r a → IsStar joined v s b → SameStar r s a b
star-unique joined v r s a b (root, m, m_is, a_is) (other, n, n_is, b_is) =
    let same : r ≡ s = root-unique joined v r s root other in
    let d : IsDistance joined r v n = subst (λ q. IsDistance joined q v n) (sym same) n_is in
    let e : m ≡ n = distance-unique joined r v m n m_is d in
    record { root = same; odd = a_is ∙ (ap (λ k. k % 2 == 1) e ∙ sym b_is) }

pub stars-unique : (joined : Graph) (rs ss : List Row) → AreStars joined rs → AreStars joined ss → rs ≡ ss
stars-unique joined rs ss a b =
    same_members (λ x y. x.vertex < y.vertex) (λ x y l m. omega arith) rs ss a.ordered b.ordered
    (λ r. (λ h. (b.exactly r).1 ((a.exactly r).0 h), λ h. (a.exactly r).1 ((b.exactly r).0 h)))

pub summary-unique : (joined : Graph) (j k : Joined) → IsSummary joined j → IsSummary joined k → j ≡ k
summary-unique joined (Stars rs) (Stars ss) a b = ap Stars (stars-unique joined rs ss a b)
summary-unique joined (Stars rs) Odd a b = absurd (a.even b)
summary-unique joined Odd (Stars ss) a b = absurd (b.even a)
summary-unique joined Odd Odd a b = refl

pub roots-unique : (joined : Graph) (n : ℕ) (rs ss : List ℕ) (os qs : List Bool) → AreRoots joined n rs os → AreRoots joined n ss qs → (rs ≡ ss) × (os ≡ qs)
roots-unique joined n rs ss os qs p q = (
  same_lists rs ss (p.lengths.0 ∙ sym q.lengths.0) (λ k d l.
      (let k_in : k < n = omega (arith, l, p.lengths.0) in
      let one = star-unique joined k _ _ _ _ (p.stars k k_in) (q.stars k k_in) in
      get_or_default rs k d 0 l ∙ (one.root ∙ get_or_default ss k 0 d (omega (arith, k_in, q.lengths.0))))),
  same_lists os qs (p.lengths.1 ∙ sym q.lengths.1) (λ k d l.
      (let k_in : k < n = omega (arith, l, p.lengths.1) in
      let one = star-unique joined k _ _ _ _ (p.stars k k_in) (q.stars k k_in) in
      get_or_default os k d false l ∙ (one.odd ∙ get_or_default qs k false d (omega (arith, k_in, q.lengths.1))))),
)

pub stitches-unique : (sides : List (ℕ × ℕ)) (colours : List Bool) (xs ys : List ℕ) → AreStitches sides colours xs → AreStitches sides colours ys → xs ≡ ys
stitches-unique sides colours xs ys a b =
    same_members (λ i j. i < j) (λ i j l m. omega arith) xs ys a.ordered b.ordered
    (λ r. (λ h. (b.exactly r).1 ((a.exactly r).0 h), λ h. (a.exactly r).1 ((b.exactly r).0 h)))
