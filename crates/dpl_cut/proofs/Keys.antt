-- The keys of a cut's pieces.
use Rattle.std.proofs.Common.{◌≤◌, inl, inr, List, [], ◌∷◌, subst, refl, arith, ℤ, ◌≤ℤ◌, ◌<ℤ◌, unsigned_abs}
use Rattle.std.specs.List.{All, AllZip, Contains}
use Rattle.std.proofs.lemmas.Int.{ints}
use Rattle.dpl_spec_split.specs.declared.Pt.{Pt}
use Rattle.dpl_spec_split.specs.declared.Rect.{Rect}
use Rattle.dpl_spec_split.specs.declared.Zone.{Zone}
use Rattle.dpl_spec_split.specs.Squares.{Covers, Has, IsLeast}
use Rattle.dpl_spec_split.specs.Loops.{AreRectsWithin, IsRectWithin, farthest}
use Rattle.dpl_spec_split.specs.Components.{AreComponents}
use Rattle.dpl_spec_split.specs.Pieces.{without}
use Rattle.dpl_spec_split.proofs.Ordered.{Contains-cases, Contains-later, Contains-nil}
use Rattle.dpl_piece.specs.Cutting.{AreTheirPieces, CutPieces}
use Rattle.dpl_cert.specs.Grammar.{IsCoordinate, IsPoint}

-- a later list's element beside some element of the first
pub beside : {A B : Type 0} (R : A → B → Type 0) (xs : List A) (ys : List B) (y : B) → AllZip R xs ys → Contains ys y → (x : A) × Contains xs x × R x y
beside R [] [] y z c = absurd (Contains-nil y c)
beside R [] (b ∷ ys) y z c = absurd z
beside R (a ∷ xs) [] y z c = absurd z
beside {A} {B} R (a ∷ xs) (b ∷ ys) y z c = elim (Contains-cases b y ys c) [
  | inl e ↦ (a, (0, omega arith, refl), subst (λ (v : B). R a v) e z.0)
  | inr later ↦ let more = beside R xs ys y z.1 later in (more.0, Contains-later a more.0 xs more.1, more.2)
]

-- a coordinate between two others
coordinate : (low high z : ℤ) → unsigned_abs low ≤ farthest → unsigned_abs high ≤ farthest → low ≤ℤ z → z <ℤ high → IsCoordinate z
coordinate low high z a b c d = (omega (arith, ints), omega (arith, ints))

square_within : (r : Rect) (p : Pt) → IsRectWithin farthest r → Has r p → IsPoint p
square_within r p w h = record { x = coordinate r.x0 r.x1 p.x w.left w.right h.left h.right; y = coordinate r.y0 r.y1 p.y w.low w.high h.low h.high }

covered_within : (part : List Rect) (p : Pt) → AreRectsWithin farthest part → Covers part p → IsPoint p
covered_within part p w c = let (k, r, k_in, k_is, has) = c in square_within r p (w r (k, k_in, k_is)) has

-- the keys of pieces lie in the layer's range
pub keys_within : (layer : List Rect) (features : List (List Rect)) (zones : List Zone) (c : CutPieces) (p : Pt)
    → AreComponents (Covers layer) features → All (AreRectsWithin farthest) features → AreTheirPieces features zones c → Contains c.keys p → IsPoint p
keys_within layer features zones c p components within pieces key =
    let are = pieces layer components in
    let (piece, inside, least) = beside (λ piece key. IsLeast (Covers piece) key) c.parts c.keys p are.keyed key in
    let left : without (Covers layer) zones p = (are.components.together p).0 (inside.0, piece, inside.1, inside.2, least.inside) in
    let (k, part, k_in, k_is, covered) = (components.together p).1 left.0 in
    covered_within part p (subst (λ (x : List Rect). AreRectsWithin farthest x) k_is (within k part k_in)) covered
