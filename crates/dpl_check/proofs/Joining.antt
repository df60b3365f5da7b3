-- Marks by two trees, and places that are right by one of two cuts and marks.
use Rattle.std.proofs.Common.{◌≡◌, ◌↔◌, ℕ, ◌+◌, ◌%◌, Bool, true, false, List, length, get_or, Option, Some, sym, subst}
use Rattle.dpl_spec_split.specs.declared.Spacing.{Spacing}
use Rattle.dpl_spec_split.specs.declared.Pt.{Pt}
use Rattle.dpl_spec_split.specs.declared.Rect.{Rect}
use Rattle.dpl_spec_split.specs.Squares.{Covers, Has, SameSquares}
use Rattle.dpl_spec_split.specs.Marks.{Marks, asked}
use Rattle.dpl_nearest.specs.Search.{unit_of}
use Rattle.dpl_piece.specs.Cutting.{CutPieces}
use Rattle.dpl_piece.specs.View.{cut_view}
use Rattle.dpl_cert.specs.declared.cert.PlaceLine.{PlaceLine}
use Rattle.dpl_cert.specs.declared.cert.PlaceLine.TheVariants.{Piece, Anchor}
use Rattle.dpl_cert.specs.declared.cert.NearLine.{NearLine}
use Rattle.dpl_cert.specs.declared.cert.NearLine.TheVariants.{Pair, Mark, Anchors}
use Rattle.dpl_spec_verdict.specs.Conflicts.{AreJoined, IsBadPlace, IsNamed, ShowsConflict, ShowsMark, marked_against, place_at}
use Rattle.dpl_check.specs.declared.anchors.MarkTrees.{MarkTrees}
use Rattle.dpl_check.specs.Anchors.{FixTheSame, marks_of}
use Rattle.dpl_check.proofs.Windows.{unit-only, unit-self}

-- a set that has some square of one square's rectangle has the square
pub has-one : (p : Pt) (u : Rect) (set : List Rect) → u ≡ unit_of p → ((q : Pt) × Has u q × Covers set q) ↔ Covers set p
has-one p u set e = (
  λ (q, in-unit, on). subst (λ (x : Pt). Covers set x) (unit-only p q (subst (λ (w : Rect). Has w q) e in-unit)) on,
  λ on. (p, subst (λ (w : Rect). Has w p) (sym e) (unit-self p), on),
)

-- the trees of both sets fix what the sets do
pub trees-fix : (flag : Bool) (t : MarkTrees) (a b : List Rect) → flag ≡ true → SameSquares (Covers t.a) (Covers a) → SameSquares (Covers t.b) (Covers b)
    → FixTheSame (marks_of (Some t)) (asked flag a b)
trees-fix true t a b e same-a same-b = record { here = λ u. tt; there = λ u. tt; on_a = same-a; on_b = same-b }
trees-fix false t a b e same-a same-b = absurd (let no : ⊥ = cc in no)

pub same-back : (m n : Option Marks) → FixTheSame m n → FixTheSame n m
same-back m n same = record { here = same.there; there = same.here; on_a = λ p. ((same.on_a p).1, (same.on_a p).0); on_b = λ p. ((same.on_b p).1, (same.on_b p).0) }

module _ (m n : Option Marks) (same : FixTheSame m n) (spacing : Spacing) (f g : List (List Rect)) (pieces : CutPieces) where
  same-against : (b : Bool) (p : Pt) → marked_against m b p → marked_against n b p
  same-against false p h = (same.on_b p).0 h
  same-against true p h = (same.on_a p).0 h

  same-named : (place : PlaceLine) → IsNamed m (cut_view f pieces) place → IsNamed n (cut_view g pieces) place
  same-named (Piece k key) named = named
  same-named (Anchor b) named = same.here named

  same-conflict : (i j : ℕ) (line : NearLine) → ShowsConflict spacing (cut_view f pieces) i j line → ShowsConflict spacing (cut_view g pieces) i j line
  same-conflict i j (Pair from to) c = record { from = c.from; to = c.to; near = c.near; apart = c.apart }
  same-conflict i j (Mark at) c = c
  same-conflict i j Anchors c = c

  same-mark : (i : ℕ) (b : Bool) (line : NearLine) → ShowsMark m (cut_view f pieces) i b line → ShowsMark n (cut_view g pieces) i b line
  same-mark i b (Pair from to) h = h
  same-mark i b (Mark at) h = (h.0, same-against b at h.1)
  same-mark i b Anchors h = h

  same-joined : (place next : PlaceLine) (line : NearLine) → AreJoined m spacing (cut_view f pieces) place next line
      → AreJoined n spacing (cut_view g pieces) place next line
  same-joined (Piece i key) (Piece j other) line h = same-conflict i j line h
  same-joined (Piece i key) (Anchor b) line h = same-mark i b line h
  same-joined (Anchor b) (Piece j other) line h = same-mark j b line h
  same-joined (Anchor b) (Anchor c) line h = h

-- a place that is bad by one cut and marks is bad by the other
pub same-bad : (m n : Option Marks) → FixTheSame m n → (spacing : Spacing) (f g : List (List Rect)) (pieces : CutPieces) (cycle : List PlaceLine)
    (near : List NearLine) (k : ℕ) (place : PlaceLine) → IsBadPlace m spacing (cut_view f pieces) cycle near k place
    → IsBadPlace n spacing (cut_view g pieces) cycle near k place
same-bad m n same spacing f g pieces cycle near k place bad d good =
    let back = same-back m n same in
    bad d (record {
      named = same-named n m back spacing g f pieces place good.named;
      new = good.new;
      joined = same-joined n m back spacing g f pieces place (place_at cycle ((k + 1) % length cycle)) (get_or near k d) good.joined;
    })
