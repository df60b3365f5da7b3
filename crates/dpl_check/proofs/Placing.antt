-- Places of a cycle, and the pieces that squares lie in.
use Rattle.std.proofs.Common.{◌≡◌, ℕ, ◌+◌, ◌%◌, ◌<◌, inl, inr, true, false, List, [], length, get_or, refl, not, eqb, eq-eqb, ne_eqb, Option, ap, sym, ◌∙◌, subst, arith}
use Rattle.std.specs.Prelude.{◌↔◌, IsTrue}
use Rattle.std.proofs.lemmas.Int.{ints}
use Rattle.std.proofs.lemmas.Bool.{cases_eq, cases_lt, cases_order, false≢true}
use Rattle.std.proofs.lemmas.List.{get_or_default, get_or_past}
use Rattle.dpl_spec_split.specs.declared.Spacing.{Spacing}
use Rattle.dpl_spec_split.specs.declared.Pt.{Pt}
use Rattle.dpl_spec_split.specs.declared.Rect.{Rect}
use Rattle.dpl_spec_split.specs.Squares.{AreNear, Covers, Has, Near}
use Rattle.dpl_spec_split.specs.Zones.{part_at}
use Rattle.dpl_spec_split.proofs.SlabLaws.{Covers-member, member-Covers}
use Rattle.dpl_slabs.specs.Parts.{AreParts}
use Rattle.dpl_tree.specs.declared.items.Item.{Item}
use Rattle.dpl_tree.specs.declared.owners.Owners.TheVariants.{All as Everyone, Only}
use Rattle.dpl_tree.specs.Trees.{AreItemsOf}
use Rattle.dpl_nearest.specs.Search.{FitsIn32Bits, ItemCovers, unit_of}
use Rattle.dpl_nearest.proofs.UnitLaws.{unit_fits}
use Rattle.dpl_cert.specs.Grammar.{IsPoint}
use Rattle.dpl_piece.specs.Cutting.{CutPieces}
use Rattle.dpl_cert.specs.declared.cert.PlaceLine.{PlaceLine}
use Rattle.dpl_cert.specs.declared.cert.PlaceLine.TheVariants.{Piece, Anchor}
use Rattle.dpl_spec_split.specs.Marks.{Marks}
use Rattle.dpl_cert.specs.declared.cert.NearLine.{NearLine}
use Rattle.dpl_cert.specs.declared.cert.NearLine.TheVariants.{Pair, Mark, Anchors}
use Rattle.dpl_spec_split.specs.Decomposition.{Cut}
use Rattle.dpl_spec_verdict.specs.Conflicts.{AreInConflict, AreJoined, AreSame, IsBadPlace, IsNamed, ShowsConflict, place_at}
use Rattle.dpl_check.specs.declared.stood.Stood.{Stood}
use Rattle.dpl_check.specs.Places.{AreNoted, HasNoted, IsBelow, IsNearLine, bare, stood_at}
use Rattle.dpl_check.proofs.Windows.{unit-only, unit-self}

nothing : (p : Pt) → Covers [] p → ⊥
nothing p (k, r, l, is, has) = omega (arith, l)

pub part-known : (parts : List (List Rect)) (k : ℕ) (p : Pt) → part_at parts k p → k < length parts
part-known parts k p has = elim (cases_lt k (length parts)) [
  | inl l ↦ l
  | inr past ↦ absurd (nothing p (subst (λ (s : List Rect). Covers s p) (get_or_past parts k [] past) has))
]

part-once : (parts : List (List Rect)) (i j : ℕ) (p : Pt) → AreParts parts → part_at parts i p → part_at parts j p → i ≡ j
part-once parts i j p are a b = elim (cases_order i j) [
  | inl e ↦ e
  | inr (inl l) ↦ absurd (are.apart i j [] l (part-known parts j p b) p a b)
  | inr (inr l) ↦ absurd (are.apart j i [] l (part-known parts i p a) p b a)
]

-- the owner of a square is its piece
pub of-some : (parts : List (List Rect)) (items : List Item) (p : Pt) (piece k : ℕ) → AreParts parts → AreItemsOf parts items
    → ItemCovers (Only k) items p → (k ≡ piece) ↔ part_at parts piece p
of-some parts items p piece k are of_parts (r, j, item, is, has) =
    let (j_in, c) = (of_parts r j).0 item in
    let there : part_at parts k p = subst (λ n. part_at parts n p) is (Covers-member (get_or parts j []) r p c has) in
    (λ e. subst (λ n. part_at parts n p) e there, λ other. part-once parts k piece p are there other)

pub of-none : (parts : List (List Rect)) (items : List Item) (p : Pt) (piece : ℕ) → AreItemsOf parts items → (ItemCovers Everyone items p → ⊥) → part_at parts piece p → ⊥
of-none parts items p piece of_parts none there =
    let found = member-Covers (get_or parts piece []) p there in
    none (found.0, piece, (of_parts found.0 piece).1 (part-known parts piece p there, found.1), tt, found.2)

pub point-fits : (p : Pt) → IsPoint p → FitsIn32Bits (unit_of p)
point-fits p point = unit_fits p (omega (arith, ints, point.x.0, point.x.1)) (omega (arith, ints, point.y.0, point.y.1))

pub near-units : (spacing : Spacing) (p q : Pt) (u v : Rect) → u ≡ unit_of p → v ≡ unit_of q → AreNear spacing (Has u) (Has v) ↔ (Near spacing p q)
near-units spacing p q u v e f = (
  λ (s, t, s_in, t_in, close). subst (λ (x : Pt). Near spacing x q) (unit-only p s (subst (λ (w : Rect). Has w s) e s_in))
      (subst (λ (x : Pt). Near spacing s x) (unit-only q t (subst (λ (w : Rect). Has w t) f t_in)) close),
  λ close. (p, q, subst (λ (w : Rect). Has w p) (sym e) (unit-self p), subst (λ (w : Rect). Has w q) (sym f) (unit-self q), close),
)

apart-test : (a b : ℕ) → IsTrue (not (eqb a b)) ↔ (a ≡ b → ⊥)
apart-test a b = elim (cases_eq a b) [
  | inl e ↦ (λ test. absurd (false≢true (sym (ap not (eq-eqb a b e)) ∙ test)), λ ne. absurd (ne e))
  | inr ne ↦ (λ test. ne, λ other. ap not (ne_eqb a b ne))
]

-- a line shows a conflict by two squares alone
module _ (spacing : Spacing) (cut : Cut) (i j : ℕ) (line : NearLine) where
  unpaired : (l : NearLine) → ((p q : Pt) → l ≡ Pair p q → ⊥) → ShowsConflict spacing cut i j l → ⊥
  unpaired (Pair from to) other shown = other from to refl
  unpaired (Mark at) other shown = shown
  unpaired Anchors other shown = shown

  pub unpaired-none : ((p q : Pt) → line ≡ Pair p q → ⊥) → ShowsConflict spacing cut i j line → ⊥
  unpaired-none other shown = unpaired line other shown

  module _ (from to : Pt) (is : line ≡ Pair from to) where
    pub pair-shown : ShowsConflict spacing cut i j line → IsNearLine spacing cut.pieces i j from to
    pair-shown shown = let c : AreInConflict spacing cut i j from to = subst (λ l. ShowsConflict spacing cut i j l) is shown in
        record { from = c.from; to = c.to; near = c.near }

    pub near-shown : IsNearLine spacing cut.pieces i j from to → IsTrue (not (eqb (get_or cut.owners i 0) (get_or cut.owners j 0))) ↔ ShowsConflict spacing cut i j line
    near-shown near = (
      λ test. subst (λ l. ShowsConflict spacing cut i j l) (sym is)
          (let c : AreInConflict spacing cut i j from to = record { from = near.from; to = near.to; near = near.near; apart = (apart-test _ _).0 test } in c),
      λ shown. (let c : AreInConflict spacing cut i j from to = subst (λ l. ShowsConflict spacing cut i j l) is shown in (apart-test _ _).1 c.apart),
    )

-- what is named is below the count of pieces
pub named-below : (marks : Option Marks) (pieces : CutPieces) (place : PlaceLine) → IsNamed marks (bare pieces) place → IsBelow (length pieces.parts) place
named-below marks pieces (Piece n key) named = named.0
named-below marks pieces (Anchor b) named = tt

module _ (marks : Option Marks) (spacing : Spacing) (pieces : CutPieces) (cycle : List PlaceLine) (near : List NearLine) (k : ℕ)
    (k_in : k < length near) (place : PlaceLine) (e : NearLine) where
  abbrev next : PlaceLine
  next = place_at cycle ((k + 1) % length cycle)

  pub unnamed-bad : (IsNamed marks (bare pieces) place → ⊥) → IsBadPlace marks spacing (bare pieces) cycle near k place
  unnamed-bad never d good = never good.named

  pub unjoined-bad : (AreJoined marks spacing (bare pieces) place next (get_or near k e) → ⊥) → IsBadPlace marks spacing (bare pieces) cycle near k place
  unjoined-bad never d good = never (subst (λ (line : NearLine). AreJoined marks spacing (bare pieces) place next line)
      (get_or_default near k d e k_in) good.joined)

  module _ (count : ℕ) (stood : Stood) (noted : AreNoted count cycle k stood) where
    pub stood-bad : stood_at stood place ≡ true → IsBadPlace marks spacing (bare pieces) cycle near k place
    stood-bad is d good = let (j, l, same) = (noted.exactly place).0 is in good.new j l same

    pub good-place : IsNamed marks (bare pieces) place → stood_at stood place ≡ false → AreJoined marks spacing (bare pieces) place next (get_or near k e)
        → IsBadPlace marks spacing (bare pieces) cycle near k place → ⊥
    good-place named fresh joined bad = bad e (record {
      named = named;
      new = λ j l same. false≢true (sym fresh ∙ (noted.exactly place).1 (j, l, same));
      joined = joined;
    })

-- one place more
pub noted-next : (count : ℕ) (cycle : List PlaceLine) (k : ℕ) (before after : Stood) → AreNoted count cycle k before
    → HasNoted (place_at cycle k) before after → AreNoted count cycle (k + 1) after
noted-next count cycle k before after noted more = record {
  each = more.each ∙ noted.each;
  exactly = λ place. (
    λ is. elim ((more.exactly place).0 is) [
      | inl same ↦ (k, omega arith, same)
      | inr was ↦ (let (j, l, same) = (noted.exactly place).0 was in (j, omega (arith, l), same))
    ],
    λ (j, l, same). (more.exactly place).1 (elim (cases_eq j k) [
      | inl e ↦ inl (subst (λ (m : ℕ). AreSame (place_at cycle m) place) e same)
      | inr ne ↦ inr ((noted.exactly place).1 (j, omega (arith, l, ne), same))
    ]),
  );
}
