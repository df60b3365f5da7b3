-- The words of lines have no space and no line feed.
use Rattle.std.proofs.Common.{◌≡◌, ℕ, suc, ℤ, pos, negsuc, ◌^◌, ◌<◌, Bool, true, false, eqb, List, [], ◌∷◌, refl, arith, inl, inr}
use Rattle.std.proofs.lemmas.Int.{ints}
use Rattle.std.proofs.lemmas.Str.Parse.{digit_from_value, IsNumeralModel, numerals_by_value, tells_digits}
use Rattle.std.proofs.lemmas.Fmt.{digits_decimal}
use Rattle.std.proofs.lemmas.Bool.Decides.{eqb_tells}
use Rattle.std.specs.Fmt.{decimal, signed_decimal}
use Rattle.std.specs.Str.Parse.{AllDigits, digits_value}
use Rattle.dpl_cert.specs.declared.cert.PieceLine.{PieceLine}
use Rattle.dpl_cert.specs.declared.cert.StitchLine.{StitchLine}
use Rattle.dpl_cert.specs.declared.cert.Gain.{Gain}
use Rattle.dpl_cert.specs.declared.cert.PlaceLine.{PlaceLine}
use Rattle.dpl_cert.specs.declared.cert.PlaceLine.TheVariants.{Piece, Anchor}
use Rattle.dpl_cert.specs.declared.cert.NearLine.{NearLine}
use Rattle.dpl_cert.specs.declared.cert.NearLine.TheVariants.{Pair, Mark, Anchors}
use Rattle.dpl_cert.specs.Lines.{IsWord, AreWords}
use Rattle.dpl_cert.specs.Grammar.{letter, piece_words, stitch_words, place_words, near_words, gain_words, point_words, IsCoordinate, IsPoint}
use Rattle.dpl_cert.specs.Grammar.{IsPiece, IsStitch, IsPlace, IsNear, IsGain}
use Rattle.dpl_spec_split.specs.declared.Pt.{Pt}

own : IsNumeralModel (AllDigits 10) (digits_value 10)
own = numerals_by_value (AllDigits 10) tells_digits

other : (a b : ℕ) → (a ≡ b → ⊥) → eqb a b ≡ false
other a b h = elim (eqb_tells a b) [ inl t ↦ absurd (h t.1) | inr f ↦ f.0 ]

digits_word : (ds : List ℕ) → AllDigits 10 ds → IsWord ds
digits_word [] h = refl
digits_word (d ∷ ds) h =
    let range = digit_from_value d h.0 in
    let a : eqb d 32 ≡ false = other d 32 (λ e. omega arith) in
    let b : eqb d 10 ≡ false = other d 10 (λ e. omega arith) in
    rw (a, b) (digits_word ds h.1)

pub decimal_word : (n : ℕ) → n < 2 ^ 64 → IsWord (decimal n)
decimal_word n h = digits_word (decimal n) (digits_decimal own n h)

pub signed_word : (z : ℤ) → IsCoordinate z → IsWord (signed_decimal z)
signed_word (pos n) h = decimal_word n (omega (arith, ints, h))
signed_word (negsuc n) h = decimal_word (suc n) (omega (arith, ints, h))

pub letter_word : (b : Bool) → IsWord (letter b)
letter_word false = refl
letter_word true = refl

pub piece_proper : (n : ℕ) (p : PieceLine) → n < 2 ^ 64 → IsPiece p → AreWords (piece_words n p)
piece_proper n p h f = (refl, (decimal_word n h, (letter_word p.b, (signed_word p.key.x f.x, signed_word p.key.y f.y))))

pub stitch_proper : (n : ℕ) (s : StitchLine) → n < 2 ^ 64 → IsStitch s → AreWords (stitch_words n s)
stitch_proper n s h f = (
  refl,
  (
    signed_word s.rect.x0 f.rect.x0,
    (
      signed_word s.rect.y0 f.rect.y0,
      (signed_word s.rect.x1 f.rect.x1, (signed_word s.rect.y1 f.rect.y1, (decimal_word s.p f.p, decimal_word s.q f.q))),
    ),
  ),
)

pub point_proper : (p : Pt) → IsPoint p → AreWords (point_words p)
point_proper p f = (signed_word p.x f.x, signed_word p.y f.y)

pub place_proper : (n : ℕ) (p : PlaceLine) → n < 2 ^ 64 → IsPlace p → AreWords (place_words n p)
place_proper n (Piece k key) h f = (refl, (decimal_word k f.0, point_proper key f.1))
place_proper n (Anchor b) h f = (refl, letter_word b)

pub near_proper : (n : ℕ) (p : NearLine) → n < 2 ^ 64 → IsNear p → AreWords (near_words n p)
near_proper n (Pair from to) h f = (refl, (signed_word from.x f.0.x, (signed_word from.y f.0.y, point_proper to f.1)))
near_proper n (Mark at) h f = (refl, point_proper at f)
near_proper n Anchors h f = refl

pub gain_proper : (n : ℕ) (g : Gain) → n < 2 ^ 64 → IsGain g → AreWords (gain_words n g)
gain_proper n g h f = (refl, (decimal_word g.piece f.piece, (decimal_word g.d f.d, decimal_word g.s f.s)))
