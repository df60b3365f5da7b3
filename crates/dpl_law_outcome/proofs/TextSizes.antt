-- A text of edits isn't too large.
use Rattle.std.proofs.Common.{ℕ, ◌*◌, ◌≤◌, ℤ, pos, negsuc, List, [], ◌∷◌, length, subst, sym, length-append, arith}
use Rattle.std.proofs.lemmas.Fmt.{length_signed_le}
use Rattle.std.proofs.lemmas.Int.{ints}
use Rattle.std.specs.Fmt.{signed_decimal}
use Rattle.std.specs.List.{AllByRecursion, join_with_byte}
use Rattle.dpl_cert.specs.Grammar.{IsCoordinate, IsRect, rect_words}
use Rattle.dpl_cert.specs.Lines.{line, text}
use Rattle.dpl_spec_split.specs.declared.Rect.{Rect}
use Rattle.dpl_spec_edits.specs.declared.Edit.{Edit}
use Rattle.dpl_spec_edits.specs.declared.Edit.TheVariants.{Add, Remove}
use Rattle.dpl_spec_edits.specs.Text.{IsEdit, IsListed, edit_lines, edit_words}
use Rattle.dpl_layer.specs.Reading.{limit}

-- a word of at most twelve bytes
abbrev IsShort : List ℕ → Type 0
IsShort w = length w ≤ 12

short-number : (z : ℤ) → IsCoordinate z → IsShort (signed_decimal z)
short-number (pos n) h = length_signed_le 11 (pos n) (omega (arith, ints, h)) (omega (arith, ints, h))
short-number (negsuc n) h = length_signed_le 11 (negsuc n) (omega (arith, ints, h)) (omega (arith, ints, h))

short-rect : (r : Rect) → IsRect r → AllByRecursion IsShort (rect_words r)
short-rect r h = (short-number r.x0 h.x0, (short-number r.y0 h.y0, (short-number r.x1 h.x1, (short-number r.y1 h.y1, tt))))

short-words : (e : Edit) → IsEdit e → AllByRecursion IsShort (edit_words e)
short-words (Add r) h = (omega arith, short-rect r h)
short-words (Remove r) h = (omega arith, short-rect r h)

joined : (ws : List (List ℕ)) → AllByRecursion IsShort ws → length (join_with_byte 32 ws) ≤ 13 * length ws
joined [] h = omega arith
joined (w ∷ []) h = (let few = h.0 in omega arith)
joined (w ∷ v ∷ ws) h =
    let few = h.0 in
    omega (arith, joined (v ∷ ws) h.1, length-append w (32 ∷ join_with_byte 32 (v ∷ ws)))

many-words : (e : Edit) → length (edit_words e) ≤ 5
many-words (Add r) = omega arith
many-words (Remove r) = omega arith

short-line : (e : Edit) → IsEdit e → length (line (edit_words e)) ≤ 66
short-line e h =
    omega (arith, joined (edit_words e) (short-words e h), many-words e, length-append (join_with_byte 32 (edit_words e)) (10 ∷ []))

short-text : (es : List Edit) → AllByRecursion IsEdit es → length (text (edit_lines es)) ≤ 66 * length es
short-text [] h = omega arith
short-text (e ∷ es) h = omega (arith, short-line e h.0, short-text es h.1, length-append (line (edit_words e)) (text (edit_lines es)))

pub text-small : (es : List Edit) (bytes : List ℕ) → IsListed es bytes → length bytes ≤ limit
text-small es bytes l =
    let few = l.few in
    subst (λ t. length t ≤ limit) (sym l.is) (omega (arith, short-text es l.each))
