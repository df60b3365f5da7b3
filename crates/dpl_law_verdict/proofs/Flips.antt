-- Where the lines of gains are the layer's and none has more differing zones than equal ones, no flip leaves fewer stitches.
use Rattle.std.proofs.Common.{◌≡◌, ℕ, suc, ◌<◌, ◌⊎◌, inl, inr, Bool, true, false, not, ◌&&◌, eqb, cond, List, [], ◌∷◌, length, get_or, refl, sym, ap, ◌∙◌, subst, arith}
use Rattle.std.specs.Prelude.{Option, Some, None, count_by, slice_get}
use Rattle.std.specs.List.{All, Contains}
use Rattle.std.proofs.lemmas.Bool.{cases_Bool, eqb-true, false≢true}
use Rattle.std.proofs.lemmas.List.{get_or_default, length-map}
use Rattle.std.proofs.lemmas.List.Sums.{sum_by-cons}
use Rattle.std.proofs.lemmas.Option.{slice_get-get_or}
use Rattle.std.proofs.lemmas.Slice.Zip.{AllZip-long}
use Rattle.dpl_spec_split.specs.declared.Spacing.{Spacing}
use Rattle.dpl_spec_split.specs.declared.Rect.{Rect}
use Rattle.dpl_spec_split.specs.Squares.{Region, Covers}
use Rattle.dpl_spec_split.specs.Graphs.{Graph, IsRoot, stay}
use Rattle.dpl_spec_split.specs.Pieces.{AreSides, Conflict}
use Rattle.dpl_spec_split.specs.Colours.{differ, colour_at}
use Rattle.dpl_spec_split.specs.Decomposition.{Cut, IsCut}
use Rattle.dpl_spec_split.specs.Marks.{Marks}
use Rattle.dpl_spec_split.proofs.GraphLaws.{root-unique}
use Rattle.dpl_spec_fewer.specs.Fewer.{Gains, leaves, zones_out}
use Rattle.dpl_spec_fewer.proofs.Flips.{all-sides}
use Rattle.dpl_stars.proofs.Walks.{Reaches-trans}
use Rattle.dpl_law_split.proofs.Parts.{zip-at}
use Rattle.dpl_cert.specs.declared.cert.Head.{Head}
use Rattle.dpl_cert.specs.declared.cert.PieceLine.{PieceLine}
use Rattle.dpl_cert.specs.declared.cert.StitchLine.{StitchLine}
use Rattle.dpl_cert.specs.declared.cert.Gain.{Gain}
use Rattle.dpl_cert.specs.declared.cert.Cert.TheVariants.{Masks}
use Rattle.dpl_cert.specs.Grammar.{IsCert}
use Rattle.dpl_spec_verdict.specs.declared.Verdict.TheVariants.{Valid}
use Rattle.dpl_spec_verdict.specs.Order.{IsValid}
use Rattle.dpl_spec_verdict.specs.Masks.{Claim, IsVerdictOfMasks}
use Rattle.dpl_spec_verdict.specs.Gains.{letters, AreGainsOf, AreRootsOf, HasBadGain, HasOtherPieces, IsUnmarked, ShowsGain, ShowsOtherPieces, VerdictOfLines}
use Rattle.dpl_law_verdict.specs.Flips.{NoneLeavesFewer}
use Rattle.dpl_law_verdict.specs.Own.{no_zone}
use Rattle.dpl_law_verdict.proofs.Telling.{unbroken}
use Rattle.dpl_law_verdict.proofs.Passing.{equal-where, valid-kept}

-- ---- what is counted

-- what counts for one
abbrev unit : Bool → ℕ
unit b = cond b 1 0

some-counted : {X : Type 0} (p : X → Bool) (xs : List X) → 0 < count_by p xs → (k : ℕ) × (k < length xs) × ((d : X) → p (get_or xs k d) ≡ true)
some-counted p [] some = absurd (omega (arith, some))
some-counted p (x ∷ xs) some = elim (cases_Bool (p x)) [
  | inl e ↦ (0, omega arith, λ d. e)
  | inr e ↦ let whole = sum_by-cons (λ y. unit (p y)) x xs in
      let here : unit (p x) ≡ 0 = ap unit e in
      let (k, k_in, is) = some-counted p xs (omega (arith, some, whole, here)) in (suc k, omega (arith, k_in), is)
]

one-in : (a b c : Bool) → (differ a b && c) ≡ true → (a ≡ true) ⊎ (b ≡ true)
one-in true b c e = inl refl
one-in false true c e = inr refl
one-in false false c e = absurd (false≢true e)

-- ---- roots

own-root : (joined : Graph) (v r : ℕ) → IsRoot joined v r → IsRoot joined r r
own-root joined v r is = record { reached = (0, stay); least = λ u reach. is.least u (Reaches-trans joined reach is.reached) }

module _ (marks : Option Marks) (spacing : Spacing) (overlap : ℕ) (layer : Region) (cut : Cut) (roots : List ℕ)
    (is : IsCut marks spacing overlap layer cut) (are : AreRootsOf spacing cut.pieces cut.owners roots) where
  pub sides-within : All (λ (side : ℕ × ℕ). (side.0 < length roots) × (side.1 < length roots)) cut.sides
  sides-within k d k_in =
      let many : length cut.sides ≡ length cut.zones = AllZip-long (AreSides cut.features cut.pieces) cut.zones cut.sides is.pieces.sided in
      let known = (zip-at (AreSides cut.features cut.pieces) cut.zones cut.sides k no_zone (0, 0) is.pieces.sided (omega (arith, many, k_in))).known in
      let each = are.each in
      subst (λ (s : ℕ × ℕ). (s.0 < length roots) × (s.1 < length roots)) (get_or_default cut.sides k (0, 0) d k_in)
      (let (a, b) = known in (omega (arith, a, each), omega (arith, b, each)))

  -- the root of a piece is a piece, and its own root
  root-own : (v root : ℕ) → v < length roots → get_or roots v 0 ≡ root → (root < length cut.pieces) × (get_or roots root 0 ≡ root)
  root-own v root v_in e =
      let each = are.each in
      let within : v < length cut.pieces = omega (arith, v_in, each) in
      let of : IsRoot (Conflict spacing cut.pieces cut.owners) v root =
      subst (λ (r : ℕ). IsRoot (Conflict spacing cut.pieces cut.owners) v r) e (are.rooted v within) in
      let low = of.least v (0, stay) in
      let known : root < length cut.pieces = omega (arith, low, within) in (
        known,
        root-unique (Conflict spacing cut.pieces cut.owners) root (get_or roots root 0) root (are.rooted root known)
            (own-root (Conflict spacing cut.pieces cut.owners) v root of),
      )

  -- a component that zones leave is that of its root
  left-root : (colours : List Bool) (root : ℕ) (wanted : Bool) → 0 < zones_out roots colours root wanted cut.sides
      → (root < length cut.pieces) × (get_or roots root 0 ≡ root)
  left-root colours root wanted some =
      let (k, k_in, leaving) = some-counted
      (λ (side : ℕ × ℕ). leaves roots root side && not (differ wanted (differ (colour_at colours side.0) (colour_at colours side.1)))) cut.sides some in
      let side = get_or cut.sides k (0, 0) in
      let within = sides-within k (0, 0) k_in in
      elim (one-in (eqb (get_or roots side.0 0) root) (eqb (get_or roots side.1 0) root)
      (not (differ wanted (differ (colour_at colours side.0) (colour_at colours side.1)))) (leaving (0, 0))) [
        | inl e ↦ root-own side.0 root within.0 (eqb-true (get_or roots side.0 0) root e)
        | inr e ↦ root-own side.1 root within.1 (eqb-true (get_or roots side.1 0) root e)
      ]

-- ---- gains

-- what the lines list doesn't gain
unlisted : (found lines : List Gain) (g : Gain) → (HasBadGain found lines → ⊥) → Contains found g → g.s < g.d → ⊥
unlisted found lines g none (k, k_in, at) less =
    let there : slice_get found k ≡ Some g = slice_get-get_or found k g k_in ∙ ap (λ (x : Gain). Some x) at in
    none (k, inl (λ e. none (k, inr (g, e ∙ there, less))))

no-gain : (marks : Option Marks) (spacing : Spacing) (overlap : ℕ) (layer : Region) (cut : Cut) (colours : List Bool) (found lines : List Gain)
    → IsCut marks spacing overlap layer cut → (are : AreGainsOf marks spacing cut colours found) → (HasBadGain found lines → ⊥)
    → length colours ≡ length cut.pieces → (root : ℕ) → IsUnmarked marks cut.pieces are.roots root → Gains are.roots None cut.sides colours root → ⊥
no-gain marks spacing overlap layer cut colours found lines is are none each root free gains =
    let rooted = are.are_roots in
    let many = rooted.each in
    let fewer = gains.fewer in
    let d : ℕ = zones_out are.roots colours root true cut.sides in
    let s : ℕ = zones_out are.roots colours root false cut.sides in
    let counts = all-sides are.roots colours root (each ∙ sym many) cut.sides (sides-within marks spacing overlap layer cut are.roots is rooted) in
    let less : s < d = omega (arith, counts, fewer) in
    let some : 0 < d = omega (arith, less) in
    let (known, own) = left-root marks spacing overlap layer cut are.roots is rooted colours root true some in
    let g : Gain = record { piece = root; d = d; s = s } in
    unlisted found lines g none
    ((are.exactly g).1 (record { within = known; least = own; free = free; d = refl; s = refl; some = omega (arith, some) })) less

pub none-fewer : (marks : Option Marks) (spacing : Spacing) (overlap : ℕ) (layer a b : List Rect) (head : Head) (pieces : List PieceLine) (stitches : List StitchLine) (lines : List Gain)
    → IsCert (Masks head pieces stitches (Some lines)) → IsVerdictOfMasks marks spacing overlap layer a b (Masks head pieces stitches (Some lines)) Valid
    → NoneLeavesFewer marks spacing overlap layer (letters pieces)
none-fewer marks spacing overlap layer a b head pieces stitches lines cert valid =
    let claim : Claim = record { layer = layer; a = a; b = b; head = head; pieces = pieces; stitches = stitches; gains = Some lines } in
    let colours : List Bool = letters pieces in
    let (cut, is, by_pieces) = (valid-kept marks spacing overlap claim valid).gained in
    let counted = unbroken (HasOtherPieces cut head) ShowsOtherPieces (VerdictOfLines marks spacing cut colours lines) Valid (λ e. cc) by_pieces in
    let (found, are, by_lines) = counted.1 in
    let good = unbroken (HasBadGain found lines) (ShowsGain found lines) IsValid Valid (λ (k, bad, e). cc) by_lines in
    let many : length cut.pieces ≡ head.pieces = equal-where (length cut.pieces) head.pieces (λ ne. counted.0 (inl ne)) in
    let each : length colours ≡ length cut.pieces = length-map pieces (λ (line : PieceLine). line.b) ∙ (cert.1 ∙ sym many) in
    record {
      cut = cut;
      is_cut = is;
      each = each;
      roots = are.roots;
      are_roots = are.are_roots;
      none = λ root free gains. no-gain marks spacing overlap (Covers layer) cut colours found lines is are good.0 each root free gains;
    }
