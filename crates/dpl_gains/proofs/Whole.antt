-- The gains of a cut, by roots, held components and tallies.
use Rattle.std.proofs.Common.{◌≡◌, ◌↔◌, ℕ, ◌<◌, inl, inr, Bool, true, false, List, length, get_or, sym, ap, ◌∙◌, arith}
use Rattle.std.specs.Prelude.{Option}
use Rattle.std.specs.List.{AllPairs, Contains}
use Rattle.std.proofs.lemmas.Bool.{cases_Bool, false≢true}
use Rattle.dpl_spec_split.specs.declared.Spacing.{Spacing}
use Rattle.dpl_spec_split.specs.declared.Rect.{Rect}
use Rattle.dpl_spec_split.specs.Marks.{Marks}
use Rattle.dpl_cert.specs.declared.cert.Gain.{Gain}
use Rattle.dpl_piece.specs.Cutting.{CutPieces}
use Rattle.dpl_piece.specs.View.{IsMarkedSet, cut_view}
use Rattle.dpl_spec_verdict.specs.Gains.{IsGainOf, AreRootsOf, AreGainsOf}
use Rattle.dpl_gains.specs.declared.tallies.Tally.{Tally}
use Rattle.dpl_gains.specs.Held.{IsHeldBelow}
use Rattle.dpl_gains.specs.Tallies.{AreTallies, IsListed}

module _ (marks : Option Marks) (spacing : Spacing) (pieces : CutPieces) (letters : List Bool) (marked : List Rect) (roots : List ℕ) (held : List Bool)
    (tallies : List Tally) (same : IsMarkedSet marked marks) (rooted : AreRootsOf spacing pieces.parts pieces.owners roots)
    (holds : (root : ℕ) → (get_or held root false ≡ true) ↔ IsHeldBelow pieces.parts roots marked (length pieces.parts) root)
    (tallied : AreTallies roots letters pieces.sides tallies) where
  gain-of : (g : Gain) → IsListed roots held tallies g → IsGainOf marks pieces.parts pieces.sides roots letters g
  gain-of g l =
      let e = rooted.each in
      record {
        within = let w = l.within in omega (arith, w, e);
        least = l.least;
        free = λ k lt is (p, mine, at). false≢true (sym l.free ∙ (holds g.piece).1 (k, lt, is, (p, mine, (same p).1 at)));
        d = l.tally.0 ∙ ap (λ (t : Tally). t.d) (tallied.each g.piece l.within);
        s = l.tally.1 ∙ ap (λ (t : Tally). t.s) (tallied.each g.piece l.within);
        some = l.some;
      }

  unheld : (g : Gain) → IsGainOf marks pieces.parts pieces.sides roots letters g → (get_or held g.piece false ≡ true) → ⊥
  unheld g is e = let (k, lt, at, (p, mine, on)) = (holds g.piece).0 e in is.free k lt at (p, mine, (same p).0 on)

  listed-of : (g : Gain) → IsGainOf marks pieces.parts pieces.sides roots letters g → IsListed roots held tallies g
  listed-of g is =
      let e = rooted.each in
      let w = is.within in
      let within : g.piece < length roots = omega (arith, w, e) in
      record {
        within = within;
        least = is.least;
        free = elim (cases_Bool (get_or held g.piece false)) [ inl t ↦ absurd (unheld g is t) | inr f ↦ f ];
        tally = (is.d ∙ sym (ap (λ (t : Tally). t.d) (tallied.each g.piece within)), is.s ∙ sym (ap (λ (t : Tally). t.s) (tallied.each g.piece within)));
        some = is.some;
      }

  pub gains-are : (features : List (List Rect)) (gains : List Gain) → AllPairs (λ (g h : Gain). g.piece < h.piece) gains
      → ((g : Gain) → Contains gains g ↔ IsListed roots held tallies g) → AreGainsOf marks spacing (cut_view features pieces) letters gains
  gains-are features gains ordered exactly = record {
    roots = roots;
    are_roots = rooted;
    ordered = ordered;
    exactly = λ g. (λ c. gain-of g ((exactly g).0 c), λ is. (exactly g).1 (listed-of g is));
  }
