-- Gains, listed piece by piece.
use Rattle.std.proofs.Common.{◌≡◌, ◌↔◌, ℕ, ◌+◌, ◌<◌, inl, inr, Bool, List, [], ◌∷◌, ◌++◌, get_or, sym, ap, ◌∙◌, subst, arith}
use Rattle.std.specs.List.{AllPairs, Contains}
use Rattle.std.proofs.lemmas.Bool.{cases_eq}
use Rattle.std.proofs.lemmas.List.{get_or_default}
use Rattle.std.proofs.lemmas.List.Elements.{Contains-append_left, Contains-push, Contains-push_cases}
use Rattle.std.proofs.lemmas.List.Quantifiers.{all_pairs_push}
use Rattle.dpl_spec_split.proofs.Ordered.{Contains-nil}
use Rattle.dpl_cert.specs.declared.cert.Gain.{Gain}
use Rattle.dpl_gains.specs.declared.tallies.Tally.{Tally}
use Rattle.dpl_gains.specs.Tallies.{IsListed, tally_at}

-- the gains of pieces below n
pub record AreListedBelow (roots : List ℕ) (held : List Bool) (tallies : List Tally) (n : ℕ) (gains : List Gain) : Type 0 where
  pub ordered : AllPairs (λ (g h : Gain). g.piece < h.piece) gains
  pub exactly : (g : Gain) → Contains gains g ↔ ((g.piece < n) × IsListed roots held tallies g)

same-gain : (g h : Gain) → g.piece ≡ h.piece → g.d ≡ h.d → g.s ≡ h.s → g ≡ h
same-gain g h p d s = λ i. record { piece = p i; d = d i; s = s i }

pub one-listed : (roots : List ℕ) (held : List Bool) (tallies : List Tally) (g h : Gain) → g.piece ≡ h.piece → IsListed roots held tallies g
    → IsListed roots held tallies h → g ≡ h
one-listed roots held tallies g h e a b =
    same-gain g h e (a.tally.0 ∙ (ap (λ (k : ℕ). (tally_at tallies k).d) e ∙ sym b.tally.0)) (a.tally.1 ∙ (ap (λ (k : ℕ). (tally_at tallies k).s) e ∙ sym b.tally.1))

module _ (roots : List ℕ) (held : List Bool) (tallies : List Tally) where
  pub listed-none : AreListedBelow roots held tallies 0 []
  listed-none = record {
    ordered = λ i j d l m. absurd (omega (arith, m));
    exactly = λ g. (λ c. absurd (Contains-nil g c), λ h. absurd (omega (arith, h.0)));
  }

  module _ (n : ℕ) (gains : List Gain) (h : AreListedBelow roots held tallies n gains) where
    pub listed-pass : ((g : Gain) → g.piece ≡ n → IsListed roots held tallies g → ⊥) → AreListedBelow roots held tallies (n + 1) gains
    listed-pass none = record {
      ordered = h.ordered;
      exactly = λ g. (
        λ c. (let (lt, is) = (h.exactly g).0 c in (omega (arith, lt), is)),
        λ (lt, is). elim (cases_eq g.piece n) [
          | inl e ↦ absurd (none g e is)
          | inr ne ↦ (h.exactly g).1 (omega (arith, lt, ne), is)
        ],
      );
    }

    pub listed-more : (g : Gain) → g.piece ≡ n → IsListed roots held tallies g → AreListedBelow roots held tallies (n + 1) (gains ++ (g ∷ []))
    listed-more g at is = record {
      ordered = all_pairs_push (λ (a b : Gain). a.piece < b.piece) gains g h.ordered
          (λ k d l. let (lt, _) = (h.exactly (get_or gains k d)).0 (k, l, get_or_default gains k (get_or gains k d) d l) in omega (arith, lt, at));
      exactly = λ x. (
        λ c. elim (Contains-push_cases gains g x c) [
          | inl old ↦ (let (lt, was) = (h.exactly x).0 old in (omega (arith, lt), was))
          | inr e ↦ (let p : g.piece ≡ x.piece = ap (λ (y : Gain). y.piece) e in (omega (arith, p, at), subst (λ (y : Gain). IsListed roots held tallies y) e is))
        ],
        λ (lt, was). elim (cases_eq x.piece n) [
          | inl e ↦ subst (λ (y : Gain). Contains (gains ++ (g ∷ [])) y) (one-listed roots held tallies g x (at ∙ sym e) is was) (Contains-push gains g)
          | inr ne ↦ Contains-append_left gains (g ∷ []) x ((h.exactly x).1 (omega (arith, lt, ne), was))
        ],
      );
    }
