-- Files that are written one after another.
use Rattle.std.proofs.Common.{◌≡◌, ◌∙◌, ap, refl, subst, inl, inr, List, ◌∷◌, ℕ, Option, Some, None}
use Rattle.std.specs.Prelude.{option_map}
use Rattle.dpl_host.specs.Outside.{IsPartWritten, Outside, with_file, with_said}
use Rattle.clap.specs.Walk.{Text}
use Rattle.dpl_run.specs.Outcome.{IsPartDone, written}

-- all of it done, from what is told
abbrev pub after_all : List (Text × List ℕ) → List ℕ → Option Outside → Option Outside
after_all ws line told = option_map (λ o. with_said line (written ws o)) told

-- the first file is written, and then the rest is done
pub one_then : (w : Text × List ℕ) (ws : List (Text × List ℕ)) (line : List ℕ) (told now : Option Outside) → now ≡ option_map (with_file w.0 w.1) told
    → after_all ws line now ≡ after_all (w ∷ ws) line told
one_then w ws line None now is = ap (after_all ws line) is
one_then w ws line (Some o) now is = ap (after_all ws line) is

-- what is left to do, at the i-th file
pub record LeftTo (all rest : List (Text × List ℕ)) (line : List ℕ) (old now : Option Outside) : Type 0 where
  pub whole : after_all rest line now ≡ after_all all line old
  pub part : (new : Option Outside) → IsPartDone rest line now new → IsPartDone all line old new

pub left_all : (all : List (Text × List ℕ)) (line : List ℕ) (old : Option Outside) → LeftTo all all line old old
left_all all line old = record { whole = refl; part = λ new h. h }

pub left_next : (all rest more : List (Text × List ℕ)) (w : Text × List ℕ) (line : List ℕ) (old now next : Option Outside) → LeftTo all rest line old now → rest ≡ w ∷ more
    → next ≡ option_map (with_file w.0 w.1) now → LeftTo all more line old next
left_next all rest more w line old now next left is put =
    let here : LeftTo all (w ∷ more) line old now = subst (λ (l : List (Text × List ℕ)). LeftTo all l line old now) is left in
    record {
      whole = one_then w more line now next put ∙ here.whole;
      part = λ new h. here.part new (inr (subst (λ (t : Option Outside). IsPartDone more line t new) put h));
    }

pub left_part : (all rest more : List (Text × List ℕ)) (w : Text × List ℕ) (line : List ℕ) (old now new : Option Outside) → LeftTo all rest line old now → rest ≡ w ∷ more
    → IsPartWritten w.0 w.1 now new → IsPartDone all line old new
left_part all rest more w line old now new left is h =
    let here : LeftTo all (w ∷ more) line old now = subst (λ (l : List (Text × List ℕ)). LeftTo all l line old now) is left in
    here.part new (inl h)
