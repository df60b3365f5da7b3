-- Lines of edits, as they are read.
use Rattle.std.proofs.Common.{◌≡◌, ◌≢◌, ℕ, ◌+◌, ◌≤◌, List, [], ◌∷◌, ◌++◌, length, refl, sym, ap, ◌∙◌, arith}
use Rattle.std.specs.Prelude.{◌⊎◌}
use Rattle.std.specs.List.{AllByRecursion}
use Rattle.std.proofs.lemmas.List.{append-nil}
use Rattle.dpl_cert.specs.Lines.{line, lines, text}
use Rattle.dpl_parse.proofs.Texts.{lines_some}
use Rattle.dpl_parse.proofs.Whole.{text-lines}
use Rattle.dpl_spec_edits.specs.declared.Edit.{Edit}
use Rattle.dpl_spec_edits.specs.Text.{edit_words, edit_lines, most_edits, IsEdit, IsListed, IsNoEdit, IsFirstBad}

-- edits were read up to a rest of the text
pub record AreRead (bytes rest : List ℕ) (es : List Edit) : Type 0 where
  pub each : AllByRecursion IsEdit es
  pub few : length es ≤ most_edits
  pub so_far : lines bytes ≡ edit_lines es ++ lines rest

nothing : (rest : List ℕ) → length rest ≡ 0 → rest ≡ []
nothing [] h = refl
nothing (b ∷ rest) h = absurd (omega arith)

pub all_read : (bytes rest : List ℕ) (es : List Edit) → AreRead bytes rest es → length rest ≡ 0 → IsListed es bytes
all_read bytes rest es r e = record {
  each = r.each;
  few = r.few;
  is = sym (text-lines bytes) ∙ ap text (r.so_far ∙ ap (λ (t : List ℕ). edit_lines es ++ lines t) (nothing rest e) ∙ append-nil (edit_lines es));
}

-- the next line is that of no edit, or one too many
pub bad_line : (bytes rest : List ℕ) (es : List Edit) (n : ℕ) → AreRead bytes rest es → ¬ length rest ≡ 0 → n ≡ length es + 1
    → ((l : List ℕ) (t : List (List ℕ)) → lines rest ≡ l ∷ t → IsNoEdit l ⊎ (length es ≡ most_edits)) → IsFirstBad bytes n
bad_line bytes rest es n r some at why =
    let next = lines_some rest some in
    record {
      before = es;
      each = r.each;
      few = r.few;
      bad = next.0;
      rest = next.1;
      are = r.so_far ∙ ap (λ (t : List (List ℕ)). edit_lines es ++ t) next.2;
      at = at;
      why = why next.0 next.1 next.2;
    }

pub no_next : (ls : List (List ℕ)) → ((e : Edit) (t : List (List ℕ)) → IsEdit e → ls ≢ line (edit_words e) ∷ t) → (l : List ℕ) (t : List (List ℕ)) → ls ≡ l ∷ t
    → IsNoEdit l
no_next ls none l t e d f same = none d t f (e ∙ ap (λ (x : List ℕ). x ∷ t) same)
