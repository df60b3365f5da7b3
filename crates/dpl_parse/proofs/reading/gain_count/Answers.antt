use Rattle.std.proofs.Common.{subst, ◌≡◌, ◌≢◌, ◌++◌, ◌∷◌, ℕ, List, Option, Some, None}
use Rattle.dpl_parse.specs.declared.heads.GainCount.{GainCount}
use Rattle.dpl_cert.specs.declared.cert.Version.{Version}
use Rattle.dpl_cert.specs.declared.cert.Version.TheVariants.{Three}
use Rattle.dpl_cert.specs.Lines.{line, lines}
use Rattle.dpl_parse.specs.Heads.{IsGainedBy, IsGainCount, gain_count_words, gains_left}
use Rattle.dpl_parse.proofs.Numerals.{given_none}
use Rattle.dpl_parse.proofs.reading.gain_count.Goals as goal

no_count : (v : Version) → v ≡ Three → (ls : List (List ℕ)) → ((x : GainCount) (t : List (List ℕ)) → IsGainCount x → ls ≢ line (gain_count_words 0 x) ∷ t)
    → (o : Option ℕ) (t : List (List ℕ)) → IsGainedBy v o → ls ≡ gains_left o ++ t → ⊥
no_count v three ls none None t is e = subst (λ (w : Version). IsGainedBy w None) three is
no_count v three ls none (Some n) t is e = none (record { len = n }) t (subst (λ (w : Version). IsGainedBy w (Some n)) three is) e

pub returns-in_err-gains-in-Three-clause-none : goal.returns-in_err-gains-in-Three-clause-none
returns-in_err-gains-in-Three-clause-none c =
    given_none {P = (o : Option ℕ) (t : List (List ℕ)) → IsGainedBy c.args.version o → lines c.args.bytes.now ≢ gains_left o ++ t} _
    (no_count c.args.version c.in-Three.is (lines c.args.bytes.now) c.in_err-gains-in-Three.ensures.none)
