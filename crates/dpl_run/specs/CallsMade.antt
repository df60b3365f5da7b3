-- The calls that were made so far.
use Rattle.std.specs.Prelude.{◌≡◌, ◌⊎◌, ℕ, List, [], map}
use Rattle.clap.specs.Walk.{Text}
use Rattle.dpl_host.specs.Calls.{AreReadsOf, Call}
use Rattle.dpl_cert.specs.declared.cert.Cert.{Cert}
use Rattle.dpl_spec_verdict.specs.Masks.{IsOfMasks}
use Rattle.dpl_words.specs.Meaning.{CheckValues}

-- OUT is read only for a certificate of masks
pub record AreReadsBehind (v : CheckValues) (cert : Cert) (calls : List Call) : Type 0 where
  pub of_out : (calls ≡ []) ⊎ (AreReadsOf v.output calls × IsOfMasks cert)

abbrev pub names_of : List (Text × List ℕ) → List Text
names_of writes = map (λ w. w.0) writes
