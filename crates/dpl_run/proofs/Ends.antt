-- How a run ends.
use Rattle.std.proofs.Common.{◌≡◌, ◌∙◌, ap, sym, refl, subst, true, List, ℕ, Option, Some, None}
use Rattle.std.specs.Prelude.{option_map}
use Rattle.dpl_host.specs.Outside.{Outside}
use Rattle.clap.specs.Walk.{Text}
use Rattle.dpl_words.specs.Meaning.{RequestValues, request_of}
use Rattle.dpl_run.specs.Outcome.{IsPartDone, Outcome, TellsFaults, carried_out, is_answered}
use Rattle.dpl_run.specs.declared.status.Status.{Status}
use Rattle.dpl_run.specs.declared.status.Status.TheVariants.{Done, Conflict, Refused, Usage, ReadFault, WriteFault, NoMemory, CheckNo}
use Rattle.dpl_run.specs.Program.{IsCutShort, IsMade, IsOutcome}

-- what was made was done
pub is_outcome : (words : List Text) (made : Outcome) (old mid new : Option Outside) → IsMade (request_of words) old made → mid ≡ old → new ≡ option_map (carried_out made) mid
    → IsOutcome words made.status old new
is_outcome words made old mid new m same done =
    (m.0, m.1, (made, m.2, refl, done ∙ ap (option_map (carried_out made)) same))

-- some of what was made was done
pub is_cut : (words : List Text) (made : Outcome) (old mid new : Option Outside) → IsMade (request_of words) old made → mid ≡ old → IsPartDone made.writes made.line mid new
    → IsCutShort words old new
is_cut words made old mid new m same part =
    (m.0, m.1, (made, m.2, subst (λ (t : Option Outside). IsPartDone made.writes made.line t new) same part))

-- a request that stands for the words
pub of_words : (request : RequestValues) (words : List Text) (old : Option Outside) (made : Outcome) → request_of words ≡ Some request
    → IsMade (Some request) old made → IsMade (request_of words) old made
of_words request words old made is m = subst (λ (r : Option RequestValues). IsMade r old made) (sym is) m

pub of_no_words : (words : List Text) (old : Option Outside) (made : Outcome) → request_of words ≡ None → IsMade None old made → IsMade (request_of words) old made
of_no_words words old made is m = subst (λ (r : Option RequestValues). IsMade r old made) (sym is) m

-- where no call failed, each answer to what was asked tells so
pub none_failed : (s : Status) (reads reads_now writes writes_now : ℕ) → is_answered s ≡ true → reads_now ≡ reads → writes_now ≡ writes
    → TellsFaults s reads reads_now writes writes_now
none_failed Done reads reads_now writes writes_now answered read written = (read, written)
none_failed Conflict reads reads_now writes writes_now answered read written = (read, written)
none_failed Refused reads reads_now writes writes_now answered read written = (read, written)
none_failed Usage reads reads_now writes writes_now answered read written = (read, written)
none_failed ReadFault reads reads_now writes writes_now answered read written = cc
none_failed WriteFault reads reads_now writes writes_now answered read written = cc
none_failed NoMemory reads reads_now writes writes_now answered read written = (read, written)
none_failed CheckNo reads reads_now writes writes_now answered read written = (read, written)
