-- Reading on by one record, and where it stops.
use Rattle.std.proofs.Common.{◌≡◌, ◌≢◌, ℕ, List, [], ◌∷◌, ◌++◌, Some, None, Ok, Err, refl, sym, subst, ap, ◌∙◌, append_assoc}
use Rattle.std.proofs.lemmas.List.{append-nil}
use Rattle.dpl_spec_format.specs.Kinds as kinds
use Rattle.dpl_spec_format.specs.Faults.{Fault, unexpected}
use Rattle.dpl_spec_format.specs.Records.{Record, record_at, Lies}
use Rattle.dpl_spec_format.specs.Grammar.{Grammar, Has, library}
use Rattle.dpl_spec_format.specs.Stream.{kinds_of, refusal}
use Rattle.dpl_spec_format.specs.Layout.{IsSound, IsOpen, IsReadTo, no_record, not_here, refused, IsFirstFault}
use Rattle.dpl_syntax.specs.Reached.{Reached}
use Rattle.dpl_syntax.proofs.Languages.{Exists, Moves, Agrees}

pub lies_push : (bytes : List ℕ) (from : ℕ) (rs : List Record) (at : ℕ) (r : Record) → Lies bytes from rs at → record_at bytes at ≡ Ok r → Lies bytes from (rs ++ r ∷ []) r.next
lies_push bytes from [] at r lies found = (ap (record_at bytes) lies ∙ found, refl)
lies_push bytes from (s ∷ rs) at r lies found = (lies.0, lies_push bytes s.next rs at r lies.1 found)

pub sound_push : (prefix rs : List Record) (r : Record) → IsSound prefix rs → refusal (prefix ++ rs) r ≡ None → IsSound prefix (rs ++ r ∷ [])
sound_push prefix [] r sound fine = (subst (λ (x : List Record). refusal x r ≡ None) (append-nil prefix) fine, tt)
sound_push prefix (s ∷ rs) r sound fine =
    (sound.0, sound_push (prefix ++ s ∷ []) rs r sound.1 (subst (λ (x : List Record). refusal x r ≡ None) (sym (append_assoc prefix (s ∷ []) rs)) fine))

open_push : (rs : List Record) (r : Record) → IsOpen rs → r.kind ≢ kinds.endlib → IsOpen (rs ++ r ∷ [])
open_push [] r goes ne = (ne, tt)
open_push (s ∷ rs) r goes ne = (goes.0, open_push rs r goes.1 ne)

-- the types of the records, with one more
pub kinds_push : (rs : List Record) (r : Record) (more : List ℕ) → kinds_of (rs ++ r ∷ []) ++ more ≡ kinds_of rs ++ r.kind ∷ more
kinds_push [] r more = refl
kinds_push (s ∷ rs) r more = ap (λ (ks : List ℕ). s.kind ∷ ks) (kinds_push rs r more)

module _ (bytes : List ℕ) (before : List Record) (at : ℕ) where
  -- what follows is of another grammar, which has the same
  pub agreed : (g h : Grammar) → Reached bytes before g at → ((r : Record) → record_at bytes at ≡ Ok r → Agrees g r.kind h) → Exists h → Reached bytes before h at
  agreed g h reached agrees some = record {
    lies = reached.lies;
    sound = reached.sound;
    goes_on = reached.goes_on;
    begins = reached.begins;
    some = some;
    on = λ r found ks p. (agrees r found).on ks (reached.on r found ks p);
    back = λ r found ks p. reached.back r found ks ((agrees r found).back ks p);
  }

  pub moved : (g h : Grammar) (r : Record) → Reached bytes before g at → record_at bytes at ≡ Ok r → Moves g r.kind h → Exists h
      → refusal before r ≡ None → r.kind ≢ kinds.endlib → Reached bytes (before ++ r ∷ []) h r.next
  moved g h r reached found moves some fine ne = record {
    lies = lies_push bytes 0 before at r reached.lies found;
    sound = sound_push [] before r reached.sound fine;
    goes_on = open_push before r reached.goes_on ne;
    begins = (some.0, subst (Has library) (sym (kinds_push before r some.0)) (reached.back r found some.0 (moves.back some.0 some.1)));
    some = some;
    on = λ s after ks p. moves.on (s.kind ∷ ks) (reached.on r found (s.kind ∷ ks) (subst (Has library) (kinds_push before r (s.kind ∷ ks)) p));
    back = λ s after ks p. subst (Has library) (sym (kinds_push before r (s.kind ∷ ks))) (reached.back r found (s.kind ∷ ks) (moves.back (s.kind ∷ ks) p));
  }

  is_read : (g : Grammar) → Reached bytes before g at → IsReadTo bytes before at
  is_read g reached = record { lies = reached.lies; begins = reached.begins; sound = reached.sound; goes_on = reached.goes_on }

  pub stops : (g : Grammar) (f : Fault) → Reached bytes before g at → record_at bytes at ≡ Err f → IsFirstFault bytes f
  stops g f reached e = (before, at, is_read g reached, no_record f e)

  pub stops_at : (g : Grammar) (r : Record) → Reached bytes before g at → record_at bytes at ≡ Ok r → ((ks : List ℕ) → Has g (r.kind ∷ ks) → ⊥) → IsFirstFault bytes (unexpected at)
  stops_at g r reached found avoids =
      (before, at, is_read g reached, not_here r found (λ p. avoids p.0 (reached.on r found p.0 (subst (Has library) (kinds_push before r p.0) p.1))))

  pub stops_for : (g h : Grammar) (r : Record) (f : Fault) → Reached bytes before g at → record_at bytes at ≡ Ok r → Moves g r.kind h
      → Exists h → refusal before r ≡ Some f → IsFirstFault bytes f
  stops_for g h r f reached found moves some why = (
    before,
    at,
    is_read g reached,
    refused r f found (
      some.0,
      subst (Has library) (sym (kinds_push before r some.0))
          (reached.back r found some.0 (moves.back some.0 some.1)),
    ) why,
  )
