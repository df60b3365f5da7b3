-- Files that are written one after another, by calls.
use Rattle.std.proofs.Common.{◌≡◌, ◌++◌, ◌∷◌, sym, subst, refl, List, [], ℕ, Option}
use Rattle.std.specs.Prelude.{Result, Ok, Err, OnErr, OnOk}
use Rattle.std.proofs.lemmas.List.{append-nil, append_assoc}
use Rattle.std.proofs.lemmas.List.Elements.{All-nil}
use Rattle.clap.specs.Walk.{Text}
use Rattle.dpl_host.specs.Calls.{Append, AreSays, Call, Create, IsWritingOf, Logged, Say}
use Rattle.dpl_host.proofs.Logs.{logged_both, logged_none, logged_weaker}
use Rattle.dpl_run.specs.Calls.{AreWritings, BeginWritings}
use Rattle.dpl_run.specs.CallsMade.{names_of}

abbrev Log : Type 0
Log = Option (List Call)

abbrev Writes : Type 0
Writes = List (Text × List ℕ)

-- with these calls before it, the writing of the rest is that of all
pub record LeadsTo (all rest : List (Text × List ℕ)) (calls : List Call) : Type 0 where
  pub leads : (more : List Call) → AreWritings (names_of rest) more → AreWritings (names_of all) (calls ++ more)

pub lead_none : {all : Writes} {log : Log} → Logged log log (LeadsTo all all)
lead_none {all} {log} = logged_none log (LeadsTo all all) (record { leads = λ more h. h })

lead_on : (all more : Writes) (w : Text × List ℕ) (xs ys : List Call) → LeadsTo all (w ∷ more) xs → IsWritingOf w.0 ys → LeadsTo all more (xs ++ ys)
lead_on all more w xs ys lead wrote = record {
  leads = λ zs h. subst (AreWritings (names_of all)) (sym (append_assoc xs ys zs)) (lead.leads (ys ++ zs) (ys, zs, refl, wrote, h));
}

pub lead_next : {all rest more : Writes} {w : Text × List ℕ} {before mid now : Log} → Logged before mid (LeadsTo all rest) → rest ≡ w ∷ more
    → Logged mid now (IsWritingOf w.0) → Logged before now (LeadsTo all more)
lead_next {all} {rest} {more} {w} {before} {mid} {now} lead is wrote =
    let here : Logged before mid (LeadsTo all (w ∷ more)) = subst (λ (l : Writes). Logged before mid (LeadsTo all l)) is lead in
    logged_both before mid now (LeadsTo all (w ∷ more)) (IsWritingOf w.0) (LeadsTo all more) (lead_on all more w) here wrote

-- there is some way to write files
some_writings : (names : List Text) → (calls : List Call) × AreWritings names calls
some_writings [] = ([], All-nil (λ c. c ≡ Say))
some_writings (name ∷ names) =
    let more = some_writings names in
    (Create name ∷ more.0, (Create name ∷ [], more.0, refl, ([], refl, All-nil (λ c. c ≡ Append name)), more.1))

begins : (all rest : Writes) (calls : List Call) → LeadsTo all rest calls → BeginWritings (names_of all) calls
begins all rest calls lead = let more = some_writings (names_of rest) in (more.0, lead.leads more.0 more.1)

lead_begun : {all rest more : Writes} {w : Text × List ℕ} {before mid now : Log} → Logged before mid (LeadsTo all rest) → rest ≡ w ∷ more
    → Logged mid now (IsWritingOf w.0) → Logged before now (BeginWritings (names_of all))
lead_begun {all} {rest} {more} {w} {before} {mid} {now} lead is wrote =
    logged_weaker before now (LeadsTo all more) (BeginWritings (names_of all)) (begins all more) (lead_next lead is wrote)

pub all_written : {all rest : Writes} {before mid now : Log} → Logged before mid (LeadsTo all rest) → rest ≡ [] → Logged mid now AreSays
    → Logged before now (AreWritings (names_of all))
all_written {all} {rest} {before} {mid} {now} lead is said =
    let here : Logged before mid (LeadsTo all []) = subst (λ (l : Writes). Logged before mid (LeadsTo all l)) is lead in
    logged_both before mid now (LeadsTo all []) AreSays (AreWritings (names_of all)) (λ xs ys h says. h.leads ys says) here said

pub part_said : {all rest : Writes} {before mid now : Log} → Logged before mid (LeadsTo all rest) → rest ≡ [] → Logged mid now AreSays
    → Logged before now (BeginWritings (names_of all))
part_said {all} {rest} {before} {mid} {now} lead is said =
    logged_weaker before now (AreWritings (names_of all)) (BeginWritings (names_of all))
    (λ calls h. ([], subst (AreWritings (names_of all)) (sym (append-nil calls)) h)) (all_written lead is said)

at_ok : {T E : Type 0} (r : Result T E) (P : Type 0) → P → OnOk r P
at_ok (Ok x) P p = p
at_ok (Err e) P p = tt

at_err : {T E : Type 0} (r : Result T E) (P : Type 0) → P → OnErr r P
at_err (Ok x) P p = tt
at_err (Err e) P p = p

-- the text was said, or some of it
pub on_ok : {T E : Type 0} (r : Result T E) {all rest : Writes} {before mid now : Log} → Logged before mid (LeadsTo all rest) → rest ≡ [] → Logged mid now AreSays
    → OnOk r (Logged before now (AreWritings (names_of all)))
on_ok r {all} {rest} {before} {mid} {now} lead is said = at_ok r (Logged before now (AreWritings (names_of all))) (all_written lead is said)

pub on_err : {T E : Type 0} (r : Result T E) {all rest : Writes} {before mid now : Log} → Logged before mid (LeadsTo all rest) → rest ≡ [] → Logged mid now AreSays
    → OnErr r (Logged before now (BeginWritings (names_of all)))
on_err r {all} {rest} {before} {mid} {now} lead is said = at_err r (Logged before now (BeginWritings (names_of all))) (part_said lead is said)

-- one of the files was written, or some of it
pub lead_part : {T E : Type 0} (r : Result T E) {all rest more : Writes} {w : Text × List ℕ} {before mid now : Log} → Logged before mid (LeadsTo all rest) → rest ≡ w ∷ more
    → Logged mid now (IsWritingOf w.0) → OnErr r (Logged before now (BeginWritings (names_of all)))
lead_part r {all} {rest} {more} {w} {before} {mid} {now} lead is wrote = at_err r (Logged before now (BeginWritings (names_of all))) (lead_begun lead is wrote)
