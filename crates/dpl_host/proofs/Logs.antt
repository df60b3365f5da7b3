-- What a host has logged.
use Rattle.std.proofs.Common.{◌≡◌, ◌∙◌, ◌++◌, ◌∷◌, ap, sym, subst, refl, List, [], ℕ, Option, Some, None}
use Rattle.std.specs.Prelude.{All, IfSome}
use Rattle.std.proofs.lemmas.List.{append-nil, append_assoc}
use Rattle.std.proofs.lemmas.List.Elements.{All-nil, All-cons, All-append, All-same}
use Rattle.dpl_host.specs.Calls.{Append, AreReadsOf, AreSays, Call, Create, IsWritingOf, Logged, Logs, Read, Say}

abbrev Behind : Option (List Call) → (List Call → Type 0) → Option (List Call) → Type 0
Behind before P now = IfSome now (λ l. (k calls : List Call) × (before ≡ Some k) × (l ≡ k ++ calls) × P calls)

none_behind : (log : Option (List Call)) (P : List Call → Type 0) → P [] → Behind log P log
none_behind None P p = tt
none_behind (Some k) P p = (k, [], refl, sym (append-nil k), p)

both_behind : (before mid now : Option (List Call)) (P Q R : List Call → Type 0) → ((xs ys : List Call) → P xs → Q ys → R (xs ++ ys))
    → Behind before P mid → Behind mid Q now → Behind before R now
both_behind before mid None P Q R join first second = tt
both_behind before mid (Some l) P Q R join first second =
    let (m, ys, from, is, q) = second in
    let one : Behind before P (Some m) = subst (λ (o : Option (List Call)). Behind before P o) from first in
    let (k, xs, start, was, p) = one in
    (k, xs ++ ys, start, is ∙ ap (λ (c : List Call). c ++ ys) was ∙ append_assoc k xs ys, join xs ys p q)

weaker_behind : (before now : Option (List Call)) (P Q : List Call → Type 0) → ((xs : List Call) → P xs → Q xs) → Behind before P now → Behind before Q now
weaker_behind before None P Q more h = tt
weaker_behind before (Some l) P Q more h = let (k, xs, start, is, p) = h in (k, xs, start, is, more xs p)

-- nothing was logged
pub logged_none : (log : Option (List Call)) (P : List Call → Type 0) → P [] → Logged log log P
logged_none log P p = record { behind = none_behind log P p }

-- some calls, and then others
pub logged_both : (before mid now : Option (List Call)) (P Q R : List Call → Type 0) → ((xs ys : List Call) → P xs → Q ys → R (xs ++ ys))
    → Logged before mid P → Logged mid now Q → Logged before now R
logged_both before mid now P Q R join first second = record { behind = both_behind before mid now P Q R join first.behind second.behind }

pub logged_weaker : (before now : Option (List Call)) (P Q : List Call → Type 0) → ((xs : List Call) → P xs → Q xs) → Logged before now P → Logged before now Q
logged_weaker before now P Q more h = record { behind = weaker_behind before now P Q more h.behind }

-- each of the calls is this one
abbrev Each : Call → List Call → Type 0
Each call calls = All (λ c. c ≡ call) calls

one_call : (call : Call) (calls : List Call) → calls ≡ call ∷ [] → Each call calls
one_call call calls is = All-same (λ c. c ≡ call) calls (call ∷ []) is (All-cons (λ c. c ≡ call) call [] refl (All-nil (λ c. c ≡ call)))

once_more : (before mid now : Option (List Call)) (call : Call) → Logged before mid (Each call) → Logs mid call now → Logged before now (Each call)
once_more before mid now call first second = logged_both before mid now (Each call) (λ calls. calls ≡ call ∷ []) (Each call)
    (λ xs ys p q. All-append (λ c. c ≡ call) xs ys p (one_call call ys q)) first second

pub no_reads : {log : Option (List Call)} {name : List ℕ} → Logged log log (AreReadsOf name)
no_reads {log} {name} = logged_none log (AreReadsOf name) (All-nil (λ c. c ≡ Read name))

pub no_says : {log : Option (List Call)} → Logged log log AreSays
no_says {log} = logged_none log AreSays (All-nil (λ c. c ≡ Say))

pub read_more : {before mid now : Option (List Call)} (name : List ℕ) → Logged before mid (AreReadsOf name) → Logs mid (Read name) now → Logged before now (AreReadsOf name)
read_more {before} {mid} {now} name first second = once_more before mid now (Read name) first second

pub said_more : {before mid now : Option (List Call)} → Logged before mid AreSays → Logs mid Say now → Logged before now AreSays
said_more {before} {mid} {now} first second = once_more before mid now Say first second

pub created : {before now : Option (List Call)} (name : List ℕ) → Logs before (Create name) now → Logged before now (IsWritingOf name)
created {before} {now} name h = logged_weaker before now (λ calls. calls ≡ Create name ∷ []) (IsWritingOf name)
    (λ calls is. ([], is, All-nil (λ c. c ≡ Append name))) h

longer : (name : List ℕ) (xs ys : List Call) → IsWritingOf name xs → ys ≡ Append name ∷ [] → IsWritingOf name (xs ++ ys)
longer name xs ys (appends, is, all) more = (
  appends ++ ys,
  ap (λ (l : List Call). l ++ ys) is,
  All-append (λ c. c ≡ Append name) appends ys all (one_call (Append name) ys more),
)

pub appended : {before mid now : Option (List Call)} (name : List ℕ) → Logged before mid (IsWritingOf name) → Logs mid (Append name) now
    → Logged before now (IsWritingOf name)
appended {before} {mid} {now} name first second = logged_both before mid now (IsWritingOf name) (λ calls. calls ≡ Append name ∷ []) (IsWritingOf name) (longer name) first second
