-- The words that `clap` takes.
use Rattle.std.proofs.Common.{◌≡◌, refl, true, false, List, [], ◌∷◌, None, arith}
use Rattle.std.proofs.lemmas.Bool.{ne_eqb}
use Rattle.clap.specs.Kinds.{IsAmong, Kinds}
use Rattle.std.proofs.Common.{Bool, is_some}
use Rattle.clap.specs.Walk.{Row, finished, nothing_held, settled, walk, walk_from}
use Rattle.clap.specs.Simple.{argument_words, built, names_of}
use Rattle.clap.specs.Faults.{check_fault, defaults_fault, entered_fault, settle_fault, walk_fault}
use Rattle.clap.proofs.SimpleLemmas.{is_nil}
use Rattle.clap.specs.Walk.{Text, is_empty}
use Rattle.clap.specs.Simple.{is_simple, subcommand_of}
use Rattle.clap.specs.Faults.{fault_of, is_simple_and_free}
use Rattle.clap.specs.declared.error.kind.ErrorKind.{ErrorKind}
use Rattle.clap.proofs.OnLiterals.{clap_on_literals}
use Rattle.dpl_words.proofs.Walking.{none_of}
use Rattle.dpl_words.specs.Definition.{dpl_app}
use Rattle.dpl_words.specs.Meaning.{asked_of, is_taken, request_of}

pub simple : is_simple dpl_app ≡ true
unfolding clap_on_literals
simple = refl

pub simple_and_free : is_simple_and_free dpl_app ≡ true
unfolding clap_on_literals
simple_and_free = refl

some_kind : (k : ErrorKind) (kinds : Kinds) → IsAmong k kinds → is_empty kinds ≡ false
some_kind k [] h = absurd h
some_kind k (x ∷ xs) h = ne_eqb _ _ (λ e. omega arith)

pub not_taken : (words : List Text) (k : ErrorKind) → IsAmong k (fault_of dpl_app words) → request_of words ≡ None
unfolding request_of
not_taken words k h = rw (some_kind k (fault_of dpl_app words) h) refl

pub taken : (words : List Text) → fault_of dpl_app words ≡ [] → request_of words ≡ asked_of (subcommand_of dpl_app words)
unfolding request_of
taken words h = rw h refl

-- without a subcommand the last check fails
checked : (rows : List Row) (has : Bool) → check_fault (built dpl_app).top rows has ≡ [] → has ≡ true
checked rows true e = refl
checked rows false e = absurd (cc)

pub met : (words : List Text) → is_taken words ≡ true → is_some (subcommand_of dpl_app words) ≡ true
met words e =
    let a = built dpl_app in
    let given = argument_words dpl_app words in
    let end = walk a.top.rules (names_of a) nothing_held given in
    let none = is_nil (fault_of dpl_app words) e in
    let after_walk = (none_of (walk_fault a.top (names_of a) (walk_from nothing_held) given) _ none).1 in
    let after_below = (none_of (entered_fault a end.stopped) _ after_walk).1 in
    let after_settle = (none_of (settle_fault a.top.rules a.top.args_override_self end.held) _ after_below).1 in
    let last = (none_of (defaults_fault (settled a.top.rules end.held).rows a.top.rules) _ after_settle).1 in
    checked (finished a.top.rules end.held) (is_some (subcommand_of dpl_app words)) last
