use Rattle.std.proofs.Common.{◌≢◌, List, ℕ}
use Rattle.dpl_parse.specs.declared.heads.Counts.{Counts}
use Rattle.dpl_parse.specs.Heads.{AreCounts, counts_words}
use Rattle.dpl_parse.proofs.Leading.{after}
use Rattle.dpl_parse.proofs.Numerals.{given_none}
use Rattle.dpl_parse.proofs.heads.CountsRow.read.Goals as goal

abbrev Unread : List (List ℕ) → ℕ → Type 0
Unread w n = (x : Counts) → AreCounts x → w ≢ counts_words n x

pub returns-in_err-literal-clause-none : goal.returns-in_err-literal-clause-none
returns-in_err-literal-clause-none c =
    given_none {P = Unread c.args.words.now c.args._n} _ (λ x f e. c.in_err-literal.ensures.none _ e)

pub returns-in_err-features-clause-none : goal.returns-in_err-features-clause-none
returns-in_err-features-clause-none c =
    given_none {P = Unread c.args.words.now c.args._n} _ (λ x f e.
    c.in_err-features.ensures.none x.features _ f.features (after c.in_ok-literal.ensures.found e))

pub returns-in_err-literal-2-clause-none : goal.returns-in_err-literal-2-clause-none
returns-in_err-literal-2-clause-none c =
    given_none {P = Unread c.args.words.now c.args._n} _ (λ x f e.
    c.in_err-literal-2.ensures.none _ (after c.in_ok-features.ensures.found.1 (after c.in_ok-literal.ensures.found e)))

pub returns-in_err-pieces-clause-none : goal.returns-in_err-pieces-clause-none
returns-in_err-pieces-clause-none c =
    given_none {P = Unread c.args.words.now c.args._n} _ (λ x f e.
    c.in_err-pieces.ensures.none x.pieces _ f.pieces
    (after c.in_ok-literal-2.ensures.found (after c.in_ok-features.ensures.found.1 (after c.in_ok-literal.ensures.found e))))

pub returns-in_err-literal-3-clause-none : goal.returns-in_err-literal-3-clause-none
returns-in_err-literal-3-clause-none c =
    given_none {P = Unread c.args.words.now c.args._n} _ (λ x f e.
    c.in_err-literal-3.ensures.none _ (after c.in_ok-pieces.ensures.found.1
    (after c.in_ok-literal-2.ensures.found (after c.in_ok-features.ensures.found.1 (after c.in_ok-literal.ensures.found e)))))

pub returns-in_err-zones-clause-none : goal.returns-in_err-zones-clause-none
returns-in_err-zones-clause-none c =
    given_none {P = Unread c.args.words.now c.args._n} _ (λ x f e.
    c.in_err-zones.ensures.none x.zones _ f.zones (after c.in_ok-literal-3.ensures.found (after c.in_ok-pieces.ensures.found.1
    (after c.in_ok-literal-2.ensures.found (after c.in_ok-features.ensures.found.1 (after c.in_ok-literal.ensures.found e))))))

pub returns-in_err-stitches-clause-none : goal.returns-in_err-stitches-clause-none
returns-in_err-stitches-clause-none c =
    given_none {P = Unread c.args.words.now c.args._n} _ (λ x f e.
    c.in_err-stitches.ensures.none x.stitches f.stitches (after c.in_ok-zones.ensures.found.1
    (after c.in_ok-literal-3.ensures.found (after c.in_ok-pieces.ensures.found.1
    (after c.in_ok-literal-2.ensures.found (after c.in_ok-features.ensures.found.1 (after c.in_ok-literal.ensures.found e)))))))

pub returns-clause-found : goal.returns-clause-found
returns-clause-found c =
    let f = c.in_ok-features.ensures.found in
    let p = c.in_ok-pieces.ensures.found in
    let z = c.in_ok-zones.ensures.found in
    let s = c.in_ok-stitches.ensures.found in (
      record { features = f.0; pieces = p.0; zones = z.0; stitches = s.0 },
      rw (c.in_ok-literal.ensures.found, f.1, c.in_ok-literal-2.ensures.found, p.1, c.in_ok-literal-3.ensures.found, z.1, s.1),
    )
