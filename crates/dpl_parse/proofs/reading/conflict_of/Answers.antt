use Rattle.std.proofs.Common.{◌≡◌, ◌++◌, List, ℕ, refl, sym, ap, ◌∙◌, subst, append_assoc}
use Rattle.dpl_cert.specs.Lines.{lines}
use Rattle.dpl_cert.specs.Grammar.{rows, place_words, near_words}
use Rattle.dpl_parse.specs.Reading.{FailsAs}
use Rattle.dpl_parse.proofs.Prefixes.{handed}
use Rattle.dpl_parse.specs.Heads.{conflict_counts}
use Rattle.dpl_parse.proofs.Conflicts.{IsPlain, conflict_head, conflict_prefix, conflict_cycle, conflict_places, conflict_nears, conflict_end}
use Rattle.dpl_parse.proofs.reading.conflict_of.Goals as goal

pub returns-in_default : goal.returns-in_default
returns-in_default c =
    let plain : IsPlain c.args.version c.args.head = record { head = c.requires.head; version = c.requires.version; kind = c.requires.kind } in
    conflict_cycle c.args.version c.args.head plain (lines c.args.bytes.now) (λ x t f e. c.in_default.ensures.none x t f e)

pub returns-in_err-places : goal.returns-in_err-places
returns-in_err-places c =
    let h = c.args.head in
    let plain : IsPlain c.args.version h = record { head = c.requires.head; version = c.requires.version; kind = c.requires.kind } in
    let n = c.in-Some.cycle.len in
    let cycle = c.in-Some.ensures.found in
    let bad = conflict_places c.args.version h n plain cycle.0 (lines c.in-Some.rest.now) c.in_err-places.field-0.0 c.in_err-places.ensures.fault in
    let there : conflict_counts c.args.version h ++ lines c.args.bytes.now ≡ conflict_head c.args.version h n ++ lines c.in-Some.rest.now = ap
    (λ (x : List (List ℕ)). conflict_counts c.args.version h ++ x) cycle.1 in
    handed _ c.from_residual.result c.in_err-places.field-0.0 c.from_residual.ensures.1 (subst (λ (x : List (List ℕ)). FailsAs x c.in_err-places.field-0.0) (sym there) bad)

pub returns-in_err-near : goal.returns-in_err-near
returns-in_err-near c =
    let h = c.args.head in
    let plain : IsPlain c.args.version h = record { head = c.requires.head; version = c.requires.version; kind = c.requires.kind } in
    let n = c.in-Some.cycle.len in
    let cycle = c.in-Some.ensures.found in
    let cs = c.in_ok-places.places.items in
    let found = c.in_ok-places.ensures.found in
    let rest = lines c.in_ok-places.rest.now in
    let bad = conflict_nears c.args.version h n cs plain cycle.0 found.0 found.1 rest _ c.in_err-near.field-0.0 refl c.in_err-near.ensures.fault in
    let there : conflict_counts c.args.version h ++ lines c.args.bytes.now ≡ conflict_prefix c.args.version h n cs ++ rest =
    ap (λ (x : List (List ℕ)). conflict_counts c.args.version h ++ x) cycle.1 ∙ ap (λ (x : List (List ℕ)). conflict_head c.args.version h n ++ x) found.2
    ∙ sym (append_assoc (conflict_head c.args.version h n) (rows place_words 0 cs) rest) in
    handed _ c.from_residual-in_err-near.result c.in_err-near.field-0.0 c.from_residual-in_err-near.ensures.1
    (subst (λ (x : List (List ℕ)). FailsAs x c.in_err-near.field-0.0) (sym there) bad)

pub returns-in_err-ended : goal.returns-in_err-ended
returns-in_err-ended c =
    let h = c.args.head in
    let plain : IsPlain c.args.version h = record { head = c.requires.head; version = c.requires.version; kind = c.requires.kind } in
    let n = c.in-Some.cycle.len in
    let cycle = c.in-Some.ensures.found in
    let cs = c.in_ok-places.places.items in
    let ns = c.in_ok-near.near.items in
    let found = c.in_ok-places.ensures.found in
    let more = c.in_ok-near.ensures.found in
    let rest = lines c.in_ok-near.rest.now in
    let bad = conflict_end c.args.version h n cs ns plain cycle.0 found.0 found.1 more.0 more.1 rest _ c.in_err-ended.field-0.0 refl c.in_err-ended.ensures in
    let there : conflict_counts c.args.version h ++ lines c.args.bytes.now ≡ (conflict_prefix c.args.version h n cs ++ rows near_words 0 ns) ++ rest =
    ap (λ (x : List (List ℕ)). conflict_counts c.args.version h ++ x) cycle.1 ∙ ap (λ (x : List (List ℕ)). conflict_head c.args.version h n ++ x)
    (found.2 ∙ ap (λ (x : List (List ℕ)). rows place_words 0 cs ++ x) more.2)
    ∙ sym (append_assoc (conflict_head c.args.version h n) (rows place_words 0 cs) (rows near_words 0 ns ++ rest)) ∙ sym
    (append_assoc (conflict_prefix c.args.version h n cs) (rows near_words 0 ns) rest) in
    handed _ c.from_residual-in_err-ended.result c.in_err-ended.field-0.0 c.from_residual-in_err-ended.ensures.1
    (subst (λ (x : List (List ℕ)). FailsAs x c.in_err-ended.field-0.0) (sym there) bad)
