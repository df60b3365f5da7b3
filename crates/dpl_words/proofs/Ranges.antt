-- The words that `clap` takes give each value of their subcommand, in its range.
use Rattle.std.proofs.Common.{◌≡◌, ◌≤◌, ◌⊎◌, Bool, ◌&&◌, not, cond, true, false, true≢false, List, [], ◌∷◌, Option, Some, None, option_map, nat_lt}
use Rattle.std.proofs.Common.{◌==◌, is_some, refl, sym, subst, inl, inr, arith, ℕ, zero, suc}
use Rattle.std.specs.Str.{bytes_eq}
use Rattle.std.specs.Prelude.{find, slice_get, unwrap_or, IfSome, map, length, codes, All}
use Rattle.std.proofs.lemmas.List.Elements.{All-cons, All-head, All-nil, All-tail}
use Rattle.std.specs.List.{list_any}
use Rattle.clap.specs.Kinds.{check_kinds}
use Rattle.clap.specs.Takes.{is_given}
use Rattle.dpl_words.proofs.Rows.{HasDefault}
use Rattle.std.specs.Option.{option_map_or}
use Rattle.clap.specs.Walk.{Row, Rule, Text, answers_to, nothing_held, one_of, rows_after, walk, walk_from, action_of}
use Rattle.clap.specs.Simple.{Shape, argument_words, built, entered, label_of, names_of, new_rule, rows_at, subcommand_of}
use Rattle.clap.specs.Facts.{unwrap_or_range}
use Rattle.clap.specs.declared.builder.action.ArgAction.TheVariants.{Set, Append, SetTrue}
use Rattle.clap.specs.Faults.{check_fault, entered_fault, fault_of, level_fault, walk_fault}
use Rattle.clap.proofs.OnLiterals.{clap_on_literals}
use Rattle.dpl_words.specs.Definition.{dpl_app, split_shape}
use Rattle.dpl_words.specs.Ranges.{AreFrom, AreInRange, AreInRangeForBatch, AreInRangeForCheck, AreInRangeForDemo, AreInRangeForEdit}
use Rattle.dpl_words.specs.Ranges.{AreThere, AreThereForBatch, AreThereForCheck, AreThereForDemo, AreThereForEdit, HasItsValues, IsFrom, IsFromIfGiven}
use Rattle.clap.proofs.WalkLemmas.{both}
use Rattle.dpl_words.specs.Meaning.{BatchValues, EditValues, batch_values, check_values, demo_values, edit_values, split_values}
use Rattle.dpl_words.specs.Meaning.{is_apart, is_batch_apart, is_edit_apart, is_taken, number_below}
use Rattle.std.proofs.lemmas.Bool.{ltb-false}
use Rattle.clap.proofs.SimpleLemmas.{is_nil}
use Rattle.dpl_words.proofs.Level.{AreRead, IsPlainLevel, IsRead, default_read, each_row, flag_read, given_read}
use Rattle.dpl_words.proofs.Level.{number_read, numbers_read, required_read, required_reads, row_read, text_read, word_read}
use Rattle.dpl_words.proofs.Walking.{IsIn, LeavesOne, none_of}

-- the level of the subcommand at this place, as it is built
abbrev level_at : ℕ → Shape
level_at i = unwrap_or (slice_get (built dpl_app).subs i) split_shape

abbrev split_level : Shape
split_level = level_at 0

abbrev check_level : Shape
check_level = level_at 1

abbrev demo_level : Shape
demo_level = level_at 2

abbrev batch_level : Shape
batch_level = level_at 3

abbrev edit_level : Shape
edit_level = level_at 4

-- the argument at this place
abbrev at : Shape → ℕ → Rule
at level i = unwrap_or (slice_get level.rules i) (new_rule [])

-- what stands at a place of a list is in it
in_list : (xs : List Rule) (i : ℕ) (a : Rule) → slice_get xs i ≡ Some a → IsIn a xs
in_list [] i a e = absurd (cc)
in_list (x ∷ xs) zero a e = inl (cc)
in_list (x ∷ xs) (suc i) a e = inr (in_list xs i a e)

-- the argument at this place, where there is one, is an argument of the level
stands : (level : Shape) (i : ℕ) → slice_get level.rules i ≡ Some (at level i) → IsIn (at level i) level.rules
stands level i e = in_list level.rules i (at level i) e

-- a use of each argument of the level leaves one value
abbrev Each : List Rule → Type 0
Each [] = Unit {0}
Each (a ∷ rest) = LeavesOne a × Each rest

of_each : (xs : List Rule) → Each xs → (a : Rule) → IsIn a xs → LeavesOne a
of_each [] each a of = absurd of
of_each (x ∷ xs) each a (inl is) = subst LeavesOne (sym is) each.0
of_each (x ∷ xs) each a (inr of) = of_each xs each.1 a of

one : (a : Rule) → action_of a ≡ Set → (unwrap_or_range a.range).start_inclusive ≡ 1 → LeavesOne a
one a x y = inl (record { action = inl x; least = y })

-- and so does each use of one that may be repeated
again : (a : Rule) → action_of a ≡ Append → (unwrap_or_range a.range).start_inclusive ≡ 1 → LeavesOne a
again a x y = inl (record { action = inr x; least = y })

flag : (a : Rule) → action_of a ≡ SetTrue → a.missing ≡ codes "true" ∷ [] → LeavesOne a
flag a x y = inr (record { action = x; missing = y })

each_split : Each split_level.rules
unfolding clap_on_literals
each_split = (
  one _ refl refl,
  (
    one _ refl refl,
    (
      one _ refl refl,
      (
        one _ refl refl,
        (
          one _ refl refl,
          (
            one _ refl refl,
            (
              one _ refl refl,
              (
                one _ refl refl,
                (
                  one _ refl refl,
                  (
                    one _ refl refl,
                    (
                      one _ refl refl,
                      (
                        one _ refl refl,
                        (
                          flag _ refl refl,
                          (
                            one _ refl refl,
                            (one _ refl refl, (one _ refl refl, tt)),
                          ),
                        ),
                      ),
                    ),
                  ),
                ),
              ),
            ),
          ),
        ),
      ),
    ),
  ),
)

plain_split : IsPlainLevel split_level
unfolding clap_on_literals
plain_split = record { single = of_each split_level.rules each_split; no_short = λ x. refl; apart = refl }

each_check : Each check_level.rules
unfolding clap_on_literals
each_check = (
  one _ refl refl,
  (
    one _ refl refl,
    (
      one _ refl refl,
      (
        one _ refl refl,
        (
          one _ refl refl,
          (
            one _ refl refl,
            (
              one _ refl refl,
              (one _ refl refl, (one _ refl refl, (one _ refl refl, (one _ refl refl, (one _ refl refl, (one _ refl refl, tt)))))),
            ),
          ),
        ),
      ),
    ),
  ),
)

plain_check : IsPlainLevel check_level
unfolding clap_on_literals
plain_check = record { single = of_each check_level.rules each_check; no_short = λ x. refl; apart = refl }

each_demo : Each demo_level.rules
unfolding clap_on_literals
each_demo = (one _ refl refl, (one _ refl refl, (one _ refl refl, (one _ refl refl, tt))))

plain_demo : IsPlainLevel demo_level
unfolding clap_on_literals
plain_demo = record { single = of_each demo_level.rules each_demo; no_short = λ x. refl; apart = refl }

each_batch : Each batch_level.rules
unfolding clap_on_literals
each_batch = (
  one _ refl refl,
  (
    one _ refl refl,
    (
      one _ refl refl,
      (
        one _ refl refl,
        (
          one _ refl refl,
          (
            one _ refl refl,
            (
              one _ refl refl,
              (one _ refl refl, (one _ refl refl, (one _ refl refl, (one _ refl refl, (again _ refl refl, tt))))),
            ),
          ),
        ),
      ),
    ),
  ),
)

plain_batch : IsPlainLevel batch_level
unfolding clap_on_literals
plain_batch = record { single = of_each batch_level.rules each_batch; no_short = λ x. refl; apart = refl }

each_edit : Each edit_level.rules
unfolding clap_on_literals
each_edit = (
  one _ refl refl,
  (
    one _ refl refl,
    (
      one _ refl refl,
      (
        one _ refl refl,
        (
          one _ refl refl,
          (
            one _ refl refl,
            (
              one _ refl refl,
              (one _ refl refl, (one _ refl refl, (one _ refl refl, (one _ refl refl, (one _ refl refl, (one _ refl refl, tt)))))),
            ),
          ),
        ),
      ),
    ),
  ),
)

plain_edit : IsPlainLevel edit_level
unfolding clap_on_literals
plain_edit = record { single = of_each edit_level.rules each_edit; no_short = λ x. refl; apart = refl }

-- what is read of the arguments of `split` gives each value
split_there : (rows : List Row) → ((a : Rule) → IsIn a split_level.rules → a.required ≡ true → IsRead a rows)
    → ((a : Rule) → IsIn a split_level.rules → HasDefault a → IsRead a rows)
    → ((a : Rule) → IsIn a split_level.rules → (one_of a.id rows ≡ None) ⊎ IsRead a rows) → AreThere rows
unfolding clap_on_literals
split_there rows wanted given left_out = record {
  layer = number_read 16 0 65535 (at split_level 0) rows (omega arith) refl (wanted (at split_level 0) (stands split_level 0 refl) refl);
  rule = number_read 32 1 1000000 (at split_level 1) rows (omega arith) refl (wanted (at split_level 1) (stands split_level 1 refl) refl);
  overlap = number_read 32 1 1000000 (at split_level 2) rows (omega arith) refl (wanted (at split_level 2) (stands split_level 2 refl) refl);
  corner = given_read 32 1 1000000 (at split_level 3) rows (omega arith) refl (left_out (at split_level 3) (stands split_level 3 refl));
  datatype = number_read 16 0 65535 (at split_level 4) rows (omega arith) refl (given (at split_level 4) (stands split_level 4 refl) (_, _, refl));
  a = number_read 16 0 65535 (at split_level 6) rows (omega arith) refl (given (at split_level 6) (stands split_level 6 refl) (_, _, refl));
  b = number_read 16 0 65535 (at split_level 7) rows (omega arith) refl (given (at split_level 7) (stands split_level 7 refl) (_, _, refl));
  mark_a = given_read 16 0 65535 (at split_level 8) rows (omega arith) refl (left_out (at split_level 8) (stands split_level 8 refl));
  mark_b = given_read 16 0 65535 (at split_level 9) rows (omega arith) refl (left_out (at split_level 9) (stands split_level 9 refl));
  tile = number_read 32 1 1073741824 (at split_level 10) rows (omega arith) refl (given (at split_level 10) (stands split_level 10 refl) (_, _, refl));
  workers = number_read 32 1 64 (at split_level 11) rows (omega arith) refl (given (at split_level 11) (stands split_level 11 refl) (_, _, refl));
  fewer = flag_read (at split_level 12) rows refl (given (at split_level 12) (stands split_level 12 refl) (_, _, refl));
  input = text_read (at split_level 13) rows (wanted (at split_level 13) (stands split_level 13 refl) refl);
  output = text_read (at split_level 14) rows (wanted (at split_level 14) (stands split_level 14 refl) refl);
  certificate = text_read (at split_level 15) rows (wanted (at split_level 15) (stands split_level 15 refl) refl);
}

-- what is read of the arguments of `check` gives each value
check_there : (rows : List Row) → ((a : Rule) → IsIn a check_level.rules → a.required ≡ true → IsRead a rows)
    → ((a : Rule) → IsIn a check_level.rules → HasDefault a → IsRead a rows)
    → ((a : Rule) → IsIn a check_level.rules → (one_of a.id rows ≡ None) ⊎ IsRead a rows) → AreThereForCheck rows
unfolding clap_on_literals
check_there rows wanted given left_out = record {
  layer = number_read 16 0 65535 (at check_level 0) rows (omega arith) refl (wanted (at check_level 0) (stands check_level 0 refl) refl);
  rule = number_read 32 1 1000000 (at check_level 1) rows (omega arith) refl (wanted (at check_level 1) (stands check_level 1 refl) refl);
  overlap = number_read 32 1 1000000 (at check_level 2) rows (omega arith) refl (wanted (at check_level 2) (stands check_level 2 refl) refl);
  corner = given_read 32 1 1000000 (at check_level 3) rows (omega arith) refl (left_out (at check_level 3) (stands check_level 3 refl));
  datatype = number_read 16 0 65535 (at check_level 4) rows (omega arith) refl (given (at check_level 4) (stands check_level 4 refl) (_, _, refl));
  a = number_read 16 0 65535 (at check_level 6) rows (omega arith) refl (given (at check_level 6) (stands check_level 6 refl) (_, _, refl));
  b = number_read 16 0 65535 (at check_level 7) rows (omega arith) refl (given (at check_level 7) (stands check_level 7 refl) (_, _, refl));
  mark_a = given_read 16 0 65535 (at check_level 8) rows (omega arith) refl (left_out (at check_level 8) (stands check_level 8 refl));
  mark_b = given_read 16 0 65535 (at check_level 9) rows (omega arith) refl (left_out (at check_level 9) (stands check_level 9 refl));
  input = text_read (at check_level 10) rows (wanted (at check_level 10) (stands check_level 10 refl) refl);
  output = text_read (at check_level 11) rows (wanted (at check_level 11) (stands check_level 11 refl) refl);
  certificate = text_read (at check_level 12) rows (wanted (at check_level 12) (stands check_level 12 refl) refl);
}

-- what is read of the arguments of `demo` gives each value
demo_there : (rows : List Row) → ((a : Rule) → IsIn a demo_level.rules → a.required ≡ true → IsRead a rows)
    → ((a : Rule) → IsIn a demo_level.rules → HasDefault a → IsRead a rows) → AreThereForDemo rows
unfolding clap_on_literals
demo_there rows wanted given = record {
  seed = word_read 0 18446744073709551615 (at demo_level 0) rows refl (wanted (at demo_level 0) (stands demo_level 0 refl) refl);
  rows = number_read 32 1 1000000 (at demo_level 1) rows (omega arith) refl (wanted (at demo_level 1) (stands demo_level 1 refl) refl);
  tile = number_read 32 1 1073741824 (at demo_level 2) rows (omega arith) refl (given (at demo_level 2) (stands demo_level 2 refl) (_, _, refl));
  workers = number_read 32 1 64 (at demo_level 3) rows (omega arith) refl (given (at demo_level 3) (stands demo_level 3 refl) (_, _, refl));
}

-- what is read of the arguments of `batch` gives each value
batch_there : (rows : List Row) → ((a : Rule) → IsIn a batch_level.rules → a.required ≡ true → IsRead a rows)
    → ((a : Rule) → IsIn a batch_level.rules → HasDefault a → IsRead a rows)
    → ((a : Rule) → IsIn a batch_level.rules → (one_of a.id rows ≡ None) ⊎ IsRead a rows)
    → ((a : Rule) → IsIn a batch_level.rules → a.required ≡ true → AreRead a rows) → AreThereForBatch rows
unfolding clap_on_literals
batch_there rows wanted given left_out each = record {
  rule = number_read 32 1 1000000 (at batch_level 0) rows (omega arith) refl (wanted (at batch_level 0) (stands batch_level 0 refl) refl);
  overlap = number_read 32 1 1000000 (at batch_level 1) rows (omega arith) refl (wanted (at batch_level 1) (stands batch_level 1 refl) refl);
  corner = given_read 32 1 1000000 (at batch_level 2) rows (omega arith) refl (left_out (at batch_level 2) (stands batch_level 2 refl));
  datatype = number_read 16 0 65535 (at batch_level 3) rows (omega arith) refl (given (at batch_level 3) (stands batch_level 3 refl) (_, _, refl));
  a = number_read 16 0 65535 (at batch_level 5) rows (omega arith) refl (given (at batch_level 5) (stands batch_level 5 refl) (_, _, refl));
  b = number_read 16 0 65535 (at batch_level 6) rows (omega arith) refl (given (at batch_level 6) (stands batch_level 6 refl) (_, _, refl));
  tile = number_read 32 1 1073741824 (at batch_level 7) rows (omega arith) refl (given (at batch_level 7) (stands batch_level 7 refl) (_, _, refl));
  workers = number_read 32 1 64 (at batch_level 8) rows (omega arith) refl (given (at batch_level 8) (stands batch_level 8 refl) (_, _, refl));
  input = text_read (at batch_level 9) rows (wanted (at batch_level 9) (stands batch_level 9 refl) refl);
  prefix = text_read (at batch_level 10) rows (wanted (at batch_level 10) (stands batch_level 10 refl) refl);
  layers = numbers_read 16 0 65535 (at batch_level 11) rows (omega arith) refl (each (at batch_level 11) (stands batch_level 11 refl) refl);
}

-- what is read of the arguments of `edit` gives each value
edit_there : (rows : List Row) → ((a : Rule) → IsIn a edit_level.rules → a.required ≡ true → IsRead a rows)
    → ((a : Rule) → IsIn a edit_level.rules → HasDefault a → IsRead a rows)
    → ((a : Rule) → IsIn a edit_level.rules → (one_of a.id rows ≡ None) ⊎ IsRead a rows) → AreThereForEdit rows
unfolding clap_on_literals
edit_there rows wanted given left_out = record {
  layer = number_read 16 0 65535 (at edit_level 0) rows (omega arith) refl (wanted (at edit_level 0) (stands edit_level 0 refl) refl);
  rule = number_read 32 1 1000000 (at edit_level 1) rows (omega arith) refl (wanted (at edit_level 1) (stands edit_level 1 refl) refl);
  overlap = number_read 32 1 1000000 (at edit_level 2) rows (omega arith) refl (wanted (at edit_level 2) (stands edit_level 2 refl) refl);
  corner = given_read 32 1 1000000 (at edit_level 3) rows (omega arith) refl (left_out (at edit_level 3) (stands edit_level 3 refl));
  datatype = number_read 16 0 65535 (at edit_level 4) rows (omega arith) refl (given (at edit_level 4) (stands edit_level 4 refl) (_, _, refl));
  a = number_read 16 0 65535 (at edit_level 6) rows (omega arith) refl (given (at edit_level 6) (stands edit_level 6 refl) (_, _, refl));
  b = number_read 16 0 65535 (at edit_level 7) rows (omega arith) refl (given (at edit_level 7) (stands edit_level 7 refl) (_, _, refl));
  tile = number_read 32 1 1073741824 (at edit_level 8) rows (omega arith) refl (given (at edit_level 8) (stands edit_level 8 refl) (_, _, refl));
  input = text_read (at edit_level 9) rows (wanted (at edit_level 9) (stands edit_level 9 refl) refl);
  edits = text_read (at edit_level 10) rows (wanted (at edit_level 10) (stands edit_level 10 refl) refl);
  output = text_read (at edit_level 11) rows (wanted (at edit_level 11) (stands edit_level 11 refl) refl);
  certificate = text_read (at edit_level 12) rows (wanted (at edit_level 12) (stands edit_level 12 refl) refl);
}

split_given : (rows : List Row) → check_fault split_level rows false ≡ [] → list_any (λ a. a.required && not (is_given a.id rows)) split_level.rules ≡ false
unfolding clap_on_literals
split_given rows e = go (list_any (λ a. a.required && not (is_given a.id rows)) split_level.rules) e
  where
    go : (b : Bool) → check_kinds false false b ≡ [] → b ≡ false
    go false e = refl
    go true e = absurd (cc)

split_level_there : (words : List Text) → level_fault split_level [] nothing_held words false [] ≡ [] → AreThere (rows_after split_level.rules [] words)
split_level_there words e =
    let parts = each_row split_level plain_split words false e in
    split_there (rows_after split_level.rules [] words)
    (λ a of wanted. required_read split_level plain_split a of wanted (rows_after split_level.rules [] words) (split_given (rows_after split_level.rules [] words) parts.1) parts.0)
    (λ a of d. default_read split_level plain_split a of d words parts.0)
    (λ a of. row_read split_level plain_split a of (rows_after split_level.rules [] words) parts.0)

check_given : (rows : List Row) → check_fault check_level rows false ≡ [] → list_any (λ a. a.required && not (is_given a.id rows)) check_level.rules ≡ false
unfolding clap_on_literals
check_given rows e = go (list_any (λ a. a.required && not (is_given a.id rows)) check_level.rules) e
  where
    go : (b : Bool) → check_kinds false false b ≡ [] → b ≡ false
    go false e = refl
    go true e = absurd (cc)

check_level_there : (words : List Text) → level_fault check_level [] nothing_held words false [] ≡ [] → AreThereForCheck (rows_after check_level.rules [] words)
check_level_there words e =
    let parts = each_row check_level plain_check words false e in
    check_there (rows_after check_level.rules [] words)
    (λ a of wanted. required_read check_level plain_check a of wanted (rows_after check_level.rules [] words) (check_given (rows_after check_level.rules [] words) parts.1) parts.0)
    (λ a of d. default_read check_level plain_check a of d words parts.0)
    (λ a of. row_read check_level plain_check a of (rows_after check_level.rules [] words) parts.0)

demo_given : (rows : List Row) → check_fault demo_level rows false ≡ [] → list_any (λ a. a.required && not (is_given a.id rows)) demo_level.rules ≡ false
unfolding clap_on_literals
demo_given rows e = go (list_any (λ a. a.required && not (is_given a.id rows)) demo_level.rules) e
  where
    go : (b : Bool) → check_kinds false false b ≡ [] → b ≡ false
    go false e = refl
    go true e = absurd (cc)

demo_level_there : (words : List Text) → level_fault demo_level [] nothing_held words false [] ≡ [] → AreThereForDemo (rows_after demo_level.rules [] words)
demo_level_there words e =
    let parts = each_row demo_level plain_demo words false e in
    demo_there (rows_after demo_level.rules [] words)
    (λ a of wanted. required_read demo_level plain_demo a of wanted (rows_after demo_level.rules [] words) (demo_given (rows_after demo_level.rules [] words) parts.1) parts.0)
    (λ a of d. default_read demo_level plain_demo a of d words parts.0)

batch_given : (rows : List Row) → check_fault batch_level rows false ≡ [] → list_any (λ a. a.required && not (is_given a.id rows)) batch_level.rules ≡ false
unfolding clap_on_literals
batch_given rows e = go (list_any (λ a. a.required && not (is_given a.id rows)) batch_level.rules) e
  where
    go : (b : Bool) → check_kinds false false b ≡ [] → b ≡ false
    go false e = refl
    go true e = absurd (cc)

batch_level_there : (words : List Text) → level_fault batch_level [] nothing_held words false [] ≡ [] → AreThereForBatch (rows_after batch_level.rules [] words)
batch_level_there words e =
    let parts = each_row batch_level plain_batch words false e in
    batch_there (rows_after batch_level.rules [] words)
    (λ a of wanted. required_read batch_level plain_batch a of wanted (rows_after batch_level.rules [] words) (batch_given (rows_after batch_level.rules [] words) parts.1) parts.0)
    (λ a of d. default_read batch_level plain_batch a of d words parts.0)
    (λ a of. row_read batch_level plain_batch a of (rows_after batch_level.rules [] words) parts.0)
    (λ a of wanted. required_reads batch_level plain_batch a of wanted (rows_after batch_level.rules [] words) (batch_given (rows_after batch_level.rules [] words) parts.1) parts.0)

edit_given : (rows : List Row) → check_fault edit_level rows false ≡ [] → list_any (λ a. a.required && not (is_given a.id rows)) edit_level.rules ≡ false
unfolding clap_on_literals
edit_given rows e = go (list_any (λ a. a.required && not (is_given a.id rows)) edit_level.rules) e
  where
    go : (b : Bool) → check_kinds false false b ≡ [] → b ≡ false
    go false e = refl
    go true e = absurd (cc)

edit_level_there : (words : List Text) → level_fault edit_level [] nothing_held words false [] ≡ [] → AreThereForEdit (rows_after edit_level.rules [] words)
edit_level_there words e =
    let parts = each_row edit_level plain_edit words false e in
    let rows = rows_after edit_level.rules [] words in
    edit_there rows (λ a of wanted. required_read edit_level plain_edit a of wanted rows (edit_given rows parts.1) parts.0)
    (λ a of d. default_read edit_level plain_edit a of d words parts.0) (λ a of. row_read edit_level plain_edit a of rows parts.0)

-- a subcommand's entries have what its name says
split_has : (rows : List Row) → AreThere rows → HasItsValues (split_level.name, rows)
unfolding clap_on_literals
split_has rows h = record {
  split = λ e. h;
  check = λ e. absurd (true≢false (sym e));
  demo = λ e. absurd (true≢false (sym e));
  batch = λ e. absurd (true≢false (sym e));
  edit = λ e. absurd (true≢false (sym e));
}

check_has : (rows : List Row) → AreThereForCheck rows → HasItsValues (check_level.name, rows)
unfolding clap_on_literals
check_has rows h = record {
  split = λ e. absurd (true≢false (sym e));
  check = λ e. h;
  demo = λ e. absurd (true≢false (sym e));
  batch = λ e. absurd (true≢false (sym e));
  edit = λ e. absurd (true≢false (sym e));
}

demo_has : (rows : List Row) → AreThereForDemo rows → HasItsValues (demo_level.name, rows)
unfolding clap_on_literals
demo_has rows h = record {
  split = λ e. absurd (true≢false (sym e));
  check = λ e. absurd (true≢false (sym e));
  demo = λ e. h;
  batch = λ e. absurd (true≢false (sym e));
  edit = λ e. absurd (true≢false (sym e));
}

batch_has : (rows : List Row) → AreThereForBatch rows → HasItsValues (batch_level.name, rows)
unfolding clap_on_literals
batch_has rows h = record {
  split = λ e. absurd (true≢false (sym e));
  check = λ e. absurd (true≢false (sym e));
  demo = λ e. absurd (true≢false (sym e));
  batch = λ e. h;
  edit = λ e. absurd (true≢false (sym e));
}

edit_has : (rows : List Row) → AreThereForEdit rows → HasItsValues (edit_level.name, rows)
unfolding clap_on_literals
edit_has rows h = record {
  split = λ e. absurd (true≢false (sym e));
  check = λ e. absurd (true≢false (sym e));
  demo = λ e. absurd (true≢false (sym e));
  batch = λ e. absurd (true≢false (sym e));
  edit = λ e. h;
}

subs : (built dpl_app).subs ≡ split_level ∷ check_level ∷ demo_level ∷ batch_level ∷ edit_level ∷ []
unfolding clap_on_literals
subs = refl

entered_there : (stop : Option (Text × List Text)) → entered_fault (built dpl_app) stop ≡ [] → IfSome (entered (built dpl_app) stop) HasItsValues
entered_there None e = tt
entered_there (Some p) e =
    let mine = subst (λ xs. option_map_or (λ s. level_fault s [] nothing_held p.1 false []) (find (λ s. answers_to p.0 (label_of s)) xs) [] ≡ []) subs e in
    subst (λ xs. IfSome (option_map (λ s. rows_at s p.1) (find (λ s. answers_to p.0 (label_of s)) xs)) HasItsValues) (sym subs)
    (go (is split_level) (is check_level) (is demo_level) (is batch_level) (is edit_level) mine)
  where
    is : Shape → Bool
    is s = answers_to p.0 (label_of s)

    met : Bool → Bool → Bool → Bool → Bool → Option Shape
    met x y z w v =
        cond x (Some split_level) (cond y (Some check_level) (cond z (Some demo_level) (cond w (Some batch_level) (cond v (Some edit_level) None))))

    go : (x y z w v : Bool) → option_map_or (λ s. level_fault s [] nothing_held p.1 false []) (met x y z w v) [] ≡ []
        → IfSome (option_map (λ s. rows_at s p.1) (met x y z w v)) HasItsValues
    go true y z w v e = split_has (rows_after split_level.rules [] p.1) (split_level_there p.1 e)
    go false true z w v e = check_has (rows_after check_level.rules [] p.1) (check_level_there p.1 e)
    go false false true w v e = demo_has (rows_after demo_level.rules [] p.1) (demo_level_there p.1 e)
    go false false false true v e = batch_has (rows_after batch_level.rules [] p.1) (batch_level_there p.1 e)
    go false false false false true e = edit_has (rows_after edit_level.rules [] p.1) (edit_level_there p.1 e)
    go false false false false false e = tt

-- the subcommand that was met has its values, where `clap` takes the words
pub taken_there : (words : List Text) → is_taken words ≡ true → IfSome (subcommand_of dpl_app words) HasItsValues
taken_there words e =
    let a = built dpl_app in
    let end = walk a.top.rules (names_of a) nothing_held (argument_words dpl_app words) in
    let after_walk = (none_of (walk_fault a.top (names_of a) (walk_from nothing_held) (argument_words dpl_app words)) _ (is_nil (fault_of dpl_app words) e)).1 in
    entered_there end.stopped (none_of (entered_fault a end.stopped) _ after_walk).0

from_range : (low high : ℕ) (o : Option ℕ) → IsFrom low high o → (low ≤ unwrap_or o 0) × (unwrap_or o 0 ≤ high)
from_range low high None h = absurd h
from_range low high (Some n) h = h

least_corner : (low high : ℕ) (corner rule : Option ℕ) → IsFromIfGiven low high corner → IsFrom low high rule → low ≤ unwrap_or corner (unwrap_or rule 0)
least_corner low high None rule c r = (from_range low high rule r).0
least_corner low high (Some n) rule c r = c.0

pub not_above : (rule corner : ℕ) → not (nat_lt rule corner) ≡ true → corner ≤ rule
not_above rule corner e = go (nat_lt rule corner) refl e
  where
    go : (b : Bool) → nat_lt rule corner ≡ b → not b ≡ true → corner ≤ rule
    go true is e = absurd (true≢false (sym e))
    go false is e = (let least = ltb-false _ _ is in omega arith)

-- values that are there lie in their ranges
pub in_range : (rows : List Row) → AreThere rows → (split_values rows).corner ≤ (split_values rows).rule → AreInRange (split_values rows)
in_range rows h below = record {
  layer = (from_range _ _ _ h.layer).1;
  datatype = (from_range _ _ _ h.datatype).1;
  rule = from_range _ _ _ h.rule;
  overlap = from_range _ _ _ h.overlap;
  corner = (least_corner _ _ _ _ h.corner h.rule, below);
  a = (from_range _ _ _ h.a).1;
  b = (from_range _ _ _ h.b).1;
  mark_a = h.mark_a;
  mark_b = h.mark_b;
  tile = from_range _ _ _ h.tile;
  workers = from_range _ _ _ h.workers;
}

pub check_in_range : (rows : List Row) → AreThereForCheck rows → (check_values rows).corner ≤ (check_values rows).rule
    → AreInRangeForCheck (check_values rows)
check_in_range rows h below = record {
  layer = (from_range _ _ _ h.layer).1;
  datatype = (from_range _ _ _ h.datatype).1;
  rule = from_range _ _ _ h.rule;
  overlap = from_range _ _ _ h.overlap;
  corner = (least_corner _ _ _ _ h.corner h.rule, below);
  a = (from_range _ _ _ h.a).1;
  b = (from_range _ _ _ h.b).1;
  mark_a = h.mark_a;
  mark_b = h.mark_b;
}

pub demo_in_range : (entries : List Row) → AreThereForDemo entries → AreInRangeForDemo (demo_values entries)
demo_in_range entries h = record {
  seed = (from_range _ _ _ h.seed).1;
  rows = from_range _ _ _ h.rows;
  tile = from_range _ _ _ h.tile;
  workers = from_range _ _ _ h.workers;
}

-- there are numbers where an argument has them, and each is in its range
some_numbers : (o : Option (List Text)) → AreFrom 16 0 65535 o → 1 ≤ length (map (λ t. unwrap_or (number_below 16 t) 0) (unwrap_or o []))
some_numbers None h = absurd h
some_numbers (Some []) h = h.0
some_numbers (Some (t ∷ ts)) h = omega arith

small_numbers : (o : Option (List Text)) → AreFrom 16 0 65535 o → All (λ n. n ≤ 65535) (map (λ t. unwrap_or (number_below 16 t) 0) (unwrap_or o []))
small_numbers None h = absurd h
small_numbers (Some ts) h = go ts h.1
  where
    go : (ts : List Text) → All (λ t. IsFrom 0 65535 (number_below 16 t)) ts → All (λ n. n ≤ 65535) (map (λ t. unwrap_or (number_below 16 t) 0) ts)
    go [] h = All-nil (λ (n : ℕ). n ≤ 65535)
    go (t ∷ ts) h = All-cons (λ (n : ℕ). n ≤ 65535) _ _ (from_range _ _ _ (All-head (λ (t : Text). IsFrom 0 65535 (number_below 16 t)) t ts h)).1
        (go ts (All-tail (λ (t : Text). IsFrom 0 65535 (number_below 16 t)) t ts h))

-- a batch that is apart has at most 64 layers
pub few_layers : (v : BatchValues) → is_batch_apart v ≡ true → length v.layers ≤ 64
few_layers v apart = not_above 64 (length v.layers) (both _ _ (both _ _ apart).1).0

pub batch_in_range : (rows : List Row) → AreThereForBatch rows → (batch_values rows).corner ≤ (batch_values rows).rule → length (batch_values rows).layers ≤ 64
    → AreInRangeForBatch (batch_values rows)
batch_in_range rows h below few = record {
  datatype = (from_range _ _ _ h.datatype).1;
  rule = from_range _ _ _ h.rule;
  overlap = from_range _ _ _ h.overlap;
  corner = (least_corner _ _ _ _ h.corner h.rule, below);
  a = (from_range _ _ _ h.a).1;
  b = (from_range _ _ _ h.b).1;
  tile = from_range _ _ _ h.tile;
  workers = from_range _ _ _ h.workers;
  layers = (some_numbers _ h.layers, few);
  numbers = small_numbers _ h.layers;
}

pub edit_in_range : (rows : List Row) → AreThereForEdit rows → (edit_values rows).corner ≤ (edit_values rows).rule → AreInRangeForEdit (edit_values rows)
edit_in_range rows h below = record {
  layer = (from_range _ _ _ h.layer).1;
  datatype = (from_range _ _ _ h.datatype).1;
  rule = from_range _ _ _ h.rule;
  overlap = from_range _ _ _ h.overlap;
  corner = (least_corner _ _ _ _ h.corner h.rule, below);
  a = (from_range _ _ _ h.a).1;
  b = (from_range _ _ _ h.b).1;
  tile = from_range _ _ _ h.tile;
}

-- the three files of a split for the edited layer are apart
pub apart_without_edits : (v : EditValues) → is_edit_apart v ≡ true → is_apart v.a v.b v.input v.output v.certificate ≡ true
apart_without_edits v apart = go (v.a == v.b) (bytes_eq v.input v.edits) (bytes_eq v.input v.output) (bytes_eq v.input v.certificate)
    (bytes_eq v.edits v.output) (bytes_eq v.edits v.certificate) (bytes_eq v.output v.certificate) apart
  where
    go : (m x y z p q r : Bool) → (not m && (not x && (not y && (not z && (not p && (not q && not r)))))) ≡ true
        → (not m && (not y && (not z && not r))) ≡ true
    go true x y z p q r e = absurd (true≢false (sym e))
    go false true y z p q r e = absurd (true≢false (sym e))
    go false false true z p q r e = absurd (true≢false (sym e))
    go false false false true p q r e = absurd (true≢false (sym e))
    go false false false false true q r e = absurd (true≢false (sym e))
    go false false false false false true r e = absurd (true≢false (sym e))
    go false false false false false false r e = e

pub some_from : (low high : ℕ) (o : Option ℕ) → IsFrom low high o → is_some o ≡ true
some_from low high None h = absurd h
some_from low high (Some n) h = refl
