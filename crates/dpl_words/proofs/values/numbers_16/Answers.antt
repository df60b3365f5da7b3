use Rattle.std.proofs.Common.{◌≡◌, ◌++◌, ◌∙◌, ap, sym, subst, List, ℕ, Some, map, option_map, append_assoc, append-nil, refl, unwrap_or}
use Rattle.clap.specs.Matches.{found_of, values_left}
use Rattle.clap.specs.Walk.{many_of, rows_of}
use Rattle.std.specs.Str.Parse.{ExplainsUnsignedError, HasUnsignedDigitsIfOk, ParsesUnsigned}
use Rattle.dpl_words.specs.Meaning.{number_below}
use Rattle.dpl_words.specs.Ranges.{AreFrom}
use Rattle.dpl_words.proofs.Many.{are_there, from_write, many_read, many_some, step_leaves, step_reads, stepped, stepped_out}
use Rattle.dpl_words.proofs.values.numbers_16.Goals as goal

pub unwrap-number-items-requires : goal.unwrap-number-items-requires
unwrap-number-items-requires c =
    are_there values_left 16 0 65535 c.get_many.result
    (subst (AreFrom 16 0 65535) (sym (c.get_many.ensures ∙ many_read (found_of c.args.matches.now) c.args.id.now)) c.requires)

pub loop-number-init : goal.loop-number-init
loop-number-init c =
    let many : many_of c.args.id.now (rows_of (found_of c.args.matches.now)) ≡ Some (values_left c.into_iter-number-iterator.result) =
    sym (c.get_many.ensures ∙ many_read (found_of c.args.matches.now) c.args.id.now) ∙ ap (λ o. option_map values_left o) c.unwrap-number-items.ensures
    ∙ ap (λ left. Some (values_left left)) (sym c.into_iter-number-iterator.ensures.into_iter_gives) in
    record {
      write = from_write 16 0 65535 _ (subst (AreFrom 16 0 65535) many c.requires);
      all = rw (c.new-numbers.ensures.items) refl;
    }

pub unwrap-requires : goal.unwrap-requires
unwrap-requires c =
    step_reads 16 (λ bs x. ParsesUnsigned 16 10 bs x × ExplainsUnsignedError 10 bs x × HasUnsignedDigitsIfOk bs x) (λ t x g. g.0)
    (values_left c.loop-number.number-iterator) (values_left c.next.new.self) c.in-Some.number c.loop-number.invariant.write c.in-Some.ensures.steps

pub loop-number-preserved : goal.loop-number-preserved
loop-number-preserved c =
    let step = stepped 16 (λ bs x. ParsesUnsigned 16 10 bs x × ExplainsUnsignedError 10 bs x × HasUnsignedDigitsIfOk bs x) (λ t x g. g.0)
    (values_left c.loop-number.number-iterator) (values_left c.next.new.self) c.in-Some.number c.unwrap.result c.unwrap.ensures c.in-Some.ensures.steps in
    record {
      write = step_leaves 16 (λ bs x. ParsesUnsigned 16 10 bs x × ExplainsUnsignedError 10 bs x × HasUnsignedDigitsIfOk bs x) (λ t x g. g.0)
          (values_left c.loop-number.number-iterator) (values_left c.next.new.self) c.in-Some.number c.loop-number.invariant.write c.in-Some.ensures.steps;
      all = rw (c.in_ok-push.ensures.items) (append_assoc c.loop-number.numbers.items _ _ ∙ ap (λ (l : List ℕ). c.loop-number.numbers.items ++ l) (sym step) ∙ c.loop-number.invariant.all);
    }

pub returns : goal.returns
returns c =
    let out = stepped_out 16 (λ bs x. ParsesUnsigned 16 10 bs x × ExplainsUnsignedError 10 bs x × HasUnsignedDigitsIfOk bs x) (λ t x g. g.0)
    (values_left c.loop-number.number-iterator) _ c.in-None.ensures.steps in
    let many = many_some 16 (found_of c.args.matches.now) c.args.id.now (values_left c.unwrap-number-items.result)
    (sym (c.get_many.ensures ∙ many_read (found_of c.args.matches.now) c.args.id.now) ∙ ap (λ o. option_map values_left o) c.unwrap-number-items.ensures) in
    let given = ap (λ left. map (λ t. unwrap_or (number_below 16 t) 0) (values_left left)) c.into_iter-number-iterator.ensures.into_iter_gives in
    sym (append-nil c.loop-number.numbers.items) ∙ ap (λ (l : List ℕ). c.loop-number.numbers.items ++ l) (sym out) ∙ c.loop-number.invariant.all ∙ given ∙ sym many
