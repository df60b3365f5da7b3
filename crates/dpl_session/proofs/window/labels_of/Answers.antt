use Rattle.std.proofs.Common.{◌≡◌, ◌∙◌, ◌+◌, ℕ, List, [], ◌∷◌, ◌++◌, length, arith}
use Rattle.std.proofs.lemmas.List.{length-append}
use Rattle.dpl_session.specs.Windows.{IsFirstWith, owner_at}
use Rattle.dpl_session.proofs.Naming.{below_push}
use Rattle.dpl_session.proofs.window.labels_of.Goals as goal

pub loop-i-preserved : goal.loop-i-preserved
loop-i-preserved c =
    let xs : List ℕ = c.loop-i.labels.items in
    let y : ℕ = c.label_of.result in
    let long : length (xs ++ y ∷ []) ≡ length xs + 1 = length-append xs (y ∷ []) in
    let each = c.loop-i.invariant.each in
    record {
      room = c.label_of.ensures.room ∙ c.loop-i.invariant.room;
      each = rw c.in_ok-push.ensures.items (omega (arith, long, each));
      labels = rw c.in_ok-push.ensures.items (below_push (λ j m. IsFirstWith (owner_at c.args.owners.now c.args.names.now) j m) xs c.loop-i.i y each
          c.loop-i.invariant.labels c.label_of.ensures.label);
      firsts = c.label_of.ensures.firsts;
    }

pub returns-clause-labels : goal.returns-clause-labels
returns-clause-labels c =
    let each = c.loop-i.invariant.each in
    record { each = omega (arith, each); first = λ i l. c.loop-i.invariant.labels i (omega (arith, l)) }
