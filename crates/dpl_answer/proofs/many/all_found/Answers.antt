use Rattle.std.proofs.Common.{◌≡◌, ◌∙◌, ◌++◌, ◌∷◌, [], List, ap, append_assoc, arith, get_or, length, length-append, rules, subst, sym}
use Rattle.std.proofs.lemmas.Result.{IfOk-from_err}
use Rattle.std.specs.List.{AllZip}
use Rattle.std.proofs.lemmas.Slice.Zip.{AllZip-long, all_zipped_more}
use Rattle.dpl_answer.specs.Many.{AreConflictsFrom, IsToldBy}
use Rattle.dpl_answer.specs.declared.conflicts.Conflicts.{Conflicts}
use Rattle.dpl_answer.specs.declared.many.Start.{Start}
use Rattle.dpl_answer.proofs.ManyCuts.{told_at, none_left}
use Rattle.dpl_answer.proofs.many.all_found.Goals as goal

pub bounds-boards-at : goal.bounds-boards-at
bounds-boards-at c =
    let all : c.loop-start.yielded ++ c.in-Some.start ∷ c.next.new.self.rest.items ≡ c.args.starts.items = search rules in
    let long = AllZip-long IsToldBy c.args.starts.items c.args.boards.now c.requires in
    omega (arith, long, c.loop-start.invariant.1, simp length-append at (ap length all))

pub found-requires : goal.found-requires
found-requires c =
    let all : c.loop-start.yielded ++ c.in-Some.start ∷ c.next.new.self.rest.items ≡ c.args.starts.items = search rules in
    let is : c.index-boards-at.result ≡ get_or c.args.boards.now (length c.loop-start.yielded) c.index-boards-at.result = search rules in
    told_at c.loop-start.yielded c.next.new.self.rest.items c.in-Some.start c.args.boards.now c.index-boards-at.result (rw all c.requires) is

pub loop-start-preserved : goal.loop-start-preserved
loop-start-preserved c =
    let all : c.loop-start.yielded ++ c.in-Some.start ∷ c.next.new.self.rest.items ≡ c.args.starts.items = search rules in
    let pushed : c.push.new.self.items ≡ c.loop-start.all.items ++ c.in_ok-found.field-0 ∷ [] = search rules in (
      append_assoc c.loop-start.yielded (c.in-Some.start ∷ []) c.next.new.self.rest.items ∙ all,
      omega (arith, c.loop-start.invariant.1, length-append c.loop-start.yielded (c.in-Some.start ∷ [])),
      subst (λ (l : List Conflicts). AllZip AreConflictsFrom (c.loop-start.yielded ++ c.in-Some.start ∷ []) l) (sym pushed)
          (all_zipped_more AreConflictsFrom _ _ _ _ c.loop-start.invariant.2 c.in_ok-found.ensures),
    )

pub returns : goal.returns
returns c =
    let none : length c.loop-start.start-iterator.rest.items ≡ 0 = search rules in
    let all = none_left c.loop-start.yielded c.loop-start.start-iterator.rest.items c.args.starts.items c.loop-start.invariant.0 none in
    subst (λ (l : List Start). AllZip AreConflictsFrom l c.loop-start.all.items) all c.loop-start.invariant.2

pub returns-in_err-found : goal.returns-in_err-found
returns-in_err-found c = IfOk-from_err _ _ c.from_residual.ensures.0

pub returns-in_err-push : goal.returns-in_err-push
returns-in_err-push c = IfOk-from_err _ _ c.from_residual-in_err-push.ensures.0
