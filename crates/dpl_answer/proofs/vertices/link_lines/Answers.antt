use Rattle.std.proofs.Common.{◌≡◌, ◌+◌, ◌%◌, ◌∷◌, [], List, length, get_or, sym, ap, ◌∙◌, subst, arith}
use Rattle.std.proofs.lemmas.Result.{IfOk-from_err}
use Rattle.std.proofs.lemmas.List.{length-append}
use Rattle.dpl_spec_split.specs.declared.Rect.{Rect}
use Rattle.dpl_cert.specs.Grammar.{IsNear}
use Rattle.dpl_answer.specs.declared.vertices.Vertex.{Vertex}
use Rattle.dpl_answer.specs.Anchors.{AreLinked, ShowsLink, marks_of, vertex_of}
use Rattle.dpl_answer.proofs.LineLaws.{fits_push}
use Rattle.dpl_answer.proofs.Told.{links_more}
use Rattle.dpl_answer.proofs.vertices.link_lines.Goals as goal

pub link_line-requires-clause-linked : goal.link_line-requires-clause-linked
link_line-requires-clause-linked c =
    let same : c.items-parts.result.now ≡ c.args.pieces.now.parts = c.items-parts.ensures.value ∙ c.parts.ensures.value in
    let m = marks_of c.args.marks.now in
    let cycle = c.args.cycle.now in
    let k = c.loop-k.k in
    subst (λ (ps : List (List Rect)). AreLinked m c.args.spacing ps c.of-from.result c.of-to.result) (sym same)
    (subst (λ (u : Vertex). AreLinked m c.args.spacing c.args.pieces.now.parts u c.of-to.result) (sym c.of-from.ensures)
    (subst (λ (v : Vertex). AreLinked m c.args.spacing c.args.pieces.now.parts (vertex_of (get_or cycle k 0)) v) (sym c.of-to.ensures)
    (c.requires.linked k c.loop-k-test.true)))

pub loop-k-preserved : goal.loop-k-preserved
loop-k-preserved c =
    let same : c.items-parts.result.now ≡ c.args.pieces.now.parts = c.items-parts.ensures.value ∙ c.parts.ensures.value in
    let m = marks_of c.args.marks.now in
    let cycle = c.args.cycle.now in
    let k = c.loop-k.k in
    let line = c.in_ok-line.line in
    let count : length c.push.new.self.items ≡ length c.loop-k.lines.items + length (line ∷ []) = ap length c.in_ok-push.ensures.items
    ∙ length-append c.loop-k.lines.items (line ∷ []) in
    record {
      each = omega (arith, count);
      first = links_more m c.args.spacing c.args.pieces.now.parts cycle k c.loop-k.lines.items c.push.new.self.items line
          c.loop-k.invariant.each c.in_ok-push.ensures.items c.loop-k.invariant.first
          (subst (λ (u : Vertex). ShowsLink m c.args.spacing c.args.pieces.now.parts u (vertex_of (get_or cycle ((k + 1) % length cycle) 0)) line) c.of-from.ensures
          (subst (λ (v : Vertex). ShowsLink m c.args.spacing c.args.pieces.now.parts c.of-from.result v line) c.of-to.ensures
          (subst (λ (ps : List (List Rect)). ShowsLink m c.args.spacing ps c.of-from.result c.of-to.result line) same c.in_ok-line.ensures.link)));
      fits = rw c.in_ok-push.ensures.items (fits_push IsNear _ _ c.loop-k.invariant.fits c.in_ok-line.ensures.within);
    }

pub returns-in_err-line-clause-links : goal.returns-in_err-line-clause-links
returns-in_err-line-clause-links c = IfOk-from_err _ _ c.from_residual.ensures.0

pub returns-in_err-line-clause-within : goal.returns-in_err-line-clause-within
returns-in_err-line-clause-within c = IfOk-from_err _ _ c.from_residual.ensures.0

pub returns-in_err-push-clause-links : goal.returns-in_err-push-clause-links
returns-in_err-push-clause-links c = IfOk-from_err _ _ c.from_residual-in_err-push.ensures.0

pub returns-in_err-push-clause-within : goal.returns-in_err-push-clause-within
returns-in_err-push-clause-within c = IfOk-from_err _ _ c.from_residual-in_err-push.ensures.0
