use Rattle.std.proofs.Common.{◌≡◌, ◌∙◌, [], List, IfOk, get_or, subst}
use Rattle.std.proofs.lemmas.List.{get_or_default}
use Rattle.dpl_spec_split.specs.declared.Rect.{Rect}
use Rattle.dpl_spec_split.specs.Squares.{Covers, IsLeast}
use Rattle.dpl_answer.specs.Anchors.{ShowsSquare}
use Rattle.dpl_answer.proofs.vertices.link_line.Goals as goal

pub returns-in-Piece-Anchor-clause-link : goal.returns-in-Piece-Anchor-clause-link
returns-in-Piece-Anchor-clause-link c =
    let parts = c.args.parts.now in
    let linked = rw (c.in-Piece-Anchor.is-0, c.in-Piece-Anchor.is-1) at c.requires.linked in
    let part : c.index-parts-piece.result ≡ get_or parts c.in-Piece-Anchor.piece [] = c.index-parts-piece.is ∙ get_or_default parts c.in-Piece-Anchor.piece _ [] linked.0 in
    rw (c.in-Piece-Anchor.is-0, c.in-Piece-Anchor.is-1)
    (subst (λ (s : List Rect). IfOk c.mark_line.result (ShowsSquare (IsLeast (λ p. Covers (get_or parts c.in-Piece-Anchor.piece []) p × Covers s p)))) c.against.ensures
    (subst (λ (rs : List Rect). IfOk c.mark_line.result (ShowsSquare (IsLeast (λ p. Covers rs p × Covers c.against.result.now p)))) part c.mark_line.ensures.least))

pub returns-in-Anchor-Piece-clause-link : goal.returns-in-Anchor-Piece-clause-link
returns-in-Anchor-Piece-clause-link c =
    let parts = c.args.parts.now in
    let linked = rw (c.in-Anchor-Piece.is-0, c.in-Anchor-Piece.is-1) at c.requires.linked in
    let part : c.index-parts-piece-in-Anchor-Piece.result ≡ get_or parts c.in-Anchor-Piece.piece [] = c.index-parts-piece-in-Anchor-Piece.is
    ∙ get_or_default parts c.in-Anchor-Piece.piece _ [] linked.0 in
    let line = c.mark_line-in-Anchor-Piece.result in
    rw (c.in-Anchor-Piece.is-0, c.in-Anchor-Piece.is-1)
    (subst (λ (s : List Rect). IfOk line (ShowsSquare (IsLeast (λ p. Covers (get_or parts c.in-Anchor-Piece.piece []) p × Covers s p)))) c.against-in-Anchor-Piece.ensures
    (subst (λ (rs : List Rect). IfOk line (ShowsSquare (IsLeast (λ p. Covers rs p × Covers c.against-in-Anchor-Piece.result.now p)))) part c.mark_line-in-Anchor-Piece.ensures.least))
