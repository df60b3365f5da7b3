use Rattle.std.proofs.Common.{◌≡◌, ◌≤◌, ◌++◌, ◌∙◌, List, length, take, drop, sym, ap, arith, append-nil, length-drop}
use Rattle.std.proofs.lemmas.List.{take_all}
use Rattle.std.specs.Prelude.{string_bytes}
use Rattle.dpl_cert.specs.declared.cert.PieceLine.{PieceLine}
use Rattle.dpl_cert.specs.Lines.{text}
use Rattle.dpl_cert.specs.Grammar.{rows, piece_words}
use Rattle.dpl_cert.proofs.Parts.{round-more}
use Rattle.dpl_cert.proofs.lists.put_pieces_by.Goals as goal

pub loop-first-init : goal.loop-first-init
loop-first-init g c = record { within = omega arith; put = sym (append-nil (string_bytes c.args.out.now)) }

pub loop-first-preserved : goal.loop-first-preserved
loop-first-preserved g c =
    let inv = c.loop-first.invariant in
    let pieces = c.args.pieces.now in
    let first = c.loop-first.first in
    let n = length c.split_at-in-loop-first.result.0.now in
    let rest = c.split_at.ensures.back in
    let len : n ≡ c.min.result = c.split_at-in-loop-first.ensures.front_len in
    let left = ap length rest in
    let front : c.split_at-in-loop-first.result.0.now ≡ take n (drop first pieces) =
    c.split_at-in-loop-first.ensures.front ∙ ap (take c.min.result) rest ∙ ap (λ j. take j (drop first pieces)) (sym len) in
    record {
      within = omega (arith, len, left, inv.within, length-drop first pieces);
      put = round-more piece_words first n pieces _ _ _ inv.within inv.put
          (c.in_ok-put_round_by.ensures ∙ ap (λ (l : List PieceLine). string_bytes c.loop-first.out ++ text (rows piece_words first l)) front);
    }

pub returns : goal.returns
returns g c =
    let inv = c.loop-first.invariant in
    let all : length c.args.pieces.now ≤ c.loop-first.first = omega arith in
    inv.put ∙ ap (λ (l : List PieceLine). string_bytes c.args.out.now ++ text (rows piece_words 0 l)) (take_all c.loop-first.first c.args.pieces.now all)
