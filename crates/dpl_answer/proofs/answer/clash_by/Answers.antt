use Rattle.std.proofs.Common.{◌∙◌, ◌<◌, ◌^◌, ap, length, rules, subst, sym, List}
use Rattle.std.proofs.lemmas.Result.{IfOk-from_err}
use Rattle.std.specs.Option.{option_copied}
use Rattle.std.specs.List.{AllByRecursion}
use Rattle.dpl_cert.specs.declared.cert.PlaceLine.{PlaceLine}
use Rattle.dpl_cert.specs.declared.cert.NearLine.{NearLine}
use Rattle.dpl_cert.specs.Grammar.{IsNear, IsPlace}
use Rattle.dpl_answer.specs.Anchors.{marks_in}
use Rattle.dpl_answer.specs.Flat.{AreLinks, place_by}
use Rattle.dpl_answer.proofs.Deciding.{cycle_length, places_many}
use Rattle.dpl_answer.proofs.Told.{links_many}
use Rattle.dpl_answer.proofs.answer.clash_by.Goals as goal

pub returns-clause-clash : goal.returns-clause-clash
returns-clause-clash c = λ features many.
    let pieces = c.args.cut.now.pieces in
    let marks = marks_in (option_copied c.args.marks) in
    record {
      cycle = c.args.cycle.now;
      odd = (c.args.cycle.now, c.requires.odd);
      reported = c.requires.reported;
      nearest = subst (λ (ns : List NearLine). AreLinks marks c.args.spacing pieces.parts c.args.cycle.now ns) (sym c.of-2.ensures) c.in_ok-lines.ensures.near;
      head = c.head.ensures.value features many;
      places = c.of.ensures ∙ c.in_ok-lines.ensures.places;
    }

pub returns-clause-fits : goal.returns-clause-fits
returns-clause-fits c = λ some.
    let pieces = c.args.cut.now.pieces in
    let marks = marks_in (option_copied c.args.marks) in
    let few : length c.args.cycle.now < 2 ^ 64 = search rules in
    let places = places_many (place_by marks pieces.keys) c.args.cycle.now c.of.result (c.of.ensures ∙ c.in_ok-lines.ensures.places) in
    let nears = ap length c.of-2.ensures ∙ links_many marks c.args.spacing pieces.parts c.args.cycle.now c.in_ok-lines.lines.near.items c.in_ok-lines.ensures.near in (
      c.head.ensures.fits some,
      cycle_length (length c.args.cycle.now) (length c.of.result) c.requires.odd.three c.requires.odd.odd few places,
      subst (λ (ls : List PlaceLine). AllByRecursion IsPlace ls) (sym c.of.ensures) c.in_ok-lines.ensures.places_within,
      nears ∙ sym places,
      subst (λ (ns : List NearLine). AllByRecursion IsNear ns) (sym c.of-2.ensures) c.in_ok-lines.ensures.near_within,
    )

pub returns-in_err-lines-clause-clash : goal.returns-in_err-lines-clause-clash
returns-in_err-lines-clause-clash c = IfOk-from_err _ _ c.from_residual.ensures.0

pub returns-in_err-lines-clause-fits : goal.returns-in_err-lines-clause-fits
returns-in_err-lines-clause-fits c = λ some. IfOk-from_err _ _ c.from_residual.ensures.0
