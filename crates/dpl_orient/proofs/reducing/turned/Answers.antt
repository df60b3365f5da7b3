use Rattle.std.proofs.Common.{◌≡◌, ◌<◌, false, [], ◌∷◌, ◌++◌, length, get_or, map, take, sym, ap, ◌∙◌, arith}
use Rattle.std.proofs.lemmas.List.{length-map, map-append, take_all, get_or-map}
use Rattle.dpl_spec_split.specs.Colours.{differ}
use Rattle.dpl_orient.specs.declared.mask.Mask.TheVariants.{A}
use Rattle.dpl_orient.specs.Masks.{is_second}
use Rattle.dpl_orient.specs.Chart.{own_root}
use Rattle.dpl_orient.specs.Links.{letters_of}
use Rattle.dpl_orient.proofs.Linked.{length-letters, letters-more}
use Rattle.dpl_orient.proofs.reducing.turned.Goals as goal

pub loop-piece-preserved : goal.loop-piece-preserved
loop-piece-preserved c =
    let colours = map is_second c.args.masks.now in
    let letters = letters_of c.args.chart.now colours c.args.flips.now in
    let piece = c.loop-piece.piece in
    let within : piece < length c.args.masks.now = c.loop-piece-test.true in
    let same : length colours ≡ length c.args.chart.now = length-map c.args.masks.now is_second ∙ c.requires.each in
    let more = letters-more c.args.chart.now colours c.args.flips.now piece (own_root 0) false same (let l = length-map c.args.masks.now is_second in
    omega (arith, l, within)) in
    let second : c.is_second.result ≡ get_or colours piece false = c.is_second.ensures ∙ sym (get_or-map is_second c.args.masks.now piece A false within) in
    let letter : is_second c.of.result ≡ differ (get_or c.args.flips.now (get_or c.args.chart.now piece (own_root 0)).root false)
    (get_or colours piece false) =
    c.of.ensures ∙ (c.differs.ensures ∙ (ap (λ x. differ x c.is_second.result) c.is_flipped-flip.ensures ∙ ap (differ _) second)) in
    rw c.in_ok-push.ensures.items (map-append is_second c.loop-piece.turned.items (c.of.result ∷ [])
    ∙ (ap (λ xs. xs ++ is_second c.of.result ∷ []) c.loop-piece.invariant ∙ (ap (λ b. take piece letters ++ b ∷ []) letter ∙ sym more)))

pub returns : goal.returns
returns c =
    let colours = map is_second c.args.masks.now in
    let same : length colours ≡ length c.args.chart.now = length-map c.args.masks.now is_second ∙ c.requires.each in
    c.of-2.ensures ∙ (c.loop-piece.invariant ∙ take_all c.loop-piece.piece (letters_of c.args.chart.now colours c.args.flips.now)
    (let many = length-letters c.args.chart.now colours c.args.flips.now same in let past = c.loop-piece-test.false in let each = c.requires.each in
    omega (arith, many, past, each)))
