use Rattle.std.proofs.Common.{◌≡◌, ◌<◌, List, ℕ, [], drop, length, get_or, map, take, ◌∙◌, ap, sym, arith, rules}
use Rattle.std.proofs.lemmas.List.{get_or_default, length-drop}
use Rattle.std.proofs.lemmas.Result.{IfOk-weaker}
use Rattle.dpl_spec_split.specs.declared.Rect.{Rect}
use Rattle.dpl_sides.specs.Pieces.{rect_at}
use Rattle.dpl_piece.specs.Made.{AreMade}
use Rattle.dpl_piece.specs.Pieces.{feature_at, AreHolesOf, AreZonesFrom}
use Rattle.dpl_piece.proofs.Piles.{pile-more}
use Rattle.dpl_piece.proofs.Cuts.{own-within}
use Rattle.dpl_piece.proofs.MadeLaws.{first-known, is-made}
use Rattle.dpl_piece.proofs.Turns.{own-holes, own-known, zones-begin, zones-first-is}
use Rattle.dpl_piece.proofs.made.add_from.Goals as goal

pub bounds-features-feature : goal.bounds-features-feature
bounds-features-feature g c =
    rw c.feature_of-feature.ensures (first-known c.args.features.now c.args.zones.now c.args.sorted.now c.args.place c.requires.zones c.requires.sorted c.requires.place)

pub offset_bounds-features-feature : goal.offset_bounds-features-feature
offset_bounds-features-feature g c =
    let known : c.feature_of-feature.result < length c.args.features.now = rw c.feature_of-feature.ensures
    (first-known c.args.features.now c.args.zones.now c.args.sorted.now c.args.place c.requires.zones c.requires.sorted c.requires.place) in
    search rules

pub made_of-requires-clause-known : goal.made_of-requires-clause-known
made_of-requires-clause-known g c =
    let rest : List ℕ = drop c.args.place c.args.sorted.now in
    let begun = zones-begin c.args.zones.now c.args.sorted.now c.args.place c.requires.sorted c.requires.place c.requires.begins in
    let first : AreZonesFrom c.args.zones.now c.feature_of-feature.result rest = rw c.feature_of-feature.ensures begun in
    rw c.split_at-2.ensures.front
    (rw c.split_at.ensures.back
    (own-known c.args.zones.now rest c.feature_of-feature.result c.own_count.result first (rw c.split_at.ensures.back at c.own_count.ensures.own)
    (rw c.split_at.ensures.back at c.own_count.ensures.next)))

pub made_of-requires-clause-within : goal.made_of-requires-clause-within
made_of-requires-clause-within g c =
    let rest : List ℕ = drop c.args.place c.args.sorted.now in
    let begun = zones-begin c.args.zones.now c.args.sorted.now c.args.place c.requires.sorted c.requires.place c.requires.begins in
    let first : AreZonesFrom c.args.zones.now c.feature_of-feature.result rest = rw c.feature_of-feature.ensures begun in
    let holes : List Rect = map (rect_at c.args.zones.now) (take c.own_count.result rest) in
    let own : AreHolesOf c.args.zones.now c.feature_of-feature.result holes = own-holes c.args.zones.now rest c.feature_of-feature.result c.own_count.result first
    (rw c.split_at.ensures.back at c.own_count.ensures.own)
    (rw c.split_at.ensures.back at c.own_count.ensures.next) in
    rw (c.split_at-2.ensures.front, c.split_at.ensures.back)
    (own-within c.args.features.now c.args.zones.now c.requires.features c.requires.zones c.requires.within c.feature_of-feature.result holes own)

pub returns-clause-made : goal.returns-clause-made
returns-clause-made g c =
    let rest : List ℕ = drop c.args.place c.args.sorted.now in
    let begun = zones-begin c.args.zones.now c.args.sorted.now c.args.place c.requires.sorted c.requires.place c.requires.begins in
    let first : AreZonesFrom c.args.zones.now c.feature_of-feature.result rest = rw c.feature_of-feature.ensures begun in
    let known : c.feature_of-feature.result < length c.args.features.now = rw c.feature_of-feature.ensures
    (first-known c.args.features.now c.args.zones.now c.args.sorted.now c.args.place c.requires.zones c.requires.sorted c.requires.place) in
    let feature : c.index-features-feature.result ≡ get_or c.args.features.now c.feature_of-feature.result [] = c.index-features-feature.is
    ∙ get_or_default c.args.features.now c.feature_of-feature.result c.index-features-feature.result [] known in
    let some : 0 < length rest = omega (arith, c.requires.place, length-drop c.args.place c.args.sorted.now) in
    let first_is : c.feature_of-feature.result ≡ feature_at c.args.zones.now (get_or rest 0 0) = c.feature_of-feature.ensures
    ∙ sym (zones-first-is c.args.zones.now c.args.sorted.now c.args.place) in
    let made = c.in_ok-next.ensures in
    IfOk-weaker c.add.result _ (λ _. AreMade c.args.features.now c.args.zones.now c.add.new.self)
    (λ _ adds. pile-more c.args.features.now c.args.zones.now c.requires.features c.requires.zones c.requires.within c.args.made.now _ c.in_ok-next.next c.requires.made
    (is-made c.args.features.now c.args.zones.now rest c.feature_of-feature.result c.own_count.result first (rw c.split_at.ensures.back at c.own_count.ensures.own)
    (rw c.split_at.ensures.back at c.own_count.ensures.next) first_is some c.in_ok-next.next made.feature
    (made.own ∙ c.split_at-2.ensures.front ∙ ap (take c.own_count.result) c.split_at.ensures.back) (rw feature at made.breaks))
    (rw made.feature known) (rw (made.feature, c.feature_of-feature.ensures) c.requires.behind) adds)
    c.add.ensures
