use Rattle.std.proofs.Common.{◌<◌, length, get_or, sym, refl, subst, ◌∙◌, arith}
use Rattle.std.specs.Prelude.{IfSome}
use Rattle.std.specs.List.{Contains}
use Rattle.std.specs.List.Sorted.{IsBinarySearchResult}
use Rattle.std.specs.Ordering.{nat_cmp}
use Rattle.dpl_syntax.specs.Elements.{body_seen}
use Rattle.dpl_view.specs.Layers.{IsMore}
use Rattle.dpl_view.specs.Ranks.{rank_of}
use Rattle.dpl_view.specs.declared.counts.LayerCounts.{LayerCounts}
use Rattle.dpl_view.proofs.CountLaws.{found_at, no_entry, on_one_layer, once, one_at, unfound}
use Rattle.dpl_view.proofs.tally.tally.Goals as goal

pub unreachable-requires : goal.unreachable-requires
unreachable-requires c =
    let ranks = c.args.ranks.now in
    let place = c.rank-place.result in
    let there : Contains ranks (rank_of c.in-Some.layer) =
    subst (λ o. IfSome o (λ layer. Contains ranks (rank_of layer))) (sym c.in-Some.ensures.value) c.requires.listed in
    let searched = subst (λ r. IsBinarySearchResult (λ y. nat_cmp y place) ranks r) c.in_default-binary_search.is c.binary_search.ensures.position in
    unfound ranks place c.in_default-binary_search.field-0 c.requires.order.rises searched
    (subst (λ r. Contains ranks r) (sym c.rank-place.ensures) there)

pub returns : goal.returns
returns c =
    let ranks = c.args.ranks.now in
    let table = c.args.table.now in
    let k = c.in-Ok.k in
    let b = body_seen c.args.body.now in
    let place = c.rank-place.result in
    let each = c.requires.order.each in
    let (r_in, at) = found_at ranks place k c.requires.order.rises
    (subst (λ r. IsBinarySearchResult (λ y. nat_cmp y place) ranks r) c.in-Ok.is c.binary_search.ensures.position) in
    let k_in : k < length table = omega (arith, r_in, each) in
    let y : LayerCounts = record { layer = (get_or table k no_entry).layer; counts = c.with-counts.result } in
    let more = c.with-counts.ensures in
    let one : IsMore (once b) (get_or table k no_entry) y = record {
      layer = refl;
      boundaries = more.boundaries;
      paths = more.paths;
      boxes = more.boxes;
      texts = more.texts;
      nodes = more.nodes;
    } in
    on_one_layer b c.in-Some.layer ranks table k y (sym c.in-Some.ensures.value) c.requires.order k_in (at ∙ c.rank-place.ensures) (one_at b table k y k_in one)
