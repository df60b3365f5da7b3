use Rattle.std.proofs.Common.{◌≡◌, ℕ, ◌<◌, ◌≤◌, false, not, length, map, get_or, set, sym, ap, ◌∙◌, subst, arith}
use Rattle.std.specs.BinaryHeap.{heap_items}
use Rattle.std.specs.List.Sorted.{IsPermutation}
use Rattle.std.specs.Vec.{with_items}
use Rattle.std.proofs.lemmas.List.{length-map, with_items_is}
use Rattle.std.proofs.lemmas.List.Sorted.{All-permutation}
use Rattle.dpl_spec_fewer.specs.Fewer.{stitch_count}
use Rattle.dpl_orient.specs.declared.links.Link.{Link}
use Rattle.dpl_orient.specs.Masks.{is_second}
use Rattle.dpl_orient.specs.Links.{links_of, letters_of, held_root, AreLinksBelow}
use Rattle.dpl_orient.specs.Tallies.{AreTallies, GainsAt, AllWait}
use Rattle.dpl_orient.proofs.Linked.{links-paired}
use Rattle.dpl_orient.proofs.Gaining.{IsUnderway, GainsBy, IsLeastGainBy, underway-start, underway-more, underway-end, fewer-left}
use Rattle.dpl_orient.proofs.Turning.{gain-within, least-by-links, none-by-links}
use Rattle.dpl_orient.proofs.reducing.final_flips.Goals as goal

pub tallies_of-requires : goal.tallies_of-requires
tallies_of-requires c =
    let colours = map is_second c.args.masks.now in
    let same : length colours ≡ length c.args.chart.now = length-map c.args.masks.now is_second ∙ c.requires.each in
    let start = underway-start c.args.chart.now colours c.args.sides.now c.args.fixed c.in_ok-flips.flips.items same
    (c.in_ok-flips.ensures.items_if_clones_equal (λ y h. h)) in
    rw (c.deref.ensures.value, c.deref-2.ensures.value, start.len)
    (All-permutation (λ (l : Link). (l.from < length c.args.chart.now) ×
    (l.to < length c.args.chart.now)) _ _ c.group.ensures.same c.in_ok-links.ensures.below)

pub loop-root-init : goal.loop-root-init
loop-root-init c =
    let colours = map is_second c.args.masks.now in
    let same : length colours ≡ length c.args.chart.now = length-map c.args.masks.now is_second ∙ c.requires.each in
    record {
      underway = underway-start c.args.chart.now colours c.args.sides.now c.args.fixed c.in_ok-flips.flips.items same
          (c.in_ok-flips.ensures.items_if_clones_equal (λ y h. h));
      tallies = rw (c.deref.ensures.value, c.deref-2.ensures.value) at c.in_ok-tallies.ensures;
      queue = c.in_ok-waiting.ensures.queue;
      all = rw c.deref-3.ensures.value at c.in_ok-waiting.ensures.all;
    }

pub flip-requires-clause-paired : goal.flip-requires-clause-paired
flip-requires-clause-paired c =
    let mixed : IsPermutation (links_of c.args.chart.now (map is_second c.args.masks.now) c.args.sides.now) c.group.new.links.items =
    rw c.in_ok-links.ensures.links at c.group.ensures.same in
    rw c.deref-in-Some.ensures.value (links-paired c.args.chart.now _ c.args.sides.now _ mixed)

pub flip-requires-clause-below : goal.flip-requires-clause-below
flip-requires-clause-below c = rw (c.deref-in-Some.ensures.value, c.deref_mut.ensures.value, c.loop-root.invariant.underway.len)
    (All-permutation (λ (l : Link). (l.from < length c.args.chart.now) ×
    (l.to < length c.args.chart.now)) _ _ c.group.ensures.same c.in_ok-links.ensures.below)

pub loop-root-smaller : goal.loop-root-smaller
loop-root-smaller c =
    let colours = map is_second c.args.masks.now in
    let flips = c.loop-root.flips.items in
    let links = c.group.new.links.items in
    let root = c.in-Some.root in
    let items : (with_items c.loop-root.flips c.flip.new.flips).items ≡ set flips root (not (get_or flips root false)) =
    with_items_is c.loop-root.flips c.flip.new.flips (c.flip.auto.flips ∙ c.deref_mut.ensures.len) ∙
    (rw c.deref_mut.ensures.value at c.flip.ensures.flipped) in
    let same : length colours ≡ length c.args.chart.now = length-map c.args.masks.now is_second ∙ c.requires.each in
    let mixed : IsPermutation (links_of c.args.chart.now colours c.args.sides.now) links = rw c.in_ok-links.ensures.links at c.group.ensures.same in
    let below : AreLinksBelow (length flips) links = rw c.loop-root.invariant.underway.len
    (All-permutation (λ (l : Link). (l.from < length c.args.chart.now) ×
    (l.to < length c.args.chart.now)) _ _ c.group.ensures.same c.in_ok-links.ensures.below) in
    let gains : GainsAt c.held_root-held.result c.loop-root.tallies.items root = rw c.deref-in-loop-root.ensures.value at c.in-Some.ensures.gains in
    let first : (other : ℕ) → GainsAt c.held_root-held.result c.loop-root.tallies.items other
    → root ≤ other = rw c.deref-in-loop-root.ensures.value at c.in-Some.ensures.least in
    let least : IsLeastGainBy (held_root c.args.chart.now c.args.fixed) flips links root = rw (← c.held_root-held.ensures)
    (least-by-links c.held_root-held.result links flips c.loop-root.tallies.items c.loop-root.invariant.tallies below root gains first) in
    let within : root < length flips = gain-within c.held_root-held.result links flips c.loop-root.tallies.items c.loop-root.invariant.tallies root gains in
    subst (λ fs. stitch_count c.args.sides.now (letters_of c.args.chart.now colours fs) < stitch_count c.args.sides.now
    (letters_of c.args.chart.now colours flips))
    (sym items) (fewer-left c.args.chart.now colours flips c.args.sides.now c.args.fixed links same c.requires.sides mixed
    c.loop-root.invariant.underway root within least)

pub loop-root-preserved : goal.loop-root-preserved
loop-root-preserved c =
    let colours = map is_second c.args.masks.now in
    let flips = c.loop-root.flips.items in
    let links = c.group.new.links.items in
    let root = c.in-Some.root in
    let flips_are : (with_items c.loop-root.flips c.flip.new.flips).items ≡ c.flip.new.flips = with_items_is c.loop-root.flips c.flip.new.flips
    (c.flip.auto.flips ∙ c.deref_mut.ensures.len) in
    let tallies_are : (with_items c.loop-root.tallies c.flip.new.tallies).items ≡ c.flip.new.tallies =
    with_items_is c.loop-root.tallies c.flip.new.tallies (c.flip.auto.tallies ∙ c.deref_mut-in-Some.ensures.len) in
    let items : (with_items c.loop-root.flips c.flip.new.flips).items ≡ set flips root (not (get_or flips root false)) =
    flips_are ∙ (rw c.deref_mut.ensures.value at c.flip.ensures.flipped) in
    let same : length colours ≡ length c.args.chart.now = length-map c.args.masks.now is_second ∙ c.requires.each in
    let mixed : IsPermutation (links_of c.args.chart.now colours c.args.sides.now) links = rw c.in_ok-links.ensures.links at c.group.ensures.same in
    let below : AreLinksBelow (length flips) links = rw c.loop-root.invariant.underway.len
    (All-permutation (λ (l : Link). (l.from < length c.args.chart.now) ×
    (l.to < length c.args.chart.now)) _ _ c.group.ensures.same c.in_ok-links.ensures.below) in
    let gains : GainsAt c.held_root-held.result c.loop-root.tallies.items root = rw c.deref-in-loop-root.ensures.value at c.in-Some.ensures.gains in
    let first : (other : ℕ) → GainsAt c.held_root-held.result c.loop-root.tallies.items other
    → root ≤ other = rw c.deref-in-loop-root.ensures.value at c.in-Some.ensures.least in
    let least : IsLeastGainBy (held_root c.args.chart.now c.args.fixed) flips links root = rw (← c.held_root-held.ensures)
    (least-by-links c.held_root-held.result links flips c.loop-root.tallies.items c.loop-root.invariant.tallies below root gains first) in
    let within : root < length flips = gain-within c.held_root-held.result links flips c.loop-root.tallies.items c.loop-root.invariant.tallies root gains in
    record {
      underway = subst (IsUnderway c.args.chart.now colours c.args.sides.now c.args.fixed)
          (sym items) (underway-more c.args.chart.now colours flips c.args.sides.now c.args.fixed links same c.requires.sides mixed
          c.loop-root.invariant.underway root within least);
      tallies = subst (λ fs. AreTallies links fs (with_items c.loop-root.tallies c.flip.new.tallies).items) (sym flips_are)
          (subst (AreTallies links c.flip.new.flips) (sym tallies_are) (rw c.deref-in-Some.ensures.value at c.in_ok-flip.ensures.tallies));
      queue = c.in_ok-flip.ensures.queue;
      all = subst (λ ts. AllWait c.held_root-held.result ts (heap_items c.flip.new.waiting)) (sym tallies_are) c.in_ok-flip.ensures.all;
    }

pub returns-clause-led : goal.returns-clause-led
returns-clause-led c =
    let colours = map is_second c.args.masks.now in
    let flips = c.loop-root.flips.items in
    let links = c.group.new.links.items in
    let same : length colours ≡ length c.args.chart.now = length-map c.args.masks.now is_second ∙ c.requires.each in
    let mixed : IsPermutation (links_of c.args.chart.now colours c.args.sides.now) links = rw c.in_ok-links.ensures.links at c.group.ensures.same in
    let below : AreLinksBelow (length flips) links = rw c.loop-root.invariant.underway.len
    (All-permutation (λ (l : Link). (l.from < length c.args.chart.now) ×
    (l.to < length c.args.chart.now)) _ _ c.group.ensures.same c.in_ok-links.ensures.below) in
    let none : (root : ℕ) → GainsAt c.held_root-held.result c.loop-root.tallies.items root
    → ⊥ = rw c.deref-in-loop-root.ensures.value at c.in_default.ensures.gains in
    let done : (root : ℕ) → GainsBy (held_root c.args.chart.now c.args.fixed) flips links root → ⊥ = rw (← c.held_root-held.ensures)
    (none-by-links c.held_root-held.result links flips c.loop-root.tallies.items c.loop-root.invariant.tallies below none) in
    underway-end c.args.chart.now colours flips c.args.sides.now c.args.fixed links same c.requires.sides mixed c.loop-root.invariant.underway done

pub links-requires-clause-low : goal.links-requires-clause-low
links-requires-clause-low c = c.requires.low

pub links-requires-clause-sides : goal.links-requires-clause-sides
links-requires-clause-sides c = c.requires.sides

pub links-requires-clause-each : goal.links-requires-clause-each
links-requires-clause-each c = c.requires.each

pub queue_of-requires : goal.queue_of-requires
queue_of-requires c =
    let tallies : length c.deref-3.result.now ≡ length c.deref-2.result.now = ap length c.deref-3.ensures.value ∙ c.in_ok-tallies.ensures.len in
    let flips : length c.deref-2.result.now ≡ length c.in_ok-flips.flips.items = ap length c.deref-2.ensures.value in
    let len = c.in_ok-flips.ensures.len in
    let long = c.in_ok-flips.flips.ok.0 in
    let few = c.requires.few in
    omega (arith, tallies, flips, len, long, few)

pub next_gain-requires-clause-queue : goal.next_gain-requires-clause-queue
next_gain-requires-clause-queue c = c.loop-root.invariant.queue

pub next_gain-requires-clause-all : goal.next_gain-requires-clause-all
next_gain-requires-clause-all c =
    subst (λ ts. AllWait c.held_root-held.result ts (heap_items c.loop-root.waiting)) (sym c.deref-in-loop-root.ensures.value) c.loop-root.invariant.all

pub flip-requires-clause-ordered : goal.flip-requires-clause-ordered
flip-requires-clause-ordered c = rw c.deref-in-Some.ensures.value c.group.ensures.ordered

pub flip-requires-clause-within : goal.flip-requires-clause-within
flip-requires-clause-within c =
    let gains : GainsAt c.held_root-held.result c.loop-root.tallies.items c.in-Some.root = rw c.deref-in-loop-root.ensures.value at c.in-Some.ensures.gains in
    rw c.deref_mut.ensures.value (gain-within c.held_root-held.result c.group.new.links.items c.loop-root.flips.items c.loop-root.tallies.items
    c.loop-root.invariant.tallies c.in-Some.root gains)

pub flip-requires-clause-tallies : goal.flip-requires-clause-tallies
flip-requires-clause-tallies c =
    rw (c.deref-in-Some.ensures.value, c.deref_mut.ensures.value, c.deref_mut-in-Some.ensures.value) c.loop-root.invariant.tallies

pub flip-requires-clause-gains : goal.flip-requires-clause-gains
flip-requires-clause-gains c = rw c.deref_mut-in-Some.ensures.value (rw c.deref-in-loop-root.ensures.value at c.in-Some.ensures.gains)

pub flip-requires-clause-queue : goal.flip-requires-clause-queue
flip-requires-clause-queue c = c.in-Some.ensures.queue

pub flip-requires-clause-rest : goal.flip-requires-clause-rest
flip-requires-clause-rest c = rw c.deref_mut-in-Some.ensures.value (rw c.deref-in-loop-root.ensures.value at c.in-Some.ensures.rest)

pub returns-clause-len : goal.returns-clause-len
returns-clause-len c = c.loop-root.invariant.underway.len
