use Rattle.std.proofs.Common.{◌≤◌, ◌<◌, length, map, arith, rules}
use Rattle.std.proofs.lemmas.List.{length-map}
use Rattle.dpl_tree.proofs.BlockLaws.{covered-none, covered-higher, covered-push, high-none, high-push, index-none, index-push, more-items}
use Rattle.dpl_tree.proofs.StoredLaws.{level-items}
use Rattle.dpl_tree.specs.StoredItems.{item_of}
use Rattle.dpl_tree.proofs.blocks.levels_over.Goals as goal

pub returns-then-items-le-FAN : goal.returns-then-items-le-FAN
returns-then-items-le-FAN c = index-none (map item_of c.args.items.now) c.new-levels.result.items c.new-levels.ensures.items
    (let few = c.if-items-le-FAN.true in let len = length-map c.args.items.now item_of in omega (arith, few, len))

pub loop-alloc-init : goal.loop-alloc-init
loop-alloc-init c = record {
  covered = covered-none (map item_of c.args.items.now) c.new-levels.result.items c.new-levels.ensures.items;
  high = high-none (map item_of c.args.items.now) c.new-levels.result.items c.new-levels.ensures.items;
  top = rw c.new-levels.ensures.items (level-items c.args.items.now 8 c.in_ok-top.top.items c.in_ok-top.ensures);
  more = rw c.new-levels.ensures.items (let test = c.if-items-le-FAN.false in let len = length-map c.args.items.now item_of in omega (arith, test, len));
}

pub loop-alloc-preserved : goal.loop-alloc-preserved
loop-alloc-preserved c =
    let push = rw c.of.ensures at c.in_ok-push.ensures.items in
    let inv = c.loop-alloc.invariant in
    let many : 8 < length c.loop-alloc.top.items = (let count = c.len.ensures in let test = c.loop-alloc-test.true in search rules) in
    record {
      covered = covered-push (map item_of c.args.items.now) c.loop-alloc.levels.items c.push.new.self.items c.loop-alloc.top.items push inv.covered inv.top;
      high = high-push (map item_of c.args.items.now) c.loop-alloc.levels.items c.push.new.self.items c.loop-alloc.top.items push inv.high inv.more;
      top = covered-higher (map item_of c.args.items.now) c.loop-alloc.levels.items c.push.new.self.items c.loop-alloc.top.items c.in_ok-next.next.items push inv.top
          (rw c.as_slice.ensures.value at c.in_ok-next.ensures);
      more = more-items (map item_of c.args.items.now) c.loop-alloc.levels.items c.push.new.self.items c.loop-alloc.top.items push inv.top many;
    }

pub returns : goal.returns
returns c =
    let push = rw c.of-2.ensures at c.in_ok-push-2.ensures.items in
    let inv = c.loop-alloc.invariant in
    let few : length c.loop-alloc.top.items ≤ 8 = (let count = c.len.ensures in let test = c.loop-alloc-test.false in search rules) in
    index-push (map item_of c.args.items.now) c.loop-alloc.levels.items c.push-2.new.self.items c.loop-alloc.top.items push inv.covered inv.high inv.top inv.more few
