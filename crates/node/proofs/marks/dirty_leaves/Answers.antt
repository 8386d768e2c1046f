use Rattle.node_table.specs.Flats.{members_in}
use Rattle.node.proofs.Reaching.{some_more, leaf_taken}
use Rattle.node.proofs.Numbering.{in_at_is, lists_more}
use Rattle.node.proofs.marks.dirty_leaves.Goals as goal

pub loop-leaf-preserved : goal.loop-leaf-preserved
loop-leaf-preserved c =
    let i = c.loop-leaf.invariant in
    let start = c.args.records.now in
    let begun = members_in start c.args.marked.now.items in
    let old = c.loop-leaf.records in
    let before = members_in old c.loop-leaf.marked.items in
    let new = c.dirty_leaf.new.records in
    let now = members_in new c.dirty_leaf.new.marked.items in
    record {
      some = some_more old new before now c.leaf-item.result start begun c.args.leaves.now
          i.some c.in_ok-dirty_leaf.ensures.ok (in_at_is c.args.leaves.now c.loop-leaf.leaf-index _ c.leaf-item.result c.leaf-item.is c.loop-leaf-test.true);
      all = leaf_taken old new before now c.args.leaves.now c.loop-leaf.leaf-index _ c.leaf-item.result c.leaf-item.is c.loop-leaf-test.true c.in_ok-dirty_leaf.ensures.ok i.all;
      lists = lists_more start old c.args.marked.now.items c.loop-leaf.marked.items c.dirty_leaf.new.marked.items i.some.same_keys i.lists c.in_ok-dirty_leaf.ensures.lists;
    }
