use Rattle.std.proofs.Common.{◌<◌, ◌∙◌, arith, take, length, slice_index_or, sym, ap, subst}
use Rattle.std.specs.List.{IsDistinct}
use Rattle.keys.specs.Keys.{key_eq}
use Rattle.node_table.specs.Flats.{members_in}
use Rattle.node.specs.Records.{numbers_with}
use Rattle.node.proofs.Reaching.{some_more, user_taken}
use Rattle.node.proofs.Numbering.{in_at_is, in_members, key_there, key_same, same_length, taken_members, within_at, lists_more}
use Rattle.node.proofs.Showing.{lists_same}
use Rattle.node.proofs.marks.dirty_rdeps.Goals as goal

pub bounds-rdeps_with-at : goal.bounds-rdeps_with-at
bounds-rdeps_with-at c =
    let i = c.loop-at.invariant in
    let same = lists_same c.args.records.now c.loop-at.records c.requires.distinct i.some.same_keys i.some.same_lists c.args.number c.requires.within in
    let now = c.rdeps_with.ensures ∙ same ∙ sym c.rdeps_with-count.ensures in
    subst (λ l. c.loop-at.at < l) (sym (ap length now)) c.loop-at-test.true

pub dirty_if_clean-requires-clause-within : goal.dirty_if_clean-requires-clause-within
dirty_if_clean-requires-clause-within c =
    let i = c.loop-at.invariant in
    let start = c.args.records.now in
    let users = numbers_with start c.args.number in
    let n = c.index-rdeps_with-at.result in
    let at = c.loop-at.at in
    let same = lists_same start c.loop-at.records c.requires.distinct i.some.same_keys i.some.same_lists c.args.number c.requires.within in
    let h : at < length users = subst (λ l. at < l) (ap length c.rdeps_with-count.ensures) c.loop-at-test.true in
    let is = c.index-rdeps_with-at.is ∙ ap (λ ns. slice_index_or ns at n) (c.rdeps_with.ensures ∙ same) in
    subst (λ l. n < l) (sym (same_length start c.loop-at.records i.some.same_keys)) (within_at start users at n c.requires.users is h)

pub loop-at-preserved : goal.loop-at-preserved
loop-at-preserved c =
    let i = c.loop-at.invariant in
    let start = c.args.records.now in
    let users = numbers_with start c.args.number in
    let begun = members_in start c.args.marked.now.items in
    let old = c.loop-at.records in
    let before = members_in old c.loop-at.marked.items in
    let new = c.dirty_if_clean.new.records in
    let now = members_in new c.dirty_if_clean.new.marked.items in
    let n = c.index-rdeps_with-at.result in
    let at = c.loop-at.at in
    let same = lists_same start old c.requires.distinct i.some.same_keys i.some.same_lists c.args.number c.requires.within in
    let h : at < length users = subst (λ l. at < l) (ap length c.rdeps_with-count.ensures) c.loop-at-test.true in
    let is = c.index-rdeps_with-at.is ∙ ap (λ ns. slice_index_or ns at n) (c.rdeps_with.ensures ∙ same) in
    let k = key_there start n (within_at start users at n c.requires.users is h) in
    let reached = c.in_ok-dirty_if_clean.ensures.ok k.0 (key_same start old i.some.same_keys n ∙ k.1) in
    record {
      some = some_more old new before now k.0 start begun (members_in start users) i.some reached (in_members start users n k.0 (in_at_is users at n n is h) k.1);
      all = user_taken old new before now k.0 (members_in start (take at users)) _ (taken_members start users at n k.0 is h k.1) reached i.all;
      work = let w = c.in_ok-dirty_if_clean.ensures.work in omega arith;
      lists = lists_more start old c.args.marked.now.items c.loop-at.marked.items c.dirty_if_clean.new.marked.items i.some.same_keys i.lists c.in_ok-dirty_if_clean.ensures.lists;
    }

pub dirty_if_clean-requires-clause-distinct : goal.dirty_if_clean-requires-clause-distinct
dirty_if_clean-requires-clause-distinct c = subst (λ ks. IsDistinct key_eq ks) (sym c.loop-at.invariant.some.same_keys) c.requires.distinct
