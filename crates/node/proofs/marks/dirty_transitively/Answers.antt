use Rattle.std.proofs.Common.{◌≡◌, ◌<◌, ◌∙◌, All, arith, length, sym, ap, subst, List}
use Rattle.keys.specs.declared.key.Key.{Key}
use Rattle.node_table.specs.Tables.{AreDistinct}
use Rattle.node_table.specs.Flats.{members_in}
use Rattle.node.specs.Records.{numbers_of, numbers_with, users_of}
use Rattle.node.specs.Marks.{HasReachedAll, HasReachedSome}
use Rattle.node.proofs.Reaching.{spread_more, passed_more, within_more, all_passed}
use Rattle.node.proofs.Numbering.{all_from_in, in_at_is, key_there, in_members, lists_more, lists_within, members_same, same_length, within_at, within_same}
use Rattle.node.proofs.Relating.{distinct_kept}
use Rattle.node.proofs.Showing.{lists_by_number}
use Rattle.node.proofs.marks.dirty_transitively.Goals as goal

pub dirty_rdeps-requires-clause-within : goal.dirty_rdeps-requires-clause-within
dirty_rdeps-requires-clause-within c =
    let i = c.loop-at.invariant in
    let start = c.args.records.now in
    let old = c.loop-at.records in
    let marked = c.loop-at.marked.items in
    let n = c.index-number.result.now in
    let h : c.loop-at.at < length marked = omega (arith, c.len.ensures, c.loop-at-test.true) in
    let all = within_same start old marked i.spread.same_keys (lists_within start c.args.marked.now.items marked c.requires.within i.lists) in
    let low = within_at old marked c.loop-at.at n all c.index-number.ensures h in
    low

pub dirty_rdeps-requires-clause-users : goal.dirty_rdeps-requires-clause-users
dirty_rdeps-requires-clause-users c =
    let i = c.loop-at.invariant in
    let start = c.args.records.now in
    let old = c.loop-at.records in
    let marked = c.loop-at.marked.items in
    let n = c.index-number.result.now in
    let h : c.loop-at.at < length marked = omega (arith, c.len.ensures, c.loop-at-test.true) in
    let all = within_same start old marked i.spread.same_keys (lists_within start c.args.marked.now.items marked c.requires.within i.lists) in
    let low = within_at old marked c.loop-at.at n all c.index-number.ensures h in
    let k = key_there old n low in
    let distinct : AreDistinct old = distinct_kept start old i.spread.same_keys c.requires.distinct in
    let users : numbers_with old n ≡ numbers_of start k.0 = lists_by_number old distinct k.0 n k.1 ∙ i.spread.same_lists k.0 in
    subst (All (λ x. x < length old)) (sym users)
    (all_from_in (numbers_of start k.0) (length old) (λ x u. subst (λ l. x < l) (sym (same_length start old i.spread.same_keys)) (c.requires.numbers k.0 x u)))

pub dirty_rdeps-requires-clause-distinct : goal.dirty_rdeps-requires-clause-distinct
dirty_rdeps-requires-clause-distinct c = distinct_kept c.args.records.now c.loop-at.records c.loop-at.invariant.spread.same_keys c.requires.distinct

pub returns-in_err-dirty_rdeps-clause-spread : goal.returns-in_err-dirty_rdeps-clause-spread
returns-in_err-dirty_rdeps-clause-spread c =
    let i = c.loop-at.invariant in
    let start = c.args.records.now in
    let old = c.loop-at.records in
    let marked = c.loop-at.marked.items in
    let n = c.index-number.result.now in
    let h : c.loop-at.at < length marked = omega (arith, c.len.ensures, c.loop-at-test.true) in
    let all = within_same start old marked i.spread.same_keys (lists_within start c.args.marked.now.items marked c.requires.within i.lists) in
    let low = within_at old marked c.loop-at.at n all c.index-number.ensures h in
    let k = key_there old n low in
    let distinct : AreDistinct old = distinct_kept start old i.spread.same_keys c.requires.distinct in
    let users : numbers_with old n ≡ numbers_of start k.0 = lists_by_number old distinct k.0 n k.1 ∙ i.spread.same_lists k.0 in
    let new = c.dirty_rdeps.new.records in
    let now = c.dirty_rdeps.new.marked.items in
    let these = ap (members_in old) users ∙ members_same start old i.spread.same_keys (numbers_of start k.0) in
    let some = subst (HasReachedSome old new (members_in old marked) (members_in new now)) these c.dirty_rdeps.ensures.some in
    spread_more (users_of start) start old new (members_in start c.args.marked.now.items) (members_in old marked) (members_in new now) k.0
    i.spread some (in_members old marked n k.0 (in_at_is marked c.loop-at.at n n c.index-number.ensures h) k.1)

pub returns-in_err-dirty_rdeps-clause-lists : goal.returns-in_err-dirty_rdeps-clause-lists
returns-in_err-dirty_rdeps-clause-lists c =
    let i = c.loop-at.invariant in
    lists_more c.args.records.now c.loop-at.records c.args.marked.now.items c.loop-at.marked.items c.dirty_rdeps.new.marked.items i.spread.same_keys i.lists c.dirty_rdeps.ensures.lists

pub loop-at-preserved : goal.loop-at-preserved
loop-at-preserved c =
    let i = c.loop-at.invariant in
    let start = c.args.records.now in
    let old = c.loop-at.records in
    let marked = c.loop-at.marked.items in
    let n = c.index-number.result.now in
    let h : c.loop-at.at < length marked = omega (arith, c.len.ensures, c.loop-at-test.true) in
    let all = within_same start old marked i.spread.same_keys (lists_within start c.args.marked.now.items marked c.requires.within i.lists) in
    let low = within_at old marked c.loop-at.at n all c.index-number.ensures h in
    let k = key_there old n low in
    let distinct : AreDistinct old = distinct_kept start old i.spread.same_keys c.requires.distinct in
    let users : numbers_with old n ≡ numbers_of start k.0 = lists_by_number old distinct k.0 n k.1 ∙ i.spread.same_lists k.0 in
    let new = c.dirty_rdeps.new.records in
    let now = c.dirty_rdeps.new.marked.items in
    let these = ap (members_in old) users ∙ members_same start old i.spread.same_keys (numbers_of start k.0) in
    let some = subst (HasReachedSome old new (members_in old marked) (members_in new now)) these c.dirty_rdeps.ensures.some in
    let each = subst (λ (ks : List Key). HasReachedAll new ks) these c.in_ok-dirty_rdeps.ensures.all in
    record {
      spread = spread_more (users_of start) start old new (members_in start c.args.marked.now.items) (members_in old marked) (members_in new now) k.0
          i.spread some (in_members old marked n k.0 (in_at_is marked c.loop-at.at n n c.index-number.ensures h) k.1);
      passed = passed_more (users_of start) old new marked now c.loop-at.at n k.0 k.1 c.index-number.ensures h i.passed some c.dirty_rdeps.ensures.lists each;
      within = within_more (users_of start) old new marked now c.loop-at.at n h c.dirty_rdeps.ensures.lists;
      lists = lists_more start old c.args.marked.now.items marked now i.spread.same_keys i.lists c.dirty_rdeps.ensures.lists;
    }

pub returns-clause-passed : goal.returns-clause-passed
returns-clause-passed c =
    all_passed (users_of c.args.records.now) c.loop-at.records c.loop-at.marked.items c.loop-at.at c.loop-at.invariant.passed (omega (arith, c.len.ensures, c.loop-at-test.false))
