use Rattle.std.proofs.Common.{◌∙◌, ◌<◌, All, length, sym, ap, subst}
use Rattle.std.proofs.lemmas.List.Elements.{All-nil}
use Rattle.node_table.specs.Flats.{members_in}
use Rattle.std.specs.List.{IsDistinct}
use Rattle.keys.specs.Keys.{key_eq}
use Rattle.node.specs.Records.{Users, users_of}
use Rattle.node.specs.Marks.{HasSpread, HasPassed}
use Rattle.node.proofs.Relating.{users_kept, numbers_kept}
use Rattle.node.proofs.Reaching.{from_leaves}
use Rattle.node.proofs.Numbering.{lists_more, lists_within, within_same}
use Rattle.node.proofs.marks.mark_dirty_from.Goals as goal

pub returns-in_err-dirty_leaves-clause-marked : goal.returns-in_err-dirty_leaves-clause-marked
returns-in_err-dirty_leaves-clause-marked c =
    from_leaves (users_of c.args.records.now) c.args.records.now c.dirty_leaves.new.records (members_in c.args.records.now c.args.marked.now.items) (members_in c.dirty_leaves.new.records c.dirty_leaves.new.marked.items) c.args.leaves.now
    (ap (members_in c.args.records.now) c.requires.none) c.dirty_leaves.ensures.some

pub returns-in_err-dirty_transitively-clause-marked : goal.returns-in_err-dirty_transitively-clause-marked
returns-in_err-dirty_transitively-clause-marked c =
    let same = users_kept c.args.records.now c.dirty_leaves.new.records c.dirty_leaves.ensures.some.same_keys c.dirty_leaves.ensures.some.same_lists in
    (subst (λ (u : Users). HasSpread u c.dirty_leaves.new.records c.dirty_transitively.new.records (members_in c.dirty_leaves.new.records c.dirty_leaves.new.marked.items) (members_in c.dirty_transitively.new.records c.dirty_transitively.new.marked.items)) same c.dirty_transitively.ensures.spread).marks c.args.leaves.now c.args.records.now
    (from_leaves (users_of c.args.records.now) c.args.records.now c.dirty_leaves.new.records (members_in c.args.records.now c.args.marked.now.items) (members_in c.dirty_leaves.new.records c.dirty_leaves.new.marked.items) c.args.leaves.now
    (ap (members_in c.args.records.now) c.requires.none) c.dirty_leaves.ensures.some)

pub returns-clause-marked : goal.returns-clause-marked
returns-clause-marked c =
    let same = users_kept c.args.records.now c.dirty_leaves.new.records c.dirty_leaves.ensures.some.same_keys c.dirty_leaves.ensures.some.same_lists in
    (subst (λ (u : Users). HasSpread u c.dirty_leaves.new.records c.dirty_transitively.new.records (members_in c.dirty_leaves.new.records c.dirty_leaves.new.marked.items) (members_in c.dirty_transitively.new.records c.dirty_transitively.new.marked.items)) same c.dirty_transitively.ensures.spread).marks c.args.leaves.now c.args.records.now
    (from_leaves (users_of c.args.records.now) c.args.records.now c.dirty_leaves.new.records (members_in c.args.records.now c.args.marked.now.items) (members_in c.dirty_leaves.new.records c.dirty_leaves.new.marked.items) c.args.leaves.now
    (ap (members_in c.args.records.now) c.requires.none) c.dirty_leaves.ensures.some)

pub returns-in_err-dirty_leaves-clause-within : goal.returns-in_err-dirty_leaves-clause-within
returns-in_err-dirty_leaves-clause-within c =
    let start = c.args.records.now in
    let none = subst (All (λ n. n < length start)) (sym c.requires.none) (All-nil (λ n. n < length start)) in
    within_same start c.dirty_leaves.new.records c.dirty_leaves.new.marked.items c.dirty_leaves.ensures.some.same_keys
    (lists_within start c.args.marked.now.items c.dirty_leaves.new.marked.items none c.dirty_leaves.ensures.lists)

pub dirty_transitively-requires-clause-within : goal.dirty_transitively-requires-clause-within
dirty_transitively-requires-clause-within c =
    let start = c.args.records.now in
    let none = subst (All (λ n. n < length start)) (sym c.requires.none) (All-nil (λ n. n < length start)) in
    within_same start c.dirty_leaves.new.records c.dirty_leaves.new.marked.items c.dirty_leaves.ensures.some.same_keys
    (lists_within start c.args.marked.now.items c.dirty_leaves.new.marked.items none c.dirty_leaves.ensures.lists)

pub returns-in_err-dirty_transitively-clause-within : goal.returns-in_err-dirty_transitively-clause-within
returns-in_err-dirty_transitively-clause-within c =
    let start = c.args.records.now in
    let middle = c.dirty_leaves.new.records in
    let none = subst (All (λ n. n < length start)) (sym c.requires.none) (All-nil (λ n. n < length start)) in
    within_same start c.dirty_transitively.new.records c.dirty_transitively.new.marked.items (c.dirty_transitively.ensures.spread.same_keys ∙ c.dirty_leaves.ensures.some.same_keys)
    (lists_within start c.args.marked.now.items c.dirty_transitively.new.marked.items none
    (lists_more start middle c.args.marked.now.items c.dirty_leaves.new.marked.items c.dirty_transitively.new.marked.items c.dirty_leaves.ensures.some.same_keys c.dirty_leaves.ensures.lists c.dirty_transitively.ensures.lists))

pub returns-clause-within : goal.returns-clause-within
returns-clause-within c =
    let start = c.args.records.now in
    let middle = c.dirty_leaves.new.records in
    let none = subst (All (λ n. n < length start)) (sym c.requires.none) (All-nil (λ n. n < length start)) in
    within_same start c.dirty_transitively.new.records c.dirty_transitively.new.marked.items (c.dirty_transitively.ensures.spread.same_keys ∙ c.dirty_leaves.ensures.some.same_keys)
    (lists_within start c.args.marked.now.items c.dirty_transitively.new.marked.items none
    (lists_more start middle c.args.marked.now.items c.dirty_leaves.new.marked.items c.dirty_transitively.new.marked.items c.dirty_leaves.ensures.some.same_keys c.dirty_leaves.ensures.lists c.dirty_transitively.ensures.lists))

pub dirty_transitively-requires-clause-distinct : goal.dirty_transitively-requires-clause-distinct
dirty_transitively-requires-clause-distinct c = subst (λ ks. IsDistinct key_eq ks) (sym c.dirty_leaves.ensures.some.same_keys) c.requires.distinct

pub dirty_transitively-requires-clause-numbers : goal.dirty_transitively-requires-clause-numbers
dirty_transitively-requires-clause-numbers c = numbers_kept c.args.records.now c.dirty_leaves.new.records c.dirty_leaves.ensures.some.same_keys c.dirty_leaves.ensures.some.same_lists c.requires.numbers

pub returns-clause-passed : goal.returns-clause-passed
returns-clause-passed c =
    let same = users_kept c.args.records.now c.dirty_leaves.new.records c.dirty_leaves.ensures.some.same_keys c.dirty_leaves.ensures.some.same_lists in
    subst (λ (u : Users). HasPassed u c.dirty_transitively.new.records (members_in c.dirty_transitively.new.records c.dirty_transitively.new.marked.items)) same c.in_ok-dirty_transitively.ensures.passed
