use Rattle.std.proofs.Common.{◌∙◌, sym, ap, subst, ◌<◌, All, List, ℕ, length}
use Rattle.std.specs.Option.{IsSome, is_some}
use Rattle.engine_semantics.specs.Value.{IsMember, In}
use Rattle.node_table.specs.Tables.{AreDistinct}
use Rattle.node_table.proofs.Numbers.{number_iff}
use Rattle.node.specs.Records.{Users, kept_at, items_of, numbers_of, users_in, users_of}
use Rattle.node.specs.Batches.{HasLinkedEntries, HasLinkedEach}
use Rattle.node.specs.Writes.{groups_at}
use Rattle.node.proofs.Batching.{all_entries, entries_linked, entries_each}
use Rattle.node.proofs.Joining.{is_in}
use Rattle.node.proofs.Numbering.{key_same, key_within, numbered_key}
use Rattle.node.proofs.Relating.{distinct_kept, has_number, keys_linked_some, keys_linked_all, numbers_linked, numbers_same, users_same}
use Rattle.std.specs.Map.{keys_of}
use Rattle.node_table.specs.Flats.{members_in}
use Rattle.node.proofs.Showing.{asked_below, asked_member, keeps_asks, keeps_keys, keeps_seen, some_kept}
use Rattle.node.proofs.batch.link_all.Goals as goal

pub unwrap-user-requires : goal.unwrap-user-requires
unwrap-user-requires c =
    let start = c.args.records.now in
    let old = c.loop-entry.records in
    let key = c.entry-item.result.key in
    let e = is_in c.args.entries.now c.loop-entry.entry-index c.entry-item.result c.entry-item.is c.loop-entry-test.true in
    let s = some_kept (keys_of old) (kept_at old key) (subst IsSome (sym (λ i. keeps_seen start old c.loop-entry.invariant.same i key)) (c.requires.there c.entry-item.result e)) in
    numbered_key old key c.id_of.result c.id_of.ensures.number (ap is_some s.1)

pub members_with-requires : goal.members_with-requires
members_with-requires c =
    let old = c.loop-entry.records in
    let user = c.unwrap-user.result in
    let key = c.entry-item.result.key in
    let at = (number_iff old c.id_of.ensures.distinct key user).0 (sym c.id_of.ensures.number ∙ c.unwrap-user.ensures) in
    subst (All (λ n. n < length old)) (sym (c.kept_members.ensures key at)) (asked_below old (keeps_asks c.args.records.now old c.loop-entry.invariant.same c.requires.asks) key)

pub kept_members-requires-clause-within : goal.kept_members-requires-clause-within
kept_members-requires-clause-within c =
    let old = c.loop-entry.records in
    let user = c.unwrap-user.result in
    let key = c.entry-item.result.key in
    key_within old user key ((number_iff old c.id_of.ensures.distinct key user).0 (sym c.id_of.ensures.number ∙ c.unwrap-user.ensures))

pub kept_members-requires-clause-distinct : goal.kept_members-requires-clause-distinct
kept_members-requires-clause-distinct c = c.id_of.ensures.distinct

pub link_groups-requires-clause-linked : goal.link_groups-requires-clause-linked
link_groups-requires-clause-linked c = λ j m.
    let start = c.args.records.now in
    let old = c.loop-entry.records in
    let i = c.loop-entry.invariant in
    let user = c.unwrap-user.result in
    let key = c.entry-item.result.key in
    let keys = keeps_keys start old i.same in
    let d : AreDistinct start = distinct_kept old start (sym keys) c.id_of.ensures.distinct in
    let at_old = (number_iff old c.id_of.ensures.distinct key user).0 (sym c.id_of.ensures.number ∙ c.unwrap-user.ensures) in
    let at = sym (key_same start old keys user) ∙ at_old in
    let e = is_in c.args.entries.now c.loop-entry.entry-index c.entry-item.result c.entry-item.is c.loop-entry-test.true in
    let asked = subst (IsMember j) (λ x. groups_at (keeps_seen start old i.same x key)) (asked_member old key j (subst (λ (ns : List ℕ). In j (members_in old ns)) (c.kept_members.ensures key at_old) ((c.in_ok-linked.ensures j).0 m))) in
    has_number start d key user at (numbers_of old) j (i.some.keeps j key (c.requires.users c.entry-item.result e j asked))

pub link_groups-requires-clause-members : goal.link_groups-requires-clause-members
link_groups-requires-clause-members c = λ j m.
    let start = c.args.records.now in
    let old = c.loop-entry.records in
    let i = c.loop-entry.invariant in
    let user = c.unwrap-user.result in
    let key = c.entry-item.result.key in
    let keys = keeps_keys start old i.same in
    let d : AreDistinct start = distinct_kept old start (sym keys) c.id_of.ensures.distinct in
    let at_old = (number_iff old c.id_of.ensures.distinct key user).0 (sym c.id_of.ensures.number ∙ c.unwrap-user.ensures) in
    let at = sym (key_same start old keys user) ∙ at_old in
    let e = is_in c.args.entries.now c.loop-entry.entry-index c.entry-item.result c.entry-item.is c.loop-entry-test.true in
    subst IsSome (sym (λ x. keeps_seen start old i.same x j)) (c.requires.members c.entry-item.result e j (subst (IsMember j) (ap items_of c.as_slice.ensures.value) m))

pub returns-in_err-linked-clause-some : goal.returns-in_err-linked-clause-some
returns-in_err-linked-clause-some c =
    let start = c.args.records.now in
    let old = c.loop-entry.records in
    let i = c.loop-entry.invariant in
    subst (λ (u : Users). HasLinkedEntries (users_of start) u c.args.entries.now) (sym (users_same start old (numbers_of old) (keeps_keys start old i.same))) i.some

pub returns-in_err-linked-clause-numbers : goal.returns-in_err-linked-clause-numbers
returns-in_err-linked-clause-numbers c =
    let start = c.args.records.now in
    let old = c.loop-entry.records in
    let i = c.loop-entry.invariant in
    numbers_same start old (numbers_of old) (keeps_keys start old i.same) i.numbers

pub returns-in_err-link_groups-clause-some : goal.returns-in_err-link_groups-clause-some
returns-in_err-link_groups-clause-some c =
    let start = c.args.records.now in
    let old = c.loop-entry.records in
    let i = c.loop-entry.invariant in
    let user = c.unwrap-user.result in
    let key = c.entry-item.result.key in
    let keys = keeps_keys start old i.same in
    let d : AreDistinct start = distinct_kept old start (sym keys) c.id_of.ensures.distinct in
    let at_old = (number_iff old c.id_of.ensures.distinct key user).0 (sym c.id_of.ensures.number ∙ c.unwrap-user.ensures) in
    let at = sym (key_same start old keys user) ∙ at_old in
    let e = is_in c.args.entries.now c.loop-entry.entry-index c.entry-item.result c.entry-item.is c.loop-entry-test.true in
    let new = c.link_groups.new.records in
    let still = keeps_keys start new (c.link_groups.ensures.same ∙ i.same) in
    subst (λ (u : Users). HasLinkedEntries (users_of start) u c.args.entries.now) (sym (users_same start new (numbers_of new) still))
    (entries_linked (users_of start) (users_in start (numbers_of old)) (users_in start (numbers_of new)) c.args.entries.now c.loop-entry.entry-index c.entry-item.result c.entry-item.is c.loop-entry-test.true
    _ (ap items_of c.as_slice.ensures.value) (keys_linked_some start d key user at (numbers_of old) (numbers_of new) _ c.link_groups.ensures.some) i.some)

pub returns-in_err-link_groups-clause-numbers : goal.returns-in_err-link_groups-clause-numbers
returns-in_err-link_groups-clause-numbers c =
    let start = c.args.records.now in
    let old = c.loop-entry.records in
    let i = c.loop-entry.invariant in
    let user = c.unwrap-user.result in
    let key = c.entry-item.result.key in
    let keys = keeps_keys start old i.same in
    let d : AreDistinct start = distinct_kept old start (sym keys) c.id_of.ensures.distinct in
    let at_old = (number_iff old c.id_of.ensures.distinct key user).0 (sym c.id_of.ensures.number ∙ c.unwrap-user.ensures) in
    let at = sym (key_same start old keys user) ∙ at_old in
    let e = is_in c.args.entries.now c.loop-entry.entry-index c.entry-item.result c.entry-item.is c.loop-entry-test.true in
    let new = c.link_groups.new.records in
    numbers_same start new (numbers_of new) (keeps_keys start new (c.link_groups.ensures.same ∙ i.same))
    (numbers_linked start (numbers_of old) (numbers_of new) user _ (key_within start user key at) c.link_groups.ensures.some i.numbers)

pub returns-in_err-link_groups-clause-same : goal.returns-in_err-link_groups-clause-same
returns-in_err-link_groups-clause-same c = c.link_groups.ensures.same ∙ c.loop-entry.invariant.same

pub loop-entry-preserved : goal.loop-entry-preserved
loop-entry-preserved c =
    let start = c.args.records.now in
    let old = c.loop-entry.records in
    let i = c.loop-entry.invariant in
    let user = c.unwrap-user.result in
    let key = c.entry-item.result.key in
    let keys = keeps_keys start old i.same in
    let d : AreDistinct start = distinct_kept old start (sym keys) c.id_of.ensures.distinct in
    let at_old = (number_iff old c.id_of.ensures.distinct key user).0 (sym c.id_of.ensures.number ∙ c.unwrap-user.ensures) in
    let at = sym (key_same start old keys user) ∙ at_old in
    let e = is_in c.args.entries.now c.loop-entry.entry-index c.entry-item.result c.entry-item.is c.loop-entry-test.true in
    let new = c.link_groups.new.records in
    let some = keys_linked_some start d key user at (numbers_of old) (numbers_of new) _ c.link_groups.ensures.some in
    record {
      some = entries_linked (users_of start) (users_in start (numbers_of old)) (users_in start (numbers_of new)) c.args.entries.now c.loop-entry.entry-index c.entry-item.result c.entry-item.is c.loop-entry-test.true
          _ (ap items_of c.as_slice.ensures.value) some i.some;
      all = entries_each (users_of start) (users_in start (numbers_of old)) (users_in start (numbers_of new)) c.args.entries.now c.loop-entry.entry-index c.entry-item.result c.entry-item.is c.loop-entry-test.true
          _ (ap items_of c.as_slice.ensures.value) some (keys_linked_all start d key user at (numbers_of old) (numbers_of new) _ c.in_ok-link_groups.ensures.all) i.all;
      numbers = numbers_linked start (numbers_of old) (numbers_of new) user _ (key_within start user key at) c.link_groups.ensures.some i.numbers;
      same = c.link_groups.ensures.same ∙ i.same;
    }

pub returns-clause-some : goal.returns-clause-some
returns-clause-some c =
    let start = c.args.records.now in
    let old = c.loop-entry.records in
    let i = c.loop-entry.invariant in
    subst (λ (u : Users). HasLinkedEntries (users_of start) u c.args.entries.now) (sym (users_same start old (numbers_of old) (keeps_keys start old i.same))) i.some

pub returns-clause-all : goal.returns-clause-all
returns-clause-all c =
    let start = c.args.records.now in
    let old = c.loop-entry.records in
    let i = c.loop-entry.invariant in
    subst (λ (u : Users). HasLinkedEach u c.args.entries.now) (sym (users_same start old (numbers_of old) (keeps_keys start old i.same)))
    (all_entries (users_in start (numbers_of old)) c.args.entries.now c.loop-entry.entry-index c.loop-entry-test.false i.all)

pub returns-clause-numbers : goal.returns-clause-numbers
returns-clause-numbers c =
    let start = c.args.records.now in
    let old = c.loop-entry.records in
    let i = c.loop-entry.invariant in
    numbers_same start old (numbers_of old) (keeps_keys start old i.same) i.numbers
