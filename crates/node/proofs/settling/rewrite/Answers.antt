use Rattle.std.proofs.Common.{◌<◌, All, List, ℕ, length, refl, sym, subst, ◌∙◌, ap}
use Rattle.std.specs.List.{concat}
use Rattle.std.specs.Map.{keys_of}
use Rattle.std.specs.Option.{IsSome, is_some}
use Rattle.engine_semantics.specs.Value.{In, IsMember}
use Rattle.node_table.specs.Flats.{HaveNumbers, members_in}
use Rattle.node_table.proofs.Numbers.{number_iff}
use Rattle.node.specs.Records.{Users, UserLists, asked_of, kept_at, numbers_of, users_in, users_of, items_of}
use Rattle.node.specs.Edges.{HasCut, HasLinkedAll, HasUsers}
use Rattle.node.specs.Graphs.{records_of}
use Rattle.node.specs.Writes.{groups_at, SameSets}
use Rattle.node.proofs.Joining.{cut_by_members, cut_fewer}
use Rattle.node.proofs.Numbering.{concat_below, groups_below, have_numbers, key_same, key_within, members_same, same_length}
use Rattle.node.proofs.Relating.{distinct_kept, has_number, keys_linked_some, keys_linked_all, keys_cut, numbers_fewer, numbers_linked, numbers_same, users_same, within_kept}
use Rattle.node.proofs.Rewriting.{complete_at, undone_users, finished_users, flat_member, member_flat, linked_wider}
use Rattle.node.proofs.Showing.{asked_below, asked_member, keeps_asked, keeps_asks, keeps_keys, keeps_seen, member_asked, rewritten_asks, rewritten_keys, rewritten_lists, rewritten_sets, some_kept}
use Rattle.node.proofs.Storing.{recorded_at}
use Rattle.node.proofs.settling.rewrite.Goals as goal

pub members_with-requires : goal.members_with-requires
members_with-requires c =
    let records = c.args.records.now in
    let key = c.args.key.now in
    let user = c.args.user in
    let d = c.requires.linked.ordered in
    let at = (number_iff records d key user).0 c.requires.numbered in
    subst (All (λ n. n < length records)) (sym (c.kept_members-2.ensures key at)) (asked_below records c.requires.linked.asks key)

pub of-requires : goal.of-requires
of-requires c =
    let records = c.args.records.now in
    let have = subst (HaveNumbers records) (sym (ap items_of c.as_slice-2.ensures.value)) (have_numbers records (items_of c.args.groups.items) (λ j m. let x = some_kept (keys_of records) (kept_at records j) (c.requires.members j m) in ap is_some x.1)) in
    have

pub link_members-requires-clause-linked : goal.link_members-requires-clause-linked
link_members-requires-clause-linked c = λ j i.
    let records = c.args.records.now in
    let lists = numbers_of records in
    let key = c.args.key.now in
    let user = c.args.user in
    let d = c.requires.linked.ordered in
    let at = (number_iff records d key user).0 c.requires.numbered in
    let asked = subst (λ (ns : List ℕ). In j (members_in records ns)) (c.kept_members-2.ensures key at) ((c.in_ok-linked.ensures j).0 i) in
    has_number records d key user at lists j (complete_at (records_of records) (users_of records) c.requires.linked.linked key j (asked_member records key j asked))

pub kept_members-requires-clause-within : goal.kept_members-requires-clause-within
kept_members-requires-clause-within c =
    let records = c.args.records.now in
    let key = c.args.key.now in
    let user = c.args.user in
    let d = c.requires.linked.ordered in
    let at = (number_iff records d key user).0 c.requires.numbered in
    key_within records user key at

pub kept_members-requires-clause-distinct : goal.kept_members-requires-clause-distinct
kept_members-requires-clause-distinct c = c.requires.linked.ordered

pub kept_members-requires-2-clause-within : goal.kept_members-requires-2-clause-within
kept_members-requires-2-clause-within c =
    let records = c.args.records.now in
    let key = c.args.key.now in
    let user = c.args.user in
    let d = c.requires.linked.ordered in
    let at = (number_iff records d key user).0 c.requires.numbered in
    key_within records user key at

pub kept_members-requires-2-clause-distinct : goal.kept_members-requires-2-clause-distinct
kept_members-requires-2-clause-distinct c = c.requires.linked.ordered

pub link_members-requires-clause-numbers : goal.link_members-requires-clause-numbers
link_members-requires-clause-numbers c =
    let records = c.args.records.now in
    let key = c.args.key.now in
    let user = c.args.user in
    let d = c.requires.linked.ordered in
    let at = (number_iff records d key user).0 c.requires.numbered in
    let flat = c.in_ok-flat.flat in
    let have = subst (HaveNumbers records) (sym (ap items_of c.as_slice-2.ensures.value)) (have_numbers records (items_of c.args.groups.items) (λ j m. let x = some_kept (keys_of records) (kept_at records j) (c.requires.members j m) in ap is_some x.1)) in
    let below = concat_below (length records) flat (subst (All (All (λ n. n < length records))) (sym c.in_ok-flat.ensures.numbers) (groups_below records d (items_of c.as_slice-2.result.now) have)) in
    subst (All (λ n. n < length records)) (sym c.members.ensures) below

pub drop_edges_to-requires-clause-within : goal.drop_edges_to-requires-clause-within
drop_edges_to-requires-clause-within c =
    let records = c.args.records.now in
    let lists = numbers_of records in
    let key = c.args.key.now in
    let user = c.args.user in
    let d = c.requires.linked.ordered in
    let at = (number_iff records d key user).0 c.requires.numbered in
    let middle = c.link_members.new.records in
    let same = c.link_members.ensures.same in
    let keys = keeps_keys records middle same in
    within_kept records middle keys user (key_within records user key at)

pub drop_edges_to-requires-clause-distinct : goal.drop_edges_to-requires-clause-distinct
drop_edges_to-requires-clause-distinct c =
    distinct_kept c.args.records.now c.link_members.new.records (keeps_keys c.args.records.now c.link_members.new.records c.link_members.ensures.same) c.requires.linked.ordered

pub drop_edges_to-requires-clause-members : goal.drop_edges_to-requires-clause-members
drop_edges_to-requires-clause-members c = keeps_asks c.args.records.now c.link_members.new.records c.link_members.ensures.same c.requires.linked.asks

pub drop_edges_to-requires-clause-numbers : goal.drop_edges_to-requires-clause-numbers
drop_edges_to-requires-clause-numbers c =
    let records = c.args.records.now in
    let key = c.args.key.now in
    let user = c.args.user in
    let d = c.requires.linked.ordered in
    let at = (number_iff records d key user).0 c.requires.numbered in
    let middle = c.link_members.new.records in
    let same = c.link_members.ensures.same in
    let keys = keeps_keys records middle same in
    let flat = c.in_ok-flat.flat in
    let have = subst (HaveNumbers records) (sym (ap items_of c.as_slice-2.ensures.value)) (have_numbers records (items_of c.args.groups.items) (λ j m. let x = some_kept (keys_of records) (kept_at records j) (c.requires.members j m) in ap is_some x.1)) in
    let below = concat_below (length records) flat (subst (All (All (λ n. n < length records))) (sym c.in_ok-flat.ensures.numbers) (groups_below records d (items_of c.as_slice-2.result.now) have)) in
    subst (All (λ n. n < length middle)) (sym c.members-in-Err.ensures) (subst (λ l. All (λ n. n < l) (concat flat)) (sym (same_length records middle keys)) below)

pub returns-in-Err-clause-err : goal.returns-in-Err-clause-err
returns-in-Err-clause-err c =
    let records = c.args.records.now in
    let lists = numbers_of records in
    let key = c.args.key.now in
    let user = c.args.user in
    let d = c.requires.linked.ordered in
    let at = (number_iff records d key user).0 c.requires.numbered in
    let middle = c.link_members.new.records in
    let same = c.link_members.ensures.same in
    let keys = keeps_keys records middle same in
    let later = c.drop_edges_to.new.records in
    let still = c.drop_edges_to.ensures.same ∙ same in
    let news = items_of c.args.groups.items in
    let flat = c.in_ok-flat.flat in
    let is = c.in_ok-flat.ensures.keys ∙ ap items_of c.as_slice-2.ensures.value in
    let some = linked_wider lists (numbers_of middle) user _ (λ j. IsMember j news) (flat_member records flat c.members.result.now news c.members.ensures is) c.link_members.ensures.some in
    let gone = c.members-in-Err.result.now in
    let cut = cut_fewer (numbers_of middle) (numbers_of later) user (λ j. In j (members_in middle gone)) (λ j. IsMember j news) (λ j. IsMember j (groups_at (records_of middle key)))
    (λ j m. subst (In j) (sym (members_same records middle keys gone)) (member_flat records flat gone news c.members-in-Err.ensures is j m)) (c.drop_edges_to.ensures.cut key (key_same records middle keys user ∙ at)) in (
      still,
      subst (SameSets (users_of records)) (sym (users_same records later (numbers_of later) (keeps_keys records later still)))
          (undone_users (records_of records) (users_of records) c.requires.linked.linked key (users_in records (numbers_of middle)) (users_in records (numbers_of later)) news news news _
          refl (keys_linked_some records d key user at lists (numbers_of middle) _ some)
          refl (λ i. groups_at (keeps_seen records middle same i key)) (keys_cut records d key user at (numbers_of middle) (numbers_of later) _ _ cut)),
    )

pub returns-in-Err-clause-keys : goal.returns-in-Err-clause-keys
returns-in-Err-clause-keys c = keeps_keys c.args.records.now c.drop_edges_to.new.records (c.drop_edges_to.ensures.same ∙ c.link_members.ensures.same)

pub returns-in-Err-clause-asks : goal.returns-in-Err-clause-asks
returns-in-Err-clause-asks c = keeps_asks c.args.records.now c.drop_edges_to.new.records (c.drop_edges_to.ensures.same ∙ c.link_members.ensures.same) c.requires.linked.asks

pub returns-in-Err-clause-numbers : goal.returns-in-Err-clause-numbers
returns-in-Err-clause-numbers c =
    let records = c.args.records.now in
    let lists = numbers_of records in
    let key = c.args.key.now in
    let user = c.args.user in
    let d = c.requires.linked.ordered in
    let at = (number_iff records d key user).0 c.requires.numbered in
    let middle = c.link_members.new.records in
    let same = c.link_members.ensures.same in
    let keys = keeps_keys records middle same in
    let later = c.drop_edges_to.new.records in
    let still = c.drop_edges_to.ensures.same ∙ same in
    let cut = c.drop_edges_to.ensures.cut key (key_same records middle keys user ∙ at) in
    numbers_same records later (numbers_of later) (keeps_keys records later still)
    (numbers_fewer records (numbers_of middle) (numbers_of later) cut.from (numbers_linked records lists (numbers_of middle) user _ (key_within records user key at) c.link_members.ensures.some c.requires.linked.numbers))

pub write-old-requires-clause-distinct : goal.write-old-requires-clause-distinct
write-old-requires-clause-distinct c =
    distinct_kept c.args.records.now c.link_members.new.records (keeps_keys c.args.records.now c.link_members.new.records c.link_members.ensures.same) c.requires.linked.ordered

pub drop_edges_except-requires-clause-numbers : goal.drop_edges_except-requires-clause-numbers
drop_edges_except-requires-clause-numbers c =
    let records = c.args.records.now in
    let lists = numbers_of records in
    let key = c.args.key.now in
    let user = c.args.user in
    let d = c.requires.linked.ordered in
    let at = (number_iff records d key user).0 c.requires.numbered in
    let middle = c.link_members.new.records in
    let same = c.link_members.ensures.same in
    let keys = keeps_keys records middle same in
    let wrote = c.write-old.new.records in
    let s = some_kept (keys_of middle) (kept_at middle key) (subst IsSome (sym (λ i. keeps_seen records middle same i key)) (recorded_at c.args.records.now c.args.key.now c.args.user c.requires.numbered)) in
    let u = c.write-old.ensures.updates key s.0 (key_same records middle keys user ∙ at) s.1 in
    let wrote_keys = u.keys ∙ keys in
    let numbers = c.members-2.ensures ∙ ap concat (c.write-old.ensures.groups key s.0 (key_same records middle keys user ∙ at) s.1) ∙ ap asked_of (sym s.1) ∙ keeps_asked records middle same key in
    subst (All (λ n. n < length wrote)) (sym numbers) (subst (λ l. All (λ n. n < l) (asked_of (kept_at records key))) (sym (same_length records wrote wrote_keys)) (asked_below records c.requires.linked.asks key))

pub drop_edges_except-requires-clause-distinct : goal.drop_edges_except-requires-clause-distinct
drop_edges_except-requires-clause-distinct c =
    let records = c.args.records.now in
    let lists = numbers_of records in
    let key = c.args.key.now in
    let user = c.args.user in
    let d = c.requires.linked.ordered in
    let at = (number_iff records d key user).0 c.requires.numbered in
    let middle = c.link_members.new.records in
    let same = c.link_members.ensures.same in
    let keys = keeps_keys records middle same in
    let wrote = c.write-old.new.records in
    let s = some_kept (keys_of middle) (kept_at middle key) (subst IsSome (sym (λ i. keeps_seen records middle same i key)) (recorded_at c.args.records.now c.args.key.now c.args.user c.requires.numbered)) in
    let u = c.write-old.ensures.updates key s.0 (key_same records middle keys user ∙ at) s.1 in
    let wrote_keys = u.keys ∙ keys in
    distinct_kept records wrote wrote_keys d

pub returns-clause-ok : goal.returns-clause-ok
returns-clause-ok c =
    let records = c.args.records.now in
    let lists = numbers_of records in
    let key = c.args.key.now in
    let user = c.args.user in
    let d = c.requires.linked.ordered in
    let at = (number_iff records d key user).0 c.requires.numbered in
    let middle = c.link_members.new.records in
    let same = c.link_members.ensures.same in
    let keys = keeps_keys records middle same in
    let wrote = c.write-old.new.records in
    let s = some_kept (keys_of middle) (kept_at middle key) (subst IsSome (sym (λ i. keeps_seen records middle same i key)) (recorded_at c.args.records.now c.args.key.now c.args.user c.requires.numbered)) in
    let u = c.write-old.ensures.updates key s.0 (key_same records middle keys user ∙ at) s.1 in
    let wrote_keys = u.keys ∙ keys in
    let final = c.drop_edges_except.new.records in
    let flat = c.in_ok-flat.flat in
    rewritten_sets records middle wrote final key s.0 c.args.value flat c.args.version same s.1 u c.drop_edges_except.ensures.same (items_of c.args.groups.items) (c.in_ok-flat.ensures.keys ∙ ap items_of c.as_slice-2.ensures.value)

pub returns-clause-users : goal.returns-clause-users
returns-clause-users c =
    let records = c.args.records.now in
    let lists = numbers_of records in
    let key = c.args.key.now in
    let user = c.args.user in
    let d = c.requires.linked.ordered in
    let at = (number_iff records d key user).0 c.requires.numbered in
    let middle = c.link_members.new.records in
    let same = c.link_members.ensures.same in
    let keys = keeps_keys records middle same in
    let wrote = c.write-old.new.records in
    let s = some_kept (keys_of middle) (kept_at middle key) (subst IsSome (sym (λ i. keeps_seen records middle same i key)) (recorded_at c.args.records.now c.args.key.now c.args.user c.requires.numbered)) in
    let u = c.write-old.ensures.updates key s.0 (key_same records middle keys user ∙ at) s.1 in
    let wrote_keys = u.keys ∙ keys in
    let numbers = c.members-2.ensures ∙ ap concat (c.write-old.ensures.groups key s.0 (key_same records middle keys user ∙ at) s.1) ∙ ap asked_of (sym s.1) ∙ keeps_asked records middle same key in
    let final = c.drop_edges_except.new.records in
    let flat = c.in_ok-flat.flat in
    let members = members_in wrote c.members-2.result.now in
    let members_is = members_same records wrote wrote_keys c.members-2.result.now ∙ ap (members_in records) numbers in
    let news = items_of c.as_slice.result.now in
    let olds = groups_at (records_of records key) in
    let gone = subst (λ (l : UserLists). HasCut l (numbers_of final) user (λ j. IsMember j olds) (λ j. IsMember j news)) (rewritten_lists records middle wrote final key s.0 c.args.value flat c.args.version same s.1 u c.drop_edges_except.ensures.same)
    (cut_by_members (numbers_of wrote) (numbers_of final) user c.kept_members.result.now members olds news c.in_ok-keep.keep
    (λ j m. subst (In j) (sym members_is) (member_asked records key j m)) (λ q. members_is ∙ ap (members_in records) (sym (c.kept_members.ensures key at) ∙ q))
    c.in_ok-keep.ensures.some c.in_ok-keep.ensures.none c.drop_edges_except.ensures.some c.drop_edges_except.ensures.none) in
    let end = rewritten_keys records middle wrote final key s.0 c.args.value flat c.args.version same s.1 u c.drop_edges_except.ensures.same in
    let asked = items_of c.args.groups.items in
    let is = c.in_ok-flat.ensures.keys ∙ ap items_of c.as_slice-2.ensures.value in
    let some = linked_wider lists (numbers_of middle) user _ (λ j. IsMember j asked) (flat_member records flat c.members.result.now asked c.members.ensures is) c.link_members.ensures.some in
    let all : HasLinkedAll (numbers_of middle) user (λ j. IsMember j asked) = λ j m. c.in_default.ensures.all j (member_flat records flat c.members.result.now asked c.members.ensures is j m) in
    subst (λ (v : Users). HasUsers (users_of records) v key (items_of c.args.groups.items)) (sym (users_same records final (numbers_of final) end))
    (finished_users (records_of records) (users_of records) c.requires.linked.linked key (users_in records (numbers_of middle)) (users_in records (numbers_of final)) asked asked olds news
    refl (keys_linked_some records d key user at lists (numbers_of middle) _ some) (keys_linked_all records d key user at lists (numbers_of middle) _ all) refl (ap items_of c.as_slice.ensures.value)
    (keys_cut records d key user at (numbers_of middle) (numbers_of final) _ _ gone))

pub returns-clause-keys : goal.returns-clause-keys
returns-clause-keys c =
    let records = c.args.records.now in
    let lists = numbers_of records in
    let key = c.args.key.now in
    let user = c.args.user in
    let d = c.requires.linked.ordered in
    let at = (number_iff records d key user).0 c.requires.numbered in
    let middle = c.link_members.new.records in
    let same = c.link_members.ensures.same in
    let keys = keeps_keys records middle same in
    let wrote = c.write-old.new.records in
    let s = some_kept (keys_of middle) (kept_at middle key) (subst IsSome (sym (λ i. keeps_seen records middle same i key)) (recorded_at c.args.records.now c.args.key.now c.args.user c.requires.numbered)) in
    let u = c.write-old.ensures.updates key s.0 (key_same records middle keys user ∙ at) s.1 in
    let wrote_keys = u.keys ∙ keys in
    let final = c.drop_edges_except.new.records in
    let flat = c.in_ok-flat.flat in
    rewritten_keys records middle wrote final key s.0 c.args.value flat c.args.version same s.1 u c.drop_edges_except.ensures.same

pub returns-clause-asks : goal.returns-clause-asks
returns-clause-asks c =
    let records = c.args.records.now in
    let lists = numbers_of records in
    let key = c.args.key.now in
    let user = c.args.user in
    let d = c.requires.linked.ordered in
    let at = (number_iff records d key user).0 c.requires.numbered in
    let middle = c.link_members.new.records in
    let same = c.link_members.ensures.same in
    let keys = keeps_keys records middle same in
    let wrote = c.write-old.new.records in
    let s = some_kept (keys_of middle) (kept_at middle key) (subst IsSome (sym (λ i. keeps_seen records middle same i key)) (recorded_at c.args.records.now c.args.key.now c.args.user c.requires.numbered)) in
    let u = c.write-old.ensures.updates key s.0 (key_same records middle keys user ∙ at) s.1 in
    let wrote_keys = u.keys ∙ keys in
    let final = c.drop_edges_except.new.records in
    let flat = c.in_ok-flat.flat in
    let have = subst (HaveNumbers records) (sym (ap items_of c.as_slice-2.ensures.value)) (have_numbers records (items_of c.args.groups.items) (λ j m. let x = some_kept (keys_of records) (kept_at records j) (c.requires.members j m) in ap is_some x.1)) in
    rewritten_asks records middle wrote final key s.0 c.args.value flat c.args.version same s.1 u c.drop_edges_except.ensures.same (subst (All (All (λ n. n < length records))) (sym c.in_ok-flat.ensures.numbers) (groups_below records d (items_of c.as_slice-2.result.now) have)) c.requires.linked.asks

pub returns-clause-numbers : goal.returns-clause-numbers
returns-clause-numbers c =
    let records = c.args.records.now in
    let lists = numbers_of records in
    let key = c.args.key.now in
    let user = c.args.user in
    let d = c.requires.linked.ordered in
    let at = (number_iff records d key user).0 c.requires.numbered in
    let middle = c.link_members.new.records in
    let same = c.link_members.ensures.same in
    let keys = keeps_keys records middle same in
    let wrote = c.write-old.new.records in
    let s = some_kept (keys_of middle) (kept_at middle key) (subst IsSome (sym (λ i. keeps_seen records middle same i key)) (recorded_at c.args.records.now c.args.key.now c.args.user c.requires.numbered)) in
    let u = c.write-old.ensures.updates key s.0 (key_same records middle keys user ∙ at) s.1 in
    let wrote_keys = u.keys ∙ keys in
    let numbers = c.members-2.ensures ∙ ap concat (c.write-old.ensures.groups key s.0 (key_same records middle keys user ∙ at) s.1) ∙ ap asked_of (sym s.1) ∙ keeps_asked records middle same key in
    let final = c.drop_edges_except.new.records in
    let flat = c.in_ok-flat.flat in
    let members = members_in wrote c.members-2.result.now in
    let members_is = members_same records wrote wrote_keys c.members-2.result.now ∙ ap (members_in records) numbers in
    let news = items_of c.as_slice.result.now in
    let olds = groups_at (records_of records key) in
    let gone = subst (λ (l : UserLists). HasCut l (numbers_of final) user (λ j. IsMember j olds) (λ j. IsMember j news)) (rewritten_lists records middle wrote final key s.0 c.args.value flat c.args.version same s.1 u c.drop_edges_except.ensures.same)
    (cut_by_members (numbers_of wrote) (numbers_of final) user c.kept_members.result.now members olds news c.in_ok-keep.keep
    (λ j m. subst (In j) (sym members_is) (member_asked records key j m)) (λ q. members_is ∙ ap (members_in records) (sym (c.kept_members.ensures key at) ∙ q))
    c.in_ok-keep.ensures.some c.in_ok-keep.ensures.none c.drop_edges_except.ensures.some c.drop_edges_except.ensures.none) in
    let end = rewritten_keys records middle wrote final key s.0 c.args.value flat c.args.version same s.1 u c.drop_edges_except.ensures.same in
    numbers_same records final (numbers_of final) end
    (numbers_fewer records (numbers_of middle) (numbers_of final) gone.from (numbers_linked records lists (numbers_of middle) user _ (key_within records user key at) c.in_default.ensures.some c.requires.linked.numbers))
