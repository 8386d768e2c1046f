use Rattle.std.proofs.Common.{◌<◌, ◌∙◌, All, length, map, refl, sym, ap, subst}
use Rattle.std.specs.List.{concat}
use Rattle.std.specs.Map.{keys_of}
use Rattle.std.specs.Option.{option_map, is_some}
use Rattle.engine_semantics.specs.Value.{In, IsMember}
use Rattle.node_table.specs.Flats.{members_in}
use Rattle.node_table.proofs.Numbers.{number_iff}
use Rattle.node.specs.Edges.{HasCut, HasUsers}
use Rattle.node.specs.Graphs.{records_of}
use Rattle.node.specs.Records.{Users, UserLists, asked_of, kept_at, items_of, keys_at, numbers_of, record_of, users_in, users_of}
use Rattle.node.specs.Writes.{groups_at}
use Rattle.node.proofs.Batching.{written_users}
use Rattle.node.proofs.Joining.{cut_fewer}
use Rattle.node.proofs.Numbering.{key_same, key_within, members_same, numbered_key, same_length}
use Rattle.node.proofs.Relating.{distinct_kept, keys_cut, users_same}
use Rattle.node.proofs.Showing.{asked_below, member_asked, rewritten_asks, rewritten_keys, rewritten_lists, rewritten_sets, some_kept}
use Rattle.node.proofs.batch.write_entry.Goals as goal

pub unwrap-user-requires : goal.unwrap-user-requires
unwrap-user-requires c =
    let s = some_kept (keys_of c.args.records.now) (kept_at c.args.records.now c.args.entry.key) (ap is_some c.requires.ready.1.there) in
    numbered_key c.args.records.now c.args.entry.key c.id_of.result c.id_of.ensures.number (ap is_some s.1)

pub drop_edges_to-requires-clause-within : goal.drop_edges_to-requires-clause-within
drop_edges_to-requires-clause-within c =
    let start = c.args.records.now in
    let wrote = c.write-old.new.records in
    let user = c.unwrap-user.result in
    let key = c.args.entry.key in
    let d = c.id_of.ensures.distinct in
    let at = (number_iff start d key user).0 (sym c.id_of.ensures.number ∙ c.unwrap-user.ensures) in
    let s = some_kept (keys_of start) (kept_at start key) (ap is_some c.requires.ready.1.there) in
    let u = c.write-old.ensures.updates key s.0 at s.1 in
    let at_wrote = key_same start wrote u.keys user ∙ at in
    let flat = c.args.flat in
    key_within wrote user key at_wrote

pub drop_edges_to-requires-clause-numbers : goal.drop_edges_to-requires-clause-numbers
drop_edges_to-requires-clause-numbers c =
    let start = c.args.records.now in
    let wrote = c.write-old.new.records in
    let user = c.unwrap-user.result in
    let key = c.args.entry.key in
    let d = c.id_of.ensures.distinct in
    let at = (number_iff start d key user).0 (sym c.id_of.ensures.number ∙ c.unwrap-user.ensures) in
    let s = some_kept (keys_of start) (kept_at start key) (ap is_some c.requires.ready.1.there) in
    let u = c.write-old.ensures.updates key s.0 at s.1 in
    let at_wrote = key_same start wrote u.keys user ∙ at in
    let flat = c.args.flat in
    let numbers = c.members.ensures ∙ ap concat (c.write-old.ensures.groups key s.0 at s.1) ∙ ap asked_of (sym s.1) in
    subst (All (λ n. n < length wrote)) (sym numbers) (subst (λ l. All (λ n. n < l) (asked_of (kept_at start key))) (sym (same_length start wrote u.keys)) (asked_below start c.requires.asks key))

pub drop_edges_to-requires-clause-distinct : goal.drop_edges_to-requires-clause-distinct
drop_edges_to-requires-clause-distinct c =
    let start = c.args.records.now in
    let wrote = c.write-old.new.records in
    let user = c.unwrap-user.result in
    let key = c.args.entry.key in
    let d = c.id_of.ensures.distinct in
    let at = (number_iff start d key user).0 (sym c.id_of.ensures.number ∙ c.unwrap-user.ensures) in
    let s = some_kept (keys_of start) (kept_at start key) (ap is_some c.requires.ready.1.there) in
    let u = c.write-old.ensures.updates key s.0 at s.1 in
    let at_wrote = key_same start wrote u.keys user ∙ at in
    let flat = c.args.flat in
    distinct_kept start wrote u.keys d

pub drop_edges_to-requires-clause-members : goal.drop_edges_to-requires-clause-members
drop_edges_to-requires-clause-members c =
    let start = c.args.records.now in
    let wrote = c.write-old.new.records in
    let user = c.unwrap-user.result in
    let key = c.args.entry.key in
    let d = c.id_of.ensures.distinct in
    let at = (number_iff start d key user).0 (sym c.id_of.ensures.number ∙ c.unwrap-user.ensures) in
    let s = some_kept (keys_of start) (kept_at start key) (ap is_some c.requires.ready.1.there) in
    let u = c.write-old.ensures.updates key s.0 at s.1 in
    let at_wrote = key_same start wrote u.keys user ∙ at in
    let flat = c.args.flat in
    rewritten_asks start start wrote wrote key s.0 c.args.entry.value flat c.args.version refl s.1 u refl c.requires.members.within c.requires.asks

pub returns-clause-sets : goal.returns-clause-sets
returns-clause-sets c =
    let start = c.args.records.now in
    let wrote = c.write-old.new.records in
    let user = c.unwrap-user.result in
    let key = c.args.entry.key in
    let d = c.id_of.ensures.distinct in
    let at = (number_iff start d key user).0 (sym c.id_of.ensures.number ∙ c.unwrap-user.ensures) in
    let s = some_kept (keys_of start) (kept_at start key) (ap is_some c.requires.ready.1.there) in
    let u = c.write-old.ensures.updates key s.0 at s.1 in
    let at_wrote = key_same start wrote u.keys user ∙ at in
    let flat = c.args.flat in
    let final = c.drop_edges_to.new.records in
    rewritten_sets start start wrote final key s.0 c.args.entry.value flat c.args.version refl s.1 u c.drop_edges_to.ensures.same (items_of c.args.entry.groups.items) c.requires.members.groups

pub returns-clause-users : goal.returns-clause-users
returns-clause-users c =
    let start = c.args.records.now in
    let wrote = c.write-old.new.records in
    let user = c.unwrap-user.result in
    let key = c.args.entry.key in
    let d = c.id_of.ensures.distinct in
    let at = (number_iff start d key user).0 (sym c.id_of.ensures.number ∙ c.unwrap-user.ensures) in
    let s = some_kept (keys_of start) (kept_at start key) (ap is_some c.requires.ready.1.there) in
    let u = c.write-old.ensures.updates key s.0 at s.1 in
    let at_wrote = key_same start wrote u.keys user ∙ at in
    let flat = c.args.flat in
    let final = c.drop_edges_to.new.records in
    let t = c.requires.ready.1 in
    let numbers = c.members.ensures ∙ ap concat (c.write-old.ensures.groups key s.0 at s.1) ∙ ap asked_of (sym s.1) in
    let olds = groups_at (records_of start key) in
    let news = groups_at (records_of wrote key) in
    let members_is = members_same start wrote u.keys c.members.result.now ∙ ap (members_in start) numbers in
    let cut = cut_fewer (numbers_of wrote) (numbers_of final) user (λ j. In j (members_in wrote c.members.result.now)) (λ j. IsMember j olds) (λ j. IsMember j news)
    (λ j m. subst (In j) (sym members_is) (member_asked start key j m)) (c.drop_edges_to.ensures.cut key at_wrote) in
    let gone = subst (λ (l : UserLists). HasCut l (numbers_of final) user (λ j. IsMember j olds) (λ j. IsMember j news)) (rewritten_lists start start wrote final key s.0 c.args.entry.value flat c.args.version refl s.1 u c.drop_edges_to.ensures.same) cut in
    let end = rewritten_keys start start wrote final key s.0 c.args.entry.value flat c.args.version refl s.1 u c.drop_edges_to.ensures.same in
    let asks = ap (λ o. groups_at (option_map (record_of (keys_of wrote)) o)) u.there ∙ (λ i. map (keys_at (u.keys i)) flat) ∙ c.requires.members.groups in
    subst (λ (v : Users). HasUsers (users_of start) v key (items_of c.args.entry.groups.items)) (sym (users_same start final (numbers_of final) end))
    (written_users (records_of start) (users_of start) (users_in start (numbers_of final)) c.args.entry c.requires.ready.0 t olds news (ap groups_at t.there) asks
    (keys_cut start d key user at (numbers_of start) (numbers_of final) _ _ gone))

pub returns-clause-fewer : goal.returns-clause-fewer
returns-clause-fewer c =
    let start = c.args.records.now in
    let wrote = c.write-old.new.records in
    let user = c.unwrap-user.result in
    let key = c.args.entry.key in
    let d = c.id_of.ensures.distinct in
    let at = (number_iff start d key user).0 (sym c.id_of.ensures.number ∙ c.unwrap-user.ensures) in
    let s = some_kept (keys_of start) (kept_at start key) (ap is_some c.requires.ready.1.there) in
    let u = c.write-old.ensures.updates key s.0 at s.1 in
    let at_wrote = key_same start wrote u.keys user ∙ at in
    let flat = c.args.flat in
    let final = c.drop_edges_to.new.records in
    let t = c.requires.ready.1 in
    let numbers = c.members.ensures ∙ ap concat (c.write-old.ensures.groups key s.0 at s.1) ∙ ap asked_of (sym s.1) in
    let olds = groups_at (records_of start key) in
    let news = groups_at (records_of wrote key) in
    let members_is = members_same start wrote u.keys c.members.result.now ∙ ap (members_in start) numbers in
    let cut = cut_fewer (numbers_of wrote) (numbers_of final) user (λ j. In j (members_in wrote c.members.result.now)) (λ j. IsMember j olds) (λ j. IsMember j news)
    (λ j m. subst (In j) (sym members_is) (member_asked start key j m)) (c.drop_edges_to.ensures.cut key at_wrote) in
    let gone = subst (λ (l : UserLists). HasCut l (numbers_of final) user (λ j. IsMember j olds) (λ j. IsMember j news)) (rewritten_lists start start wrote final key s.0 c.args.entry.value flat c.args.version refl s.1 u c.drop_edges_to.ensures.same) cut in
    let end = rewritten_keys start start wrote final key s.0 c.args.entry.value flat c.args.version refl s.1 u c.drop_edges_to.ensures.same in
    gone.from

pub returns-clause-keys : goal.returns-clause-keys
returns-clause-keys c =
    let start = c.args.records.now in
    let wrote = c.write-old.new.records in
    let user = c.unwrap-user.result in
    let key = c.args.entry.key in
    let d = c.id_of.ensures.distinct in
    let at = (number_iff start d key user).0 (sym c.id_of.ensures.number ∙ c.unwrap-user.ensures) in
    let s = some_kept (keys_of start) (kept_at start key) (ap is_some c.requires.ready.1.there) in
    let u = c.write-old.ensures.updates key s.0 at s.1 in
    let at_wrote = key_same start wrote u.keys user ∙ at in
    let flat = c.args.flat in
    let final = c.drop_edges_to.new.records in
    rewritten_keys start start wrote final key s.0 c.args.entry.value flat c.args.version refl s.1 u c.drop_edges_to.ensures.same

pub returns-clause-asks : goal.returns-clause-asks
returns-clause-asks c =
    let start = c.args.records.now in
    let wrote = c.write-old.new.records in
    let user = c.unwrap-user.result in
    let key = c.args.entry.key in
    let d = c.id_of.ensures.distinct in
    let at = (number_iff start d key user).0 (sym c.id_of.ensures.number ∙ c.unwrap-user.ensures) in
    let s = some_kept (keys_of start) (kept_at start key) (ap is_some c.requires.ready.1.there) in
    let u = c.write-old.ensures.updates key s.0 at s.1 in
    let at_wrote = key_same start wrote u.keys user ∙ at in
    let flat = c.args.flat in
    let final = c.drop_edges_to.new.records in
    rewritten_asks start start wrote final key s.0 c.args.entry.value flat c.args.version refl s.1 u c.drop_edges_to.ensures.same c.requires.members.within c.requires.asks
