use Rattle.std.proofs.Common.{◌∙◌, List, Option, length, drop, sym, ap, subst}
use Rattle.engine_semantics.specs.Graph.{Record}
use Rattle.engine_semantics.specs.Value.{In}
use Rattle.keys.specs.declared.key.Key.{Key}
use Rattle.keys.specs.declared.value.Value.{Value}
use Rattle.node.specs.declared.entry.Entry.{Entry}
use Rattle.node.specs.Records.{Users, numbers_of, users_of, rows}
use Rattle.node.specs.Graphs.{records_of, IsLinkedBy}
use Rattle.node.specs.Batches.{AreRecorded, AreUsers, HaveMembers, HasPlacedAll, HasLinkedEach, HasLinkedEntries, HasCutAll, HasWrittenAll, IsToWrite, flats_in}
use Rattle.node.proofs.BatchResults.{cut_again, are_users, ready_to_write, batch_linked, sets_all, there_members, there_recorded}
use Rattle.node.proofs.Relating.{distinct_kept, front_linked, numbers_fewer, numbers_put, numbers_same, users_put}
use Rattle.node.proofs.Showing.{first_left, keeps_asks, keeps_keys, keeps_seen}
use Rattle.node.proofs.Batching.{flats_same}
use Rattle.node.proofs.batch.store_all.Goals as goal

pub returns-in-Err-clause-err : goal.returns-in-Err-clause-err
returns-in-Err-clause-err c = ap rows (c.remove_all.ensures c.args.records.now c.place_all.ensures.some c.len-first.ensures.len)

pub returns-in-Err-clause-linked : goal.returns-in-Err-clause-linked
returns-in-Err-clause-linked c = subst IsLinkedBy (sym (c.remove_all.ensures c.args.records.now c.place_all.ensures.some c.len-first.ensures.len)) c.requires.linked

pub returns-in-Err-flats_of-clause-err : goal.returns-in-Err-flats_of-clause-err
returns-in-Err-flats_of-clause-err c = ap rows (c.remove_all-in-Err-flats_of.ensures c.args.records.now c.place_all.ensures.some c.len-first.ensures.len)

pub returns-in-Err-flats_of-clause-linked : goal.returns-in-Err-flats_of-clause-linked
returns-in-Err-flats_of-clause-linked c = subst IsLinkedBy (sym (c.remove_all-in-Err-flats_of.ensures c.args.records.now c.place_all.ensures.some c.len-first.ensures.len)) c.requires.linked

pub flats_of-requires : goal.flats_of-requires
flats_of-requires c =
    let records = c.args.records.now in
    let placed = c.place_all.new.records in
    let entries = c.args.entries.items in
    let was = c.requires.linked in
    let more = c.place_all.ensures.some in
    let lists = c.place_all.ensures.lists in
    let put = users_put records placed more.0 more.1 lists was in
    let all : HasPlacedAll (records_of records) (records_of placed) entries c.args.version = subst (λ (es : List Entry). HasPlacedAll (records_of records) (records_of placed) es c.args.version) c.as_slice.ensures.value c.in_default.ensures.all in
    subst (HaveMembers (records_of placed)) (sym c.as_slice-2.ensures.value) (there_members (records_of records) (records_of placed) entries c.args.version all c.requires.ready)

pub link_all-requires-clause-there : goal.link_all-requires-clause-there
link_all-requires-clause-there c =
    let records = c.args.records.now in
    let placed = c.place_all.new.records in
    let entries = c.args.entries.items in
    let was = c.requires.linked in
    let more = c.place_all.ensures.some in
    let lists = c.place_all.ensures.lists in
    let put = users_put records placed more.0 more.1 lists was in
    let all : HasPlacedAll (records_of records) (records_of placed) entries c.args.version = subst (λ (es : List Entry). HasPlacedAll (records_of records) (records_of placed) es c.args.version) c.as_slice.ensures.value c.in_default.ensures.all in
    subst (AreRecorded (records_of placed)) (sym c.as_slice-3.ensures.value) (there_recorded (records_of records) (records_of placed) entries c.args.version all)

pub link_all-requires-clause-members : goal.link_all-requires-clause-members
link_all-requires-clause-members c =
    let records = c.args.records.now in
    let placed = c.place_all.new.records in
    let entries = c.args.entries.items in
    let was = c.requires.linked in
    let more = c.place_all.ensures.some in
    let lists = c.place_all.ensures.lists in
    let put = users_put records placed more.0 more.1 lists was in
    let all : HasPlacedAll (records_of records) (records_of placed) entries c.args.version = subst (λ (es : List Entry). HasPlacedAll (records_of records) (records_of placed) es c.args.version) c.as_slice.ensures.value c.in_default.ensures.all in
    subst (HaveMembers (records_of placed)) (sym c.as_slice-3.ensures.value) (there_members (records_of records) (records_of placed) entries c.args.version all c.requires.ready)

pub link_all-requires-clause-users : goal.link_all-requires-clause-users
link_all-requires-clause-users c =
    let records = c.args.records.now in
    let placed = c.place_all.new.records in
    let entries = c.args.entries.items in
    let was = c.requires.linked in
    let more = c.place_all.ensures.some in
    let lists = c.place_all.ensures.lists in
    let put = users_put records placed more.0 more.1 lists was in
    let all : HasPlacedAll (records_of records) (records_of placed) entries c.args.version = subst (λ (es : List Entry). HasPlacedAll (records_of records) (records_of placed) es c.args.version) c.as_slice.ensures.value c.in_default.ensures.all in
    subst (AreUsers (records_of placed) (users_of placed)) (sym c.as_slice-3.ensures.value)
    (subst (λ (u : Users). AreUsers (records_of placed) u entries) (sym put) (λ e i. are_users (records_of records) (records_of placed) (users_of records) entries c.args.version was.linked all e))

pub link_all-requires-clause-numbers : goal.link_all-requires-clause-numbers
link_all-requires-clause-numbers c =
    let records = c.args.records.now in
    let placed = c.place_all.new.records in
    let entries = c.args.entries.items in
    let was = c.requires.linked in
    let more = c.place_all.ensures.some in
    let lists = c.place_all.ensures.lists in
    let put = users_put records placed more.0 more.1 lists was in
    let all : HasPlacedAll (records_of records) (records_of placed) entries c.args.version = subst (λ (es : List Entry). HasPlacedAll (records_of records) (records_of placed) es c.args.version) c.as_slice.ensures.value c.in_default.ensures.all in
    numbers_put records placed more.0 more.1 lists was

pub cut_all-requires-clause-there : goal.cut_all-requires-clause-there
cut_all-requires-clause-there c =
    let records = c.args.records.now in
    let placed = c.place_all.new.records in
    let entries = c.args.entries.items in
    let was = c.requires.linked in
    let more = c.place_all.ensures.some in
    let lists = c.place_all.ensures.lists in
    let put = users_put records placed more.0 more.1 lists was in
    let all : HasPlacedAll (records_of records) (records_of placed) entries c.args.version = subst (λ (es : List Entry). HasPlacedAll (records_of records) (records_of placed) es c.args.version) c.as_slice.ensures.value c.in_default.ensures.all in
    let middle = c.link_all.new.records in
    let same = keeps_seen placed middle c.link_all.ensures.same in
    let linked : HasLinkedEntries (users_of records) (users_of middle) entries =
    subst (λ (u : Users). HasLinkedEntries u (users_of middle) entries) put (subst (HasLinkedEntries (users_of placed) (users_of middle)) c.as_slice-3.ensures.value c.link_all.ensures.some) in
    subst (AreRecorded (records_of middle)) (sym c.as_slice-in-Err-link_all.ensures.value)
    (subst (λ (f : Key → Option (Record Key Value)). AreRecorded f entries) (sym same) (there_recorded (records_of records) (records_of placed) entries c.args.version all))

pub returns-in-Err-link_all-clause-err : goal.returns-in-Err-link_all-clause-err
returns-in-Err-link_all-clause-err c =
    let records = c.args.records.now in
    let placed = c.place_all.new.records in
    let entries = c.args.entries.items in
    let was = c.requires.linked in
    let more = c.place_all.ensures.some in
    let lists = c.place_all.ensures.lists in
    let put = users_put records placed more.0 more.1 lists was in
    let all : HasPlacedAll (records_of records) (records_of placed) entries c.args.version = subst (λ (es : List Entry). HasPlacedAll (records_of records) (records_of placed) es c.args.version) c.as_slice.ensures.value c.in_default.ensures.all in
    let middle = c.link_all.new.records in
    let same = keeps_seen placed middle c.link_all.ensures.same in
    let linked : HasLinkedEntries (users_of records) (users_of middle) entries =
    subst (λ (u : Users). HasLinkedEntries u (users_of middle) entries) put (subst (HasLinkedEntries (users_of placed) (users_of middle)) c.as_slice-3.ensures.value c.link_all.ensures.some) in
    let later = c.cut_all.new.records in
    let still = c.cut_all.ensures.same ∙ c.link_all.ensures.same in
    let front = c.remove_all-in-Err-link_all.new.records in
    let left = first_left records placed later front more.0 c.len-first.result still more.1 c.len-first.ensures.len c.remove_all-in-Err-link_all.ensures in
    left.0

pub returns-in-Err-link_all-clause-linked : goal.returns-in-Err-link_all-clause-linked
returns-in-Err-link_all-clause-linked c =
    let records = c.args.records.now in
    let placed = c.place_all.new.records in
    let entries = c.args.entries.items in
    let was = c.requires.linked in
    let more = c.place_all.ensures.some in
    let lists = c.place_all.ensures.lists in
    let put = users_put records placed more.0 more.1 lists was in
    let all : HasPlacedAll (records_of records) (records_of placed) entries c.args.version = subst (λ (es : List Entry). HasPlacedAll (records_of records) (records_of placed) es c.args.version) c.as_slice.ensures.value c.in_default.ensures.all in
    let middle = c.link_all.new.records in
    let same = keeps_seen placed middle c.link_all.ensures.same in
    let linked : HasLinkedEntries (users_of records) (users_of middle) entries =
    subst (λ (u : Users). HasLinkedEntries u (users_of middle) entries) put (subst (HasLinkedEntries (users_of placed) (users_of middle)) c.as_slice-3.ensures.value c.link_all.ensures.some) in
    let later = c.cut_all.new.records in
    let still = c.cut_all.ensures.same ∙ c.link_all.ensures.same in
    let front = c.remove_all-in-Err-link_all.new.records in
    let left = first_left records placed later front more.0 c.len-first.result still more.1 c.len-first.ensures.len c.remove_all-in-Err-link_all.ensures in
    let cut : HasCutAll (records_of placed) (users_of middle) (users_of later) entries =
    subst (λ (f : Key → Option (Record Key Value)). HasCutAll f (users_of middle) (users_of later) entries) same (subst (HasCutAll (records_of middle) (users_of middle) (users_of later)) c.as_slice-in-Err-link_all.ensures.value c.cut_all.ensures.cut) in
    let numbers = numbers_same middle later (numbers_of later) (keeps_keys middle later c.cut_all.ensures.same) (numbers_fewer middle (numbers_of middle) (numbers_of later) c.cut_all.ensures.fewer c.link_all.ensures.numbers) in
    front_linked records placed later front more.0 (drop (length records) later) more.1 left.1 still left.0 c.place_all.ensures.ordered numbers was
    (cut_again (records_of records) (records_of placed) (users_of records) (users_of middle) entries c.args.version was.linked all linked (users_of later) cut)

pub write_all-requires-clause-ready : goal.write_all-requires-clause-ready
write_all-requires-clause-ready c =
    let records = c.args.records.now in
    let placed = c.place_all.new.records in
    let entries = c.args.entries.items in
    let was = c.requires.linked in
    let more = c.place_all.ensures.some in
    let lists = c.place_all.ensures.lists in
    let put = users_put records placed more.0 more.1 lists was in
    let all : HasPlacedAll (records_of records) (records_of placed) entries c.args.version = subst (λ (es : List Entry). HasPlacedAll (records_of records) (records_of placed) es c.args.version) c.as_slice.ensures.value c.in_default.ensures.all in
    let middle = c.link_all.new.records in
    let same = keeps_seen placed middle c.link_all.ensures.same in
    let linked : HasLinkedEntries (users_of records) (users_of middle) entries =
    subst (λ (u : Users). HasLinkedEntries u (users_of middle) entries) put (subst (HasLinkedEntries (users_of placed) (users_of middle)) c.as_slice-3.ensures.value c.link_all.ensures.some) in
    let each : HasLinkedEach (users_of middle) entries = subst (HasLinkedEach (users_of middle)) c.as_slice-3.ensures.value c.in_default-link_all.ensures.all in
    subst (λ (f : Key → Option (Record Key Value)). (e : Entry) → In e entries → (w : Record Key Value) × IsToWrite f (users_of middle) e w) (sym same)
    (ready_to_write (records_of records) (records_of placed) (users_of records) (users_of middle) entries c.args.version was.linked all linked c.requires.differ each)

pub returns-clause-ok : goal.returns-clause-ok
returns-clause-ok c =
    let records = c.args.records.now in
    let placed = c.place_all.new.records in
    let entries = c.args.entries.items in
    let was = c.requires.linked in
    let more = c.place_all.ensures.some in
    let lists = c.place_all.ensures.lists in
    let put = users_put records placed more.0 more.1 lists was in
    let all : HasPlacedAll (records_of records) (records_of placed) entries c.args.version = subst (λ (es : List Entry). HasPlacedAll (records_of records) (records_of placed) es c.args.version) c.as_slice.ensures.value c.in_default.ensures.all in
    let middle = c.link_all.new.records in
    let same = keeps_seen placed middle c.link_all.ensures.same in
    let linked : HasLinkedEntries (users_of records) (users_of middle) entries =
    subst (λ (u : Users). HasLinkedEntries u (users_of middle) entries) put (subst (HasLinkedEntries (users_of placed) (users_of middle)) c.as_slice-3.ensures.value c.link_all.ensures.some) in
    let new = c.write_all.new.records in
    let wrote = subst (λ (f : Key → Option (Record Key Value)). HasWrittenAll f (records_of new) (users_of middle) (users_of new) entries c.args.version) same c.write_all.ensures.written in
    sets_all (records_of records) (records_of placed) (users_of records) (users_of middle) entries c.args.version was.linked all linked (records_of new) (users_of new) wrote c.requires.ready

pub returns-clause-linked : goal.returns-clause-linked
returns-clause-linked c =
    let records = c.args.records.now in
    let placed = c.place_all.new.records in
    let entries = c.args.entries.items in
    let was = c.requires.linked in
    let more = c.place_all.ensures.some in
    let lists = c.place_all.ensures.lists in
    let put = users_put records placed more.0 more.1 lists was in
    let all : HasPlacedAll (records_of records) (records_of placed) entries c.args.version = subst (λ (es : List Entry). HasPlacedAll (records_of records) (records_of placed) es c.args.version) c.as_slice.ensures.value c.in_default.ensures.all in
    let middle = c.link_all.new.records in
    let same = keeps_seen placed middle c.link_all.ensures.same in
    let linked : HasLinkedEntries (users_of records) (users_of middle) entries =
    subst (λ (u : Users). HasLinkedEntries u (users_of middle) entries) put (subst (HasLinkedEntries (users_of placed) (users_of middle)) c.as_slice-3.ensures.value c.link_all.ensures.some) in
    let new = c.write_all.new.records in
    let wrote = subst (λ (f : Key → Option (Record Key Value)). HasWrittenAll f (records_of new) (users_of middle) (users_of new) entries c.args.version) same c.write_all.ensures.written in
    let keys = c.write_all.ensures.keys in
    record {
      linked = batch_linked (records_of records) (records_of placed) (users_of records) (users_of middle) entries c.args.version was.linked all linked (records_of new) (users_of new) wrote c.requires.ready;
      numbers = numbers_same middle new (numbers_of new) keys (numbers_fewer middle (numbers_of middle) (numbers_of new) c.write_all.ensures.fewer c.link_all.ensures.numbers);
      asks = c.write_all.ensures.asks;
      ordered = distinct_kept placed new (keys ∙ keeps_keys placed middle c.link_all.ensures.same) c.place_all.ensures.ordered;
    }

pub cut_all-requires-clause-asks : goal.cut_all-requires-clause-asks
cut_all-requires-clause-asks c = keeps_asks c.place_all.new.records c.link_all.new.records c.link_all.ensures.same c.place_all.ensures.asks

pub write_all-requires-clause-distinct : goal.write_all-requires-clause-distinct
write_all-requires-clause-distinct c = distinct_kept c.place_all.new.records c.link_all.new.records (keeps_keys c.place_all.new.records c.link_all.new.records c.link_all.ensures.same) c.place_all.ensures.ordered

pub write_all-requires-clause-asks : goal.write_all-requires-clause-asks
write_all-requires-clause-asks c = keeps_asks c.place_all.new.records c.link_all.new.records c.link_all.ensures.same c.place_all.ensures.asks

pub write_all-requires-clause-members : goal.write_all-requires-clause-members
write_all-requires-clause-members c =
    let records = c.args.records.now in
    let placed = c.place_all.new.records in
    let entries = c.args.entries.items in
    let was = c.requires.linked in
    let more = c.place_all.ensures.some in
    let lists = c.place_all.ensures.lists in
    let put = users_put records placed more.0 more.1 lists was in
    let all : HasPlacedAll (records_of records) (records_of placed) entries c.args.version = subst (λ (es : List Entry). HasPlacedAll (records_of records) (records_of placed) es c.args.version) c.as_slice.ensures.value c.in_default.ensures.all in
    let middle = c.link_all.new.records in
    let same = keeps_seen placed middle c.link_all.ensures.same in
    let linked : HasLinkedEntries (users_of records) (users_of middle) entries =
    subst (λ (u : Users). HasLinkedEntries u (users_of middle) entries) put (subst (HasLinkedEntries (users_of placed) (users_of middle)) c.as_slice-3.ensures.value c.link_all.ensures.some) in
    subst (λ (f : Key → Option (Record Key Value)). HaveMembers f entries) (sym same) (there_members (records_of records) (records_of placed) entries c.args.version all c.requires.ready)

pub write_all-requires-clause-flats : goal.write_all-requires-clause-flats
write_all-requires-clause-flats c =
    let placed = c.place_all.new.records in
    let middle = c.link_all.new.records in
    c.in-Ok.ensures ∙ ap (flats_in placed) c.as_slice-2.ensures.value ∙ sym (flats_same placed middle (keeps_keys placed middle c.link_all.ensures.same) c.args.entries.items)
