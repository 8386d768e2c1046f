-- What the members and entries of an object in memory are to the definitions.
use Rattle.std.specs.Prelude.{List, map}
use Rattle.values_semantics.specs.declared.val.Val.{Val}
use Rattle.values_semantics.specs.Heap.{Entries}
use Rattle.values_frozen_objects.specs.Shift.{moved_val, moved_pair}
use Rattle.values_objects.specs.declared.object_ref.MemberStore.{MemberStore}
use Rattle.values_objects.specs.declared.object_ref.MemberStore.TheVariants as m
use Rattle.values_objects.specs.Numbers.{shown}
use Rattle.values_objects.specs.declared.object_ref.EntryStore.{EntryStore}
use Rattle.values_objects.specs.declared.object_ref.EntryStore.TheVariants as e

abbrev pub held_members : MemberStore → List Val
held_members (m.Own items) = items.now
held_members (m.Lent items base) = map (moved_val base) items.now
held_members (m.Numbers numbers) = shown numbers.now

abbrev pub held_entries : EntryStore → Entries
held_entries (e.Own entries) = entries.now.entries
held_entries (e.Lent dict base) = map (moved_pair base) dict.now
