-- Objects that are after others: each place in them counts from the first of their own.
use Rattle.std.specs.Prelude.{ℕ, ◌+◌, List, map}
use Rattle.values_semantics.specs.declared.key.Part.{Part}
use Rattle.values_semantics.specs.declared.val.Val.{Val}
use Rattle.values_semantics.specs.declared.val.Val.TheVariants as v
use Rattle.values_semantics.specs.declared.val.Entry.{Entry}
use Rattle.values_semantics.specs.Heap.{Obj, text, list, tuple, dict, function}

-- a value, where this many objects are before those from which its place counts
abbrev pub moved_val : ℕ → Val → Val
moved_val b v.Nothing = v.Nothing
moved_val b v.True = v.True
moved_val b v.False = v.False
moved_val b (v.Int n) = v.Int n
moved_val b (v.Builtin n) = v.Builtin n
moved_val b (v.At place) = v.At (b + place)

abbrev pub moved_entry : ℕ → Entry → Entry
moved_entry b e = record { key = moved_val b e.key; value = moved_val b e.value }

abbrev pub moved_pair : ℕ → List Part × Entry → List Part × Entry
moved_pair b p = (p.0, moved_entry b p.1)

abbrev pub moved : ℕ → Obj → Obj
moved b (text bytes) = text bytes
moved b (list members f) = list (map (moved_val b) members) f
moved b (tuple members) = tuple (map (moved_val b) members)
moved b (dict entries f) = dict (map (moved_pair b) entries) f
moved b (function label name) = function label name
