-- What the nodes of a stall show: the cycle to which the walk along their stops comes. `stops k` is the member at which
-- k stops, for each node that is closed; `records` gives the graph's record of a key.
use Rattle.std.specs.Prelude.{◌≡◌, ◌⊎◌, List, [], ◌∷◌, ◌++◌, false, Option, Some, None, option_map}
use Rattle.std.specs.Arc.{arc_value}
use Rattle.std.specs.BTreeMap.{BTreeMap, get}
use Rattle.std.specs.declared.alloc.Global.{Global}
use Rattle.std.specs.declared.sync.Arc.{Arc}
use Rattle.engine_semantics.specs.Graph.{Record}
use Rattle.engine_semantics.specs.Value.{In, AllDiffer}
use Rattle.keys.specs.Cycles.{cycle}
use Rattle.keys.specs.Keys.{key_cmp}
use Rattle.keys.specs.declared.key.Key.{Key}
use Rattle.keys.specs.declared.value.Value.{Value}
use Rattle.node.specs.Batches.{entry_groups, keys_of}
use Rattle.node.specs.Graphs.{present}
use Rattle.node.specs.Records.{items_of}
use Rattle.node.specs.declared.entry.Entry.{Entry}
use Rattle.round_nodes.specs.Nodes.{Records, IsClean, IsUnsettled}
use Rattle.round.specs.Closing.{Stops, stop_at}
use Rattle.round.specs.declared.closing.Closing.{Closing}

-- the walk along the stops from k meets these keys and comes to j
pub data Chain (stops : Key → Option Key) : Key → List Key → Key → Type 0 where
  stay : {k : Key} → Chain stops k [] k
  step : {k i : Key} {keys : List Key} {j : Key} → stops k ≡ Some i → Chain stops i keys j → Chain stops k (k ∷ keys) j

-- a walk that comes to m shows v: it comes back to m, and v is the value of that cycle; or m is settled, with v
abbrev pub Ends : (Key → Option Key) → Records → Key → Value → Type 0
Ends stops records m v = ((rest : List Key) × Chain stops m (m ∷ rest) m × AllDiffer (m ∷ rest) × (v ≡ cycle (m ∷ rest)))
    ⊎ ((r : Record Key Value) × (records m ≡ Some r) × (r.dirty ≡ false) × (v ≡ r.value))

pub record Shows (stops : Key → Option Key) (records : Records) (k : Key) (v : Value) : Type 0 where
  pub before : List Key
  pub m : Key
  pub comes : Chain stops k before m
  pub ends : Ends stops records m v

-- each node that stops is not settled, and stops at one that stops too, or that is settled
abbrev pub IsStall : (Key → Option Key) → Records → Type 0
IsStall stops records = (k j : Key) → stops k ≡ Some j → IsUnsettled records k × (((i : Key) × (stops j ≡ Some i)) ⊎ IsClean records j)

abbrev pub CycleValues : Type 0
CycleValues = BTreeMap Key (Arc Value Global)

abbrev pub shown_at : CycleValues → Key → Option Value
shown_at shown k = option_map (λ v. arc_value v) (get key_cmp shown k)

-- some nodes show their value, and the others still have their stop
pub record IsShowing (stops : Key → Option Key) (records : Records) (left : Stops) (shown : CycleValues) : Type 0 where
  pub split : (k j : Key) → stops k ≡ Some j → ((stop_at left k ≡ Some j) × (shown_at shown k ≡ None)) ⊎ ((stop_at left k ≡ None) × ((v : Value) × (shown_at shown k ≡ Some v)))
  pub none : (k : Key) → stops k ≡ None → (stop_at left k ≡ None) × (shown_at shown k ≡ None)
  pub shows : (k : Key) (v : Value) → shown_at shown k ≡ Some v → Shows stops records k v

-- the stops along a path are taken, up to a key without one
pub record HasWalked (old new : Stops) (start : Key) (path : List Key) (end : Key) : Type 0 where
  pub chain : Chain (stop_at old) start path end
  pub differ : AllDiffer path
  pub gone : (k : Key) → In k path → stop_at new k ≡ None
  pub stays : (k : Key) → (In k path → ⊥) → stop_at new k ≡ stop_at old k
  pub over : stop_at new end ≡ None

-- the part of a path from the key on
abbrev pub IsFrom : List Key → Key → List Key → Type 0
IsFrom path key part = In key path → (before : List Key) × (rest : List Key) × (path ≡ before ++ part) × (part ≡ key ∷ rest)

abbrev pub value_in : Option (Record Key Value) → Option Value
value_in o = present o

-- what a path that comes to the key shows: what the key shows already, or is settled with, or the value of its cycle
abbrev pub EndsWith : Option Value → Option Value → List Key → Key → Value → Type 0
EndsWith (Some w) settled path key v = v ≡ w
EndsWith None (Some w) path key v = v ≡ w
EndsWith None None path key v = (part : List Key) × IsFrom path key part × (v ≡ cycle part)

-- the keys of the path show the value, and the others what they showed
pub record ShowsAll (old new : CycleValues) (path : List Key) (v : Value) : Type 0 where
  pub there : (k : Key) → In k path → shown_at new k ≡ Some v
  pub others : (k : Key) → (In k path → ⊥) → shown_at new k ≡ shown_at old k

-- the entries of closed nodes, one for each, with the value that it shows
pub record AreEntries (stops : Key → Option Key) (records : Records) (closing : List Closing) (entries : List Entry) : Type 0 where
  pub each : (e : Entry) → In e entries → (c : Closing) × In c closing × (e.key ≡ c.key) × (entry_groups e ≡ items_of c.groups.items) × Shows stops records e.key (arc_value e.value)
  pub has : (c : Closing) → In c closing → In c.key (keys_of entries)
  pub differ : AllDiffer (keys_of entries)
