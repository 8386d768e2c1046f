-- The plain tree that a frozen value in memory is.
use Rattle.std.specs.Prelude.{◌≡◌, ℕ, List, [], ◌∷◌, map, Result, Ok, Err}
use Rattle.std.specs.Arc.{arc_value}
use Rattle.std.specs.declared.alloc.Global.{Global}
use Rattle.std.specs.declared.vec.Vec.{Vec}
use Rattle.values_semantics.specs.Outcome.{Out, gives, faults}
use Rattle.values_semantics.specs.Heap.{Entries}
use Rattle.values_semantics.specs.Freezing.{Fz, Fzs, Pairs, nothing, boolean, whole, built_in, text, list, tuple, dict, function, no_members, member, no_pairs, pair}
use Rattle.values_objects.specs.declared.halt.Halt.{Halt}
use Rattle.values_objects.specs.declared.halt.Halt.TheVariants.{Code, Memory}
use Rattle.values_freeze.specs.declared.frozen.Frozen.{Frozen, fold-Frozen}
use Rattle.values_freeze.specs.declared.frozen.FrozenEntry.{FrozenEntry, fold-FrozenEntry}
use Rattle.values_freeze.specs.declared.frozen.Frozen.TheOpen.{Frozen-F, FrozenEntry-F}

-- members before others
abbrev pub onto : List Fz → Fzs → Fzs
onto [] fs = fs
onto (g ∷ gs) fs = member g (onto gs fs)

abbrev pub members_of : List Fz → Fzs
members_of gs = onto gs no_members

-- entries before others
abbrev pub pairs_onto : List (Fz × Fz) → Pairs → Pairs
pairs_onto [] ps = ps
pairs_onto (q ∷ qs) ps = pair q.0 q.1 (pairs_onto qs ps)

abbrev pub pairs_of : List (Fz × Fz) → Pairs
pairs_of qs = pairs_onto qs no_pairs

-- one level, with each value inside already seen as its tree
abbrev pub frozen_step : Frozen-F Fz (Fz × Fz) → Fz
frozen_step Frozen-F.Nothing = nothing
frozen_step (Frozen-F.Bool b) = boolean b
frozen_step (Frozen-F.Int n) = whole n
frozen_step (Frozen-F.Builtin b) = built_in b
frozen_step (Frozen-F.Text bytes) = text bytes
frozen_step (Frozen-F.List fs) = list (members_of (arc_value fs).items)
frozen_step (Frozen-F.Tuple fs) = tuple (members_of (arc_value fs).items)
frozen_step (Frozen-F.Dict es) = dict (pairs_of (arc_value es).items)
frozen_step (Frozen-F.Function label name) = function label name

abbrev pub entry_step : FrozenEntry-F Fz (Fz × Fz) → Fz × Fz
entry_step e = (e.key, e.value)

abbrev pub frozen_of : Frozen → Fz
frozen_of = fold-Frozen Fz (Fz × Fz) frozen_step entry_step

abbrev pub entry_of : FrozenEntry → Fz × Fz
entry_of = fold-FrozenEntry Fz (Fz × Fz) frozen_step entry_step

-- the call returns the tree that the definition gives, with the same state after it, or its fault; if an allocation
-- fails, nothing is said
abbrev pub SaysFrozen : {S : Type 0} → Out S Fz → Result Frozen Halt → S → Type 0
SaysFrozen out (Ok f) s = out ≡ gives (frozen_of f) s
SaysFrozen out (Err (Code c)) s = out ≡ faults c
SaysFrozen out (Err (Memory _)) s = Unit {0}

abbrev pub SaysMembers : Out ℕ Fzs → Result (Vec Frozen Global) Halt → ℕ → Type 0
SaysMembers out (Ok v) s = out ≡ gives (members_of (map frozen_of v.items)) s
SaysMembers out (Err (Code c)) s = out ≡ faults c
SaysMembers out (Err (Memory _)) s = Unit {0}

abbrev pub SaysEntry : Out ℕ (Fz × Fz) → Result FrozenEntry Halt → ℕ → Type 0
SaysEntry out (Ok e) s = out ≡ gives (entry_of e) s
SaysEntry out (Err (Code c)) s = out ≡ faults c
SaysEntry out (Err (Memory _)) s = Unit {0}

abbrev pub SaysEntries : Out ℕ Pairs → Result (Vec FrozenEntry Global) Halt → ℕ → Type 0
SaysEntries out (Ok v) s = out ≡ gives (pairs_of (map entry_of v.items)) s
SaysEntries out (Err (Code c)) s = out ≡ faults c
SaysEntries out (Err (Memory _)) s = Unit {0}

-- as for a list, of entries that are set
abbrev pub SaysSet : {S A : Type 0} → Out S Entries → Result A Halt → Entries → S → Type 0
SaysSet out (Ok a) es s = out ≡ gives es s
SaysSet out (Err (Code c)) es s = out ≡ faults c
SaysSet out (Err (Memory _)) es s = Unit {0}
