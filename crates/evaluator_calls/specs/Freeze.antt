-- What is frozen at the end of a file, on a heap alone.
use Rattle.std.specs.Prelude.{◌≡◌, ℕ, List, [], ◌∷◌, map, Option, Some, None, Result, Ok, Err}
use Rattle.std.specs.declared.vec.Vec.{Vec}
use Rattle.std.specs.declared.alloc.Global.{Global}
use Rattle.values_semantics.specs.declared.val.Val.{Val}
use Rattle.values_semantics.specs.Outcome.{Out, Does, gives, faults, pure, or_fault, ◌>>=◌}
use Rattle.values_semantics.specs.Heap.{Store, walks}
use Rattle.values_semantics.specs.Freezing.{Fzs, freezes, freeze, freeze_members}
use Rattle.values_semantics.specs.declared.faults.TheConstants.{NOT_BOUND}
use Rattle.syntax_tree.specs.Tree.{Fn}
use Rattle.values_objects.specs.declared.halt.Halt.{Halt}
use Rattle.values_objects.specs.declared.halt.Halt.TheVariants.{Code, Memory}
use Rattle.values_freeze.specs.declared.value.FrozenValue.{FrozenValue}
use Rattle.values_freeze.specs.View.{members_of}
use Rattle.values_modules.specs.Values.{Frozen, Defaults}
use Rattle.evaluator_semantics.specs.World.{Block, Names}
use Rattle.evaluator_semantics.specs.Names.{slot_in}
use Rattle.evaluator_semantics.specs.Environment.{defaults_among}
use Rattle.evaluator_state.specs.declared.state.Slot.{Slot}

abbrev pub freeze_values : List Val → Does Store Fzs
freeze_values xs = walks λ heap. freeze_members (freeze 64 heap) xs

-- the value of a name that has one
abbrev pub bound_value : Option (Option Val) → Option Val
bound_value None = None
bound_value (Some value) = value

abbrev pub freeze_names : Block → List (List ℕ) → Does Store (List Frozen)
freeze_names block [] = pure []
freeze_names block (x ∷ xs) =
    or_fault NOT_BOUND (bound_value (slot_in x block)) >>= λ y.
    freezes y >>= λ f.
    freeze_names block xs >>= λ fs.
    pure (record { name = x; value = f } ∷ fs)

abbrev pub freeze_defaults : Option Names → List Fn → Does Store (List Defaults)
freeze_defaults names [] = pure []
freeze_defaults names (f ∷ fs) =
    freeze_values (defaults_among f.name names) >>= λ xs.
    freeze_defaults names fs >>= λ rest.
    pure (record { name = f.name; values = xs } ∷ rest)

abbrev pub block_among : Option Names → Block
block_among None = []
block_among (Some names) = names.block

abbrev pub slot_names : List Slot → List (List ℕ)
slot_names slots = map (λ s. s.name) slots

-- the call returns the members that the definition gives, with the same state after it, or its fault; if an allocation
-- fails, nothing is said
abbrev pub SaysFrozen : Out Store Fzs → Result (Vec FrozenValue Global) Halt → Store → Type 0
SaysFrozen out (Ok v) s = out ≡ gives (members_of v.items) s
SaysFrozen out (Err (Code c)) s = out ≡ faults c
SaysFrozen out (Err (Memory _)) s = Unit {0}

-- the call returns the values that the definition gives, under the name of their function, with the same state after
-- it, or its fault; if an allocation fails, nothing is said
abbrev pub SaysDefaults : List ℕ → Out Store Fzs → Result Defaults Halt → Store → Type 0
SaysDefaults name out (Ok d) s = (out ≡ gives d.values s) × (d.name ≡ name)
SaysDefaults name out (Err (Code c)) s = out ≡ faults c
SaysDefaults name out (Err (Memory _)) s = Unit {0}
