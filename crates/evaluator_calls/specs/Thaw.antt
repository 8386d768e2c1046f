-- Names and defaults of a module on a heap alone.
use Rattle.std.specs.Prelude.{◌≡◌, ℕ, List, [], ◌∷◌, ◌++◌, map, Some, Result, Ok, Err}
use Rattle.std.specs.declared.vec.Vec.{Vec}
use Rattle.std.specs.declared.alloc.Global.{Global}
use Rattle.values_semantics.specs.declared.val.Val.{Val}
use Rattle.values_semantics.specs.Outcome.{Out, Does, gives, faults, and_then, pure, ◌>>=◌}
use Rattle.values_semantics.specs.Heap.{Store}
use Rattle.values_semantics.specs.Freezing.{thaw, thaw_members}
use Rattle.values_objects.specs.declared.halt.Halt.{Halt}
use Rattle.values_objects.specs.declared.halt.Halt.TheVariants.{Code, Memory}
use Rattle.values_modules.specs.Values.{Frozen, Defaults}
use Rattle.evaluator_semantics.specs.World.{Block}
use Rattle.evaluator_state.specs.declared.state.FunctionDefaults.{FunctionDefaults}
use Rattle.evaluator_state.specs.View.{kept_of}

abbrev pub thaw_names : List Frozen → Does Store Block
thaw_names [] = pure []
thaw_names (f ∷ fs) = thaw f.value >>= λ x. thaw_names fs >>= λ block. pure ((f.name, Some x) ∷ block)

abbrev pub thaw_defaults : List Defaults → Does Store (List (List ℕ × List Val))
thaw_defaults [] = pure []
thaw_defaults (d ∷ ds) = thaw_members d.values >>= λ xs. thaw_defaults ds >>= λ rest. pure ((d.name, xs) ∷ rest)

-- a block with others after it
abbrev pub behind : Block → Out Store Block → Out Store Block
behind b out = and_then out (λ more. pure (b ++ more))

-- the call leaves the block that the definition gives, with the same state after it, or its fault; if an allocation
-- fails, nothing is said
abbrev pub SaysBlock : {A : Type 0} → Out Store Block → Result A Halt → Block → Store → Type 0
SaysBlock out (Ok a) b s = out ≡ gives b s
SaysBlock out (Err (Code c)) b s = out ≡ faults c
SaysBlock out (Err (Memory _)) b s = Unit {0}

-- the same, of defaults
abbrev pub SaysKept : Out Store (List (List ℕ × List Val)) → Result (Vec FunctionDefaults Global) Halt → Store → Type 0
SaysKept out (Ok v) s = out ≡ gives (map kept_of v.items) s
SaysKept out (Err (Code c)) s = out ≡ faults c
SaysKept out (Err (Memory _)) s = Unit {0}
