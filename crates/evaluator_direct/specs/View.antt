-- What the evaluation of a quiet expression ensures: it gives what the expression means, whatever is called elsewhere, and
-- changes the heap alone.
use Rattle.std.specs.Prelude.{ℕ, List, map, Bool, not, is_some, Result}
use Rattle.std.specs.declared.vec.Vec.{Vec}
use Rattle.std.specs.declared.alloc.Global.{Global}
use Rattle.values_semantics.specs.declared.val.Val.{Val}
use Rattle.values_semantics.specs.Heap.{Store}
use Rattle.values_objects.specs.declared.halt.Halt.{Halt}
use Rattle.values_modules.specs.Values.{Target}
use Rattle.evaluator_semantics.specs.World.{Here, Runs}
use Rattle.evaluator_semantics.specs.Environment.{Env}
use Rattle.evaluator_semantics.specs.Expressions.{Call}
use Rattle.evaluator_state.specs.declared.state.Scope.{Scope}
use Rattle.evaluator_state.specs.declared.state.State.{State}
use Rattle.evaluator_state.specs.declared.state.Position.{Position}
use Rattle.evaluator_semantics.specs.Names.{or_else, slot_among, file_slot, names_at}
use Rattle.evaluator_state.specs.View.{here_of, block_view, Ran, RanItems}
use Rattle.evaluator_state.specs.Scope.{world_in}

-- whether a name is universal where code stands in an evaluation
abbrev pub free_at : Position → State → List ℕ → Bool
free_at standing s x = not (is_some (or_else (slot_among x (map block_view s.blocks.items)) (file_slot x (names_at standing.label s.files))))

abbrev pub Does : Scope → (Env → Call → Here → Runs Val) → Store → Result Val Halt → Store → Type 0
Does scope does old result new =
    (env : Env) (call : Call) (line : ℕ) (running : List (List ℕ × List ℕ)) (targets : List Target) →
    let here = here_of scope.at.now line running in
    Ran here.site (does env call here (world_in old scope targets)) result (world_in new scope targets)

-- the same, of several values
abbrev pub DoesItems : Scope → (Env → Call → Here → Runs (List Val)) → Store → Result (Vec Val Global) Halt → Store → Type 0
DoesItems scope does old result new =
    (env : Env) (call : Call) (line : ℕ) (running : List (List ℕ × List ℕ)) (targets : List Target) →
    let here = here_of scope.at.now line running in
    RanItems here.site (does env call here (world_in old scope targets)) result (world_in new scope targets)
