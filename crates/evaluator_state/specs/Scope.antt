-- What the names in a scope are to the definitions.
use Rattle.std.specs.Prelude.{ℕ, List, map, not, Bool, is_some}
use Rattle.values_semantics.specs.Heap.{Store}
use Rattle.values_modules.specs.Values.{Target}
use Rattle.evaluator_semantics.specs.World.{World}
use Rattle.evaluator_semantics.specs.Names.{or_else, slot_among, file_slot, names_at}
use Rattle.evaluator_state.specs.View.{block_view}
use Rattle.evaluator_state.specs.declared.state.Scope.{Scope}

-- an evaluation that has these names, with a heap and the targets made so far
abbrev pub world_in : Store → Scope → List Target → World
world_in store scope targets = record { store = store; blocks = map block_view scope.blocks.now; files = scope.files.now; targets = targets }

-- no block and no file has the name at the code's position, so that it is universal
abbrev pub is_free : Scope → List ℕ → Bool
is_free scope x = not (is_some (or_else (slot_among x (map block_view scope.blocks.now)) (file_slot x (names_at scope.at.now.label scope.files.now))))
