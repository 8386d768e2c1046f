-- What the state of an evaluation in memory is to the definitions, and what a call ensures that does a piece of it.
pub use Rattle.evaluator_state.specs.Newest.{kept_of}
pub use Rattle.evaluator_state.specs.Blocks.{slot_of, slots_of, block_of, block_view, names_of}
use Rattle.std.specs.Prelude.{◌≡◌, ℕ, List, map, Result, Ok, Err}
use Rattle.std.specs.declared.vec.Vec.{Vec}
use Rattle.std.specs.declared.alloc.Global.{Global}
use Rattle.values_semantics.specs.Builtins.{builtin_name}
use Rattle.values_objects.specs.declared.halt.Halt.{Halt}
use Rattle.values_objects.specs.declared.halt.Halt.TheVariants.{Code, Memory}
use Rattle.values_heap.specs.View.{store_of}
use Rattle.values_modules.specs.Values as v
use Rattle.evaluator_semantics.specs.World.{World, Site, Here, Ends, ended, failed}
use Rattle.evaluator_state.specs.declared.state.Attribute.{Attribute}
use Rattle.evaluator_state.specs.declared.state.Attribute.TheVariants as a
use Rattle.evaluator_state.specs.declared.state.TargetAttribute.{TargetAttribute}
use Rattle.evaluator_state.specs.declared.state.Target.{Target}
use Rattle.evaluator_state.specs.declared.state.State.{State}
use Rattle.evaluator_state.specs.declared.state.Position.{Position}

abbrev pub attribute_of : Attribute → v.Attribute
attribute_of (a.Single text) = v.single text
attribute_of (a.Several texts) = v.several texts.items

abbrev pub attributed_of : TargetAttribute → List ℕ × v.Attribute
attributed_of x = (x.name, attribute_of x.value)

abbrev pub target_of : Target → v.Target
target_of t = record { kind = builtin_name t.rule; name = t.name; attributes = map attributed_of t.attributes.items }

abbrev pub world_of : State → World
world_of s = record {
  store = store_of s.heap;
  blocks = map block_view s.blocks.items;
  files = s.files;
  targets = map target_of s.targets;
}

-- the position of code: a line of a file, with the functions that are being called
abbrev pub here_of : Position → ℕ → List (List ℕ × List ℕ) → Here
here_of s line running = record { label = s.label; kind = s.kind; site = record { path = s.path; line = line }; running = running }

-- the call returns what the definition gives, with the same state after it, or its fault; if an allocation fails,
-- nothing is said
abbrev pub Ran : {A : Type 0} → Site → Ends A → Result A Halt → World → Type 0
Ran site out (Ok a) u = out ≡ ended a u
Ran site out (Err (Code c)) u = out ≡ failed c site
Ran site out (Err (Memory _)) u = Unit {0}

-- the same, of a list
abbrev pub RanItems : {A : Type 0} → Site → Ends (List A) → Result (Vec A Global) Halt → World → Type 0
RanItems site out (Ok v) u = out ≡ ended v.items u
RanItems site out (Err (Code c)) u = out ≡ failed c site
RanItems site out (Err (Memory _)) u = Unit {0}
