-- Laws of what a session knows, for those who ask what has changed.
use Rattle.std.specs.Prelude.{◌≡◌, ℕ, ◌≤◌, List, Some, true, false}
use Rattle.keys.specs.declared.key.Key.TheVariants as key
use Rattle.keys.specs.declared.value.Value.{Value}
use Rattle.round_nodes.specs.declared.run.Run.{Run}
use Rattle.loader_answers.specs.Effects.{Effect, Performs}
use Rattle.loader_answers.specs.Holding.{held_package, is_held, has_changed}
use Rattle.loader_answers.specs.Sessions.{SessionView, IsConsistent}

-- calls that end well lead from a session to another: edits, and requests
pub data LeadsTo : SessionView → SessionView → Type 0 where
  stays : {a : SessionView} → LeadsTo a a
  moves : {a c : SessionView} (b : SessionView) (effect : Effect) (runs : List Run) → LeadsTo a b → IsConsistent b → Performs effect b c runs → IsConsistent c → LeadsTo a c

-- If a package has a known value in a session, and later too without a change since the version that the session had,
-- or an earlier one, then it has the same value later.
abbrev pub UnchangedIsEqual : Type 0
UnchangedIsEqual = (old new : SessionView) (version : ℕ) (name : List ℕ) (v : Value) → IsConsistent old → LeadsTo old new → version ≤ old.graph.version
    → held_package old.graph name ≡ Some v → is_held new.graph (key.Package name) ≡ true → has_changed new.graph version (key.Package name) ≡ false → held_package new.graph name ≡ Some v
