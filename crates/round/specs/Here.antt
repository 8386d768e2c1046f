-- How an evaluation on one thread continues.
use Rattle.std.specs.Prelude.{◌≡◌, ℕ, ◌+◌, List, [], Option, Result, Ok, Err}
use Rattle.engine_semantics.specs.Reply.{Reply}
use Rattle.engine_semantics.specs.Choices.{Choice}
use Rattle.keys.specs.declared.key.Key.{Key}
use Rattle.keys.specs.declared.value.Value.{Value}
use Rattle.node.specs.Graphs.{GraphView}
use Rattle.round_nodes.specs.TurnCounts.{HasMade}
use Rattle.round_nodes.specs.Invariants.{IsNext, Past, IsAfter, IsTrueOf}
use Rattle.round_nodes.specs.declared.run.Run.{Run}
use Rattle.round.specs.Call.{IsCall}
use Rattle.round.specs.Rounds.{RoundView, round_view, AgreesWith}
use Rattle.round.specs.declared.rounds.Round.{Round}

-- no job is out, these are the roots, and this many turns were made
pub record IsResting {R S : Type 0} (graph : GraphView) (round : Round R S) (roots : List Key) (turns : ℕ) : Type 0 where
  pub beside : AgreesWith graph round
  pub none_out : (round_view round).out ≡ []
  pub same_roots : (round_view round).roots ≡ roots
  pub made : HasMade round.table turns

-- one more turn was made, and the rest is as it must be
abbrev pub TurnsOnce : {R S : Type 0} → GraphView → GraphView → Round R S → Round R S → Type 0
TurnsOnce old new before after = (roots : List Key) (turns : ℕ) → IsResting old before roots turns → IsResting new after roots (turns + 1)

-- if the roots are those of the round, the evaluation ends well by closing what is open
abbrev pub Finishes : {E : Type 0} → (Key → List Value → Reply Key Value) → (Key → Option Value) → GraphView → GraphView → RoundView → Result (List Run) E → Type 0
Finishes next read old new s (Ok runs) = (laws : IsNext next) (past : Past read) (cs : List (Choice Key)) → past.roots ≡ s.roots → IsTrueOf next read past cs old s.table.nodes s.table.runs.items → IsCall next read past new runs
Finishes next read old new s (Err e) = (laws : IsNext next) (past : Past read) (cs : List (Choice Key)) → IsTrueOf next read past cs old s.table.nodes s.table.runs.items → IsAfter next read past new
