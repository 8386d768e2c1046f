-- The outcome of a file, in memory. Where memory was refused nothing is said.
use Rattle.std.specs.Prelude.{◌≡◌, Result, Ok, Err}
use Rattle.base_types.specs.declared.memory.Memory.{Memory}
use Rattle.evaluator_semantics.specs.World.{Ends}
use Rattle.evaluator_semantics.specs.Environment.{Env}
use Rattle.evaluator_semantics.specs.Files as l
use Rattle.evaluator_semantics.specs.Files.{a_module, a_package, a_need, a_fault, outcome_of, evaluate}
use Rattle.evaluator.specs.declared.machine.Stop.{Stop}
use Rattle.evaluator.specs.declared.machine.Stop.TheVariants as s
use Rattle.evaluator.specs.declared.outcome.Outcome.{Outcome}
use Rattle.evaluator.specs.declared.outcome.Outcome.TheVariants as o
use Rattle.evaluator.specs.Machines.{env_of, site_at}

-- what a file leaves behind its statements: a module, targets or a fault
abbrev pub IsLeft : Ends l.Outcome → Result Outcome Memory → Type 0
IsLeft out (Ok (o.Module loaded)) = outcome_of out ≡ a_module loaded
IsLeft out (Ok (o.Package targets)) = outcome_of out ≡ a_package targets
IsLeft out (Ok (o.Need patterns s)) = ⊥
IsLeft out (Ok (o.Fault fault)) = outcome_of out ≡ a_fault fault.code (site_at fault.path fault.line)
IsLeft out (Err memory) = Unit {0}

-- the outcome of a file. One that waits is to go on from there, with what the file is given and the patterns.
abbrev pub Evaluates : Env → Result Outcome Memory → Type 0
Evaluates env (Ok (o.Module loaded)) = evaluate env ≡ a_module loaded
Evaluates env (Ok (o.Package targets)) = evaluate env ≡ a_package targets
Evaluates env (Ok (o.Need patterns waiting)) = (evaluate env ≡ a_need patterns.items) × (env_of waiting.environment ≡ env) × (waiting.patterns ≡ patterns.items)
Evaluates env (Ok (o.Fault fault)) = evaluate env ≡ a_fault fault.code (site_at fault.path fault.line)
Evaluates env (Err memory) = Unit {0}

-- an outcome that shows why an evaluation stops
abbrev pub Shows : Stop → Result Outcome Memory → Type 0
Shows (s.Fault code path line) (Ok (o.Fault fault)) = (fault.code ≡ code) × (fault.path ≡ path) × (fault.line ≡ line)
Shows (s.Memory _) (Err memory) = Unit {0}
Shows stop result = ⊥
