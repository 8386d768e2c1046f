-- What the arguments and the results of package calls in memory are to the definitions.
use Rattle.std.specs.Prelude.{◌≡◌, Result, Ok, Err}
use Rattle.values_objects.specs.declared.halt.Halt.{Halt}
use Rattle.values_objects.specs.declared.halt.Halt.TheVariants.{Code, Memory}
use Rattle.values_semantics.specs.declared.val.Val.{Val}
use Rattle.values_semantics.specs.Outcome.{ValueOrFault, good, bad}
use Rattle.evaluator_semantics.specs.World.{World, Site, Ends, ended, failed, waits}
use Rattle.evaluator_semantics.specs.Environment.{Env}
use Rattle.evaluator_package_calls.specs.declared.kinds.Package.{Package}
use Rattle.evaluator_package_calls.specs.declared.kinds.CallResult.{CallResult}
use Rattle.evaluator_package_calls.specs.declared.kinds.CallResult.TheVariants.{Value, Need}

-- the environment has the kind, the package's name and the answers
pub record IsOf (p : Package) (env : Env) : Type 0 where
  pub kind : env.kind ≡ p.kind
  pub name : env.package_name ≡ p.name
  pub globs : env.globs ≡ p.answers

-- the call ends as the definition does: with its value and the same state after it, waiting for the same patterns, or
-- at its fault; if an allocation fails, nothing is said
abbrev pub EndsAs : Site → Ends Val → Result CallResult Halt → World → Type 0
EndsAs site out (Ok (Value x)) u = out ≡ ended x u
EndsAs site out (Ok (Need patterns)) u = out ≡ waits patterns.items
EndsAs site out (Err (Code c)) u = out ≡ failed c site
EndsAs site out (Err (Memory _)) u = Unit {0}

-- a fact of a call that waits
abbrev pub IfWaits : Result CallResult Halt → Type 0 → Type 0
IfWaits (Ok (Need patterns)) fact = fact
IfWaits r fact = Unit {0}

-- the call returns what the definition gives, as a view shows it, or its fault
abbrev pub ChecksAs : {A B : Type 0} → (B → A) → ValueOrFault A → Result B Halt → Type 0
ChecksAs view out (Ok b) = out ≡ good (view b)
ChecksAs view out (Err (Code c)) = out ≡ bad c
ChecksAs view out (Err (Memory _)) = Unit {0}
