-- Functions of files that were found, and how their calls go on.
use Rattle.std.specs.Prelude.{◌≡◌, ℕ, zero, suc, List, Option, Some, None, if◌then◌else◌, Result, Ok, Err}
use Rattle.std.specs.Arc.{arc_value}
use Rattle.std.specs.declared.alloc.Global.{Global}
use Rattle.std.specs.declared.sync.Arc.{Arc}
use Rattle.values_semantics.specs.declared.val.Val.{Val}
use Rattle.values_semantics.specs.Outcome.{lift_fault}
use Rattle.values_semantics.specs.Functions.{KeywordArguments}
use Rattle.syntax_tree.specs.Tree.{Fn, Suite}
use Rattle.syntax_tree.specs.declared.def.Def.{Def}
use Rattle.syntax_tree.specs.Statements.{fn_of}
use Rattle.evaluator_semantics.specs.World.{Here, Runs, ◌>>=◌, fault, on_heap}
use Rattle.evaluator_semantics.specs.Environment.{Env, path_of, functions_of, function_named, defaults_of}
use Rattle.evaluator_semantics.specs.Arguments.{arguments}
use Rattle.evaluator_semantics.specs.Statements.{Exit, suite}
use Rattle.evaluator_semantics.specs.Calls.{call, is_running, inside, body_does}
use Rattle.values_objects.specs.declared.halt.Halt.{Halt}
use Rattle.values_objects.specs.declared.halt.Halt.TheVariants.{Code, Memory}
use Rattle.values_semantics.specs.Heap.{Obj, function}
use Rattle.values_semantics.specs.declared.faults.TheConstants.{RECURSION, WRONG_TYPE}
use Rattle.evaluator_semantics.specs.Expressions.{Call, call_object}
use Rattle.evaluator.specs.declared.entering.FunctionName.{FunctionName}
use Rattle.evaluator.specs.declared.finding.Callee.{Callee}

-- what was looked for among functions by its name
abbrev pub IsDef : List ℕ → Option Fn → Option (Arc Def Global) → Type 0
IsDef name None def = def ≡ None
IsDef name (Some f) None = ⊥
IsDef name (Some f) (Some def) = (f ≡ fn_of (arc_value def)) × (f.name ≡ name)

-- the statements of a body run where so many calls may be open
abbrev pub body_runs : Env → ℕ → Option (Suite → Here → Runs Exit)
body_runs env zero = None
body_runs env (suc n) = Some (suite env (call env n))

-- a call behind the names of the function's file and the function
abbrev pub calls_on : Env → ℕ → List ℕ → Fn → List Val → KeywordArguments → Here → Runs Val
calls_on env n label f xs ns here =
    (λ w. on_heap here (lift_fault (arguments f xs ns (defaults_of label f.name w))) w) >>= λ parameters.
    if is_running label f.name here.running then fault RECURSION here else body_does (body_runs env n) f parameters (inside env label f here) here

-- the function with a name of the file with a label, or none such
abbrev pub IsFound : Env → List ℕ → List ℕ → Option Callee → Type 0
IsFound env label name (Some found) = (function_named name (functions_of env label) ≡ Some (fn_of (arc_value found.def))) × ((fn_of (arc_value found.def)).name ≡ name) × (found.path ≡ path_of env label)
IsFound env label name None = function_named name (functions_of env label) ≡ None

-- an object that is a function, or that no call takes
abbrev pub IsFunction : Option Obj → Result FunctionName Halt → Type 0
IsFunction object (Ok called) = object ≡ Some (function called.label called.name)
IsFunction object (Err (Code c)) = (c ≡ WRONG_TYPE) × ((call : Call) (xs : List Val) (ns : KeywordArguments) (here : Here) → call_object call object xs ns here ≡ fault WRONG_TYPE here)
IsFunction object (Err (Memory _)) = Unit {0}
