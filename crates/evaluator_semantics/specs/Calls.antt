-- Calls of functions of files (Starlark's specification, "Functions": a function may not call itself, directly or by
-- way of others).
--
-- Tested in order: the arguments (25), that the function is being called already (14), a 65th call inside others (12).
use Rattle.std.specs.Prelude.{ℕ, zero, suc, ◌&&◌, Bool, true, false, List, [], ◌∷◌, ◌++◌, map, Option, Some, None, if◌then◌else◌}
use Rattle.syntax_grammar.specs.declared.kind.FileKind.TheVariants as k
use Rattle.values_semantics.specs.declared.val.Val.{Val}
use Rattle.values_semantics.specs.declared.val.Val.TheVariants as v
use Rattle.values_semantics.specs.Outcome.{lift_fault}
use Rattle.values_semantics.specs.Comparing.{same_text}
use Rattle.values_semantics.specs.declared.faults.TheConstants.{RECURSION, TOO_DEEP, WRONG_TYPE}
use Rattle.syntax_tree.specs.Tree.{Fn, Suite}
use Rattle.evaluator_semantics.specs.World.{Block, Here, Runs, ◌>>=◌, pure, fault, or_fault, on_heap, in_blocks}
use Rattle.evaluator_semantics.specs.Names.{suite_names, names_once, all_unbound}
use Rattle.evaluator_semantics.specs.Environment.{Env, path_of, functions_of, function_named, need_names, defaults_of}
use Rattle.evaluator_semantics.specs.Arguments.{arguments}
use Rattle.evaluator_semantics.specs.Expressions.{Call}
use Rattle.evaluator_semantics.specs.Statements.{Exit, returns, suite}

-- a function that ends without `return` gives None
abbrev pub result_of_completion : Exit → Val
result_of_completion (returns x) = x
result_of_completion exit = v.Nothing

-- the function is being called
abbrev pub is_running : List ℕ → List ℕ → List (List ℕ × List ℕ) → Bool
is_running label name [] = false
is_running label name (f ∷ fs) = if same_text label f.0 && same_text name f.1 then true else is_running label name fs

-- the names of a function: its parameters with their values, and those that its body binds
abbrev pub function_block : Fn → Block → Block
function_block f parameters = parameters ++ all_unbound (names_once (map (λ p. p.name) f.params) (suite_names f.body))

-- where the body of a function is: in its own file
abbrev pub inside : Env → List ℕ → Fn → Here → Here
inside env label f here = record { label = label; kind = k.Bzl; site = record { path = path_of env label; line = f.line }; running = (label, f.name) ∷ here.running }

-- the statements of a body, unless no more calls may be entered
abbrev pub body_does : Option (Suite → Here → Runs Exit) → Fn → Block → Here → Here → Runs Val
body_does None f parameters within here = fault TOO_DEEP here
body_does (Some run) f parameters within here = in_blocks (function_block f parameters ∷ []) (run f.body within) >>= λ exit. pure (result_of_completion exit)

-- a call of a function of a file, which is known by the file's label and its own name
abbrev pub enter : Env → Option (Suite → Here → Runs Exit) → Call
enter env run label name xs ns here =
    need_names env label here >>= λ _.
    or_fault WRONG_TYPE (function_named name (functions_of env label)) here >>= λ f.
    (λ w. on_heap here (lift_fault (arguments f xs ns (defaults_of label name w))) w) >>= λ parameters.
    if is_running label name here.running then fault RECURSION here else body_does run f parameters (inside env label f here) here

-- a call, where this many more may be entered inside it
unfoldable pub call : Env → ℕ → Call
call env zero = enter env None
call env (suc n) = enter env (Some (suite env (call env n)))
