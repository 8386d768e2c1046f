-- The value of one parameter.
use Rattle.std.specs.Prelude.{List, [], ◌∷◌, if◌then◌else◌}
use Rattle.values_semantics.specs.declared.val.Val.{Val}
use Rattle.values_semantics.specs.Outcome.{ValueOrFault, good, bad, or_bad}
use Rattle.values_semantics.specs.Functions.{KeywordArguments, is_named}
use Rattle.values_semantics.specs.declared.faults.TheConstants.{WRONG_ARGUMENTS}
use Rattle.syntax_tree.specs.Tree.{Pa}
use Rattle.evaluator_semantics.specs.Names.{or_else}
use Rattle.evaluator_semantics.specs.Arguments.{value_named, next_default}

-- from the positional arguments that are left, the named ones and the defaults that are left
abbrev pub parameter_value : Pa → List Val → KeywordArguments → List Val → ValueOrFault Val
parameter_value p (x ∷ xs) ns ds = if is_named p.name ns then bad WRONG_ARGUMENTS else good x
parameter_value p [] ns ds = or_bad WRONG_ARGUMENTS (or_else (value_named p.name ns) (next_default p ds))
