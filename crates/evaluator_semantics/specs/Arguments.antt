-- The arguments of a call and the parameters of a function (Starlark's specification, "Functions" and "Function and
-- method calls"; this profile has neither `*args` nor `**kwargs`).
--
-- Positional arguments are those of the first parameters; the others are named. An argument that is missing, is given
-- twice, has an unknown name or is one too many is fault 25.
use Rattle.std.specs.Prelude.{ℕ, ◌-◌, ◌||◌, Bool, true, false, not, List, [], ◌∷◌, length, take, drop, zip, Option, Some, None, if◌then◌else◌}
use Rattle.syntax_grammar.specs.Targets.{is_bound}
use Rattle.values_semantics.specs.declared.val.Val.{Val}
use Rattle.values_semantics.specs.Outcome.{ValueOrFault, good, bad, then_checked, or_bad}
use Rattle.values_semantics.specs.Comparing.{same_text}
use Rattle.values_semantics.specs.Functions.{KeywordArguments, is_named, is_twice}
use Rattle.values_semantics.specs.declared.faults.TheConstants.{WRONG_ARGUMENTS}
use Rattle.syntax_tree.specs.Tree.{Pa, Fn}
use Rattle.evaluator_semantics.specs.World.{Block}
use Rattle.evaluator_semantics.specs.Names.{or_else}

-- the values of a call's arguments are those of the positional ones, followed by those of the named ones

abbrev pub plain_part : List Val → List (List ℕ) → List Val
plain_part xs names = take (length xs - length names) xs

abbrev pub named_part : List Val → List (List ℕ) → KeywordArguments
named_part xs names = zip names (drop (length xs - length names) xs)

abbrev pub value_named : List ℕ → KeywordArguments → Option Val
value_named x [] = None
value_named x (n ∷ ns) = if same_text x n.0 then Some n.1 else value_named x ns

abbrev pub is_parameter : List ℕ → List Pa → Bool
is_parameter x [] = false
is_parameter x (p ∷ ps) = if same_text x p.name then true else is_parameter x ps

abbrev pub are_parameters : KeywordArguments → List Pa → Bool
are_parameters [] ps = true
are_parameters (n ∷ ns) ps = if is_parameter n.0 ps then are_parameters ns ps else false

-- the default of the next parameter, and those of the parameters after it

abbrev pub first_of_list : List Val → Option Val
first_of_list [] = None
first_of_list (x ∷ xs) = Some x

abbrev pub next_default : Pa → List Val → Option Val
next_default p ds = if is_bound p.default then first_of_list ds else None

abbrev pub other_defaults : Pa → List Val → List Val
other_defaults p ds = if is_bound p.default then drop 1 ds else ds

abbrev pub with_parameter : Pa → Val → ValueOrFault Block → ValueOrFault Block
with_parameter p x rest = then_checked rest (λ block. good ((p.name, Some x) ∷ block))

-- the parameters with their values, from the positional arguments, the named ones and the defaults
abbrev pub parameter_block : List Pa → List Val → KeywordArguments → List Val → ValueOrFault Block
parameter_block [] [] ns ds = good []
parameter_block [] (x ∷ xs) ns ds = bad WRONG_ARGUMENTS
parameter_block (p ∷ ps) (x ∷ xs) ns ds = if is_named p.name ns then bad WRONG_ARGUMENTS else with_parameter p x (parameter_block ps xs ns (other_defaults p ds))
parameter_block (p ∷ ps) [] ns ds =
    then_checked (or_bad WRONG_ARGUMENTS (or_else (value_named p.name ns) (next_default p ds))) (λ x.
    with_parameter p x (parameter_block ps [] ns (other_defaults p ds)))

unfoldable pub arguments : Fn → List Val → KeywordArguments → List Val → ValueOrFault Block
arguments f xs ns ds = if is_twice ns || not (are_parameters ns f.params) then bad WRONG_ARGUMENTS else parameter_block f.params xs ns ds
