-- A table of named arguments, and the arguments as a block has them.
use Rattle.std.specs.Prelude.{◌≡◌, ℕ, List, zip}
use Rattle.std.specs.HashMap.{HashMap, get}
use Rattle.values_semantics.specs.declared.val.Val.{Val}
use Rattle.values_semantics.specs.Comparing.{same_text}
use Rattle.values_semantics.specs.Functions.{KeywordArguments}
use Rattle.evaluator_semantics.specs.Arguments.{value_named}
use Rattle.evaluator_state.specs.Sparse.{named_in}
use Rattle.evaluator_calls.specs.declared.named_arguments.KeptArguments.{KeptArguments}

-- the table has the value of each name
abbrev pub Finds : {S : Type 0} → HashMap (List ℕ) Val S → KeywordArguments → Type 0
Finds table ns = (x : List ℕ) → get same_text table x ≡ value_named x ns

-- each name has the value that the arguments give it
abbrev pub Keeps : KeptArguments → KeywordArguments → Type 0
Keeps k ns = (x : List ℕ) → named_in k.table (zip k.names.items k.values.items) x ≡ value_named x ns
