-- The block of a call of a function with many names, by what the call gave and what was bound since.
use Rattle.std.specs.Prelude.{ℕ, suc, ◌-◌, List, [], ◌∷◌, length, zip, Option, None, Some, nat_lt, nat_eq, slice_get, if◌then◌else◌}
use Rattle.std.specs.Arc.{arc_value}
use Rattle.std.specs.HashMap.{HashMap, get}
use Rattle.values_semantics.specs.declared.val.Val.{Val}
use Rattle.values_semantics.specs.Comparing.{same_text}
use Rattle.values_semantics.specs.Functions.{KeywordArguments}
use Rattle.evaluator_semantics.specs.World.{Block}
use Rattle.evaluator_semantics.specs.Names.{or_else}
use Rattle.evaluator_semantics.specs.Arguments.{value_named}
use Rattle.evaluator_state.specs.declared.sparse.SparseBlock.{SparseBlock}

-- What a call gives to the name x at the place i, where the first names are those of the parameters: a positional
-- argument, a named one or a default.
abbrev pub given_by : ℕ → List Val → (named : List ℕ → Option Val) → List Val → ℕ → List ℕ → ℕ → Option Val
given_by parameters positional named defaults required x i =
    if nat_lt i parameters
    then or_else (slice_get positional i) (or_else (named x) (slice_get defaults (i - required)))
    else None

abbrev pub given_at : ℕ → List Val → KeywordArguments → List Val → ℕ → List ℕ → ℕ → Option Val
given_at parameters positional named = given_by parameters positional (λ x. value_named x named)

-- the value of a named argument: by the table of many of them, or among a few
abbrev pub named_in : {S : Type 0} → Option (HashMap (List ℕ) Val S) → KeywordArguments → List ℕ → Option Val
named_in None few x = value_named x few
named_in (Some table) few x = get same_text table x

abbrev pub named_at : SparseBlock → List ℕ → Option Val
named_at b = named_in b.table (zip b.names.items b.values.items)

abbrev pub argument_at : SparseBlock → List ℕ → ℕ → Option Val
argument_at b = given_by (length (arc_value b.def).params.items) b.positional.items (named_at b) (arc_value b.defaults).items b.required

-- the value that was bound since, or what the call gave
abbrev pub value_at : SparseBlock → List ℕ → ℕ → Option Val
value_at b x i = or_else (get nat_eq b.bound i) (argument_at b x i)

-- names from a place on, with their values
abbrev pub valued : (List ℕ → ℕ → Option Val) → ℕ → List (List ℕ) → Block
valued value i [] = []
valued value i (x ∷ xs) = (x, value x i) ∷ valued value (suc i) xs

abbrev pub sparse_view : SparseBlock → Block
sparse_view b = valued (value_at b) 0 (arc_value b.def).names.items
