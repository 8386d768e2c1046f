-- What the parts of an expression do behind the step that its node takes, in the words of the language's meaning.
use Rattle.std.specs.Prelude.{ℕ, List}
use Rattle.values_semantics.specs.declared.val.Val.{Val}
use Rattle.values_semantics.specs.Heap.{makes_list, makes_tuple}
use Rattle.values_semantics.specs.Indexing.{index, slice}
use Rattle.syntax_tree.specs.declared.expr.UnaryOp.{UnaryOp}
use Rattle.syntax_tree.specs.declared.expr.BinaryOp.{BinaryOp}
use Rattle.syntax_tree.specs.declared.expr.BinaryOp.TheVariants as o
use Rattle.values_semantics.specs.Binary.{binary}
use Rattle.syntax_tree.specs.Tree.{Ex, Exs, Bound}
use Rattle.evaluator_semantics.specs.World.{Here, Runs, ◌>>=◌, pure, on_heap, by_truth}
use Rattle.evaluator_semantics.specs.Environment.{Env}
use Rattle.evaluator_semantics.specs.Arguments.{plain_part, named_part}
use Rattle.evaluator_semantics.specs.Expressions.{Call, value, values, bound_value, unary, operator_of, apply, apply_method, on_receiver}

abbrev pub tuple_does : Exs → Env → Call → Here → Runs Val
tuple_does es env call here = values env call es here >>= λ xs. on_heap here (makes_tuple xs)

abbrev pub list_does : Exs → Env → Call → Here → Runs Val
list_does es env call here = values env call es here >>= λ xs. on_heap here (makes_list xs)

abbrev pub unary_does : UnaryOp → Ex → Env → Call → Here → Runs Val
unary_does op a env call here = value env call a here >>= λ x. unary op x here

-- the second operand, behind the first: `and` and `or` evaluate it only where the first does not decide
abbrev pub right : BinaryOp → Val → Runs Val → Here → Runs Val
right o.Or x second here = by_truth x (pure x) second
right o.And x second here = by_truth x second (pure x)
right op x second here = second >>= λ y. on_heap here (binary (operator_of op) x y)

abbrev pub both_does : BinaryOp → Val → Ex → Env → Call → Here → Runs Val
both_does op x b env call here = value env call b here >>= λ y. on_heap here (binary (operator_of op) x y)

abbrev pub between_does : BinaryOp → Ex → Ex → Env → Call → Here → Runs Val
between_does op a b env call here = value env call a here >>= λ x. right op x (value env call b here) here

abbrev pub choice_does : Ex → Ex → Ex → Env → Call → Here → Runs Val
choice_does a c b env call here = value env call c here >>= λ x. by_truth x (value env call a here) (value env call b here)

abbrev pub index_does : Ex → Ex → Env → Call → Here → Runs Val
index_does a i env call here = value env call a here >>= λ x. value env call i here >>= λ y. on_heap here (index x y)

abbrev pub slice_does : Ex → Bound → Bound → Env → Call → Here → Runs Val
slice_does a i j env call here = value env call a here >>= λ x. bound_value env call i here >>= λ y. bound_value env call j here >>= λ z. on_heap here (slice x y z)

abbrev pub call_does : Ex → Exs → List (List ℕ) → Env → Call → Here → Runs Val
call_does f es names env call here = value env call f here >>= λ g. values env call es here >>= λ xs. apply env call g (plain_part xs names) (named_part xs names) here

abbrev pub method_does : Ex → List ℕ → Exs → List (List ℕ) → Env → Call → Here → Runs Val
method_does a name es names env call here = on_receiver a (value env call a here) here >>= λ r. values env call es here >>= λ xs. apply_method env r name (plain_part xs names) (named_part xs names) here
