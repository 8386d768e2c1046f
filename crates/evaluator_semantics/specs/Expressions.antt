-- What expressions do (Starlark's specification, "Expressions").
--
-- Each expression node begun is a step; a method call is one node, with its receiver and arguments below it. Operands
-- are evaluated from left to right, a condition before its branch, and a key before its value. A function comes before
-- its arguments; whether it can be called, and with these arguments, is tested after they are evaluated.
use Rattle.std.specs.Prelude.{ℕ, List, [], ◌∷◌, ◌++◌, not, Option, Some, is_some, if◌then◌else◌}
use Rattle.std.specs.List.{list_any}
use Rattle.syntax_tree.specs.declared.expr.Literal.{Literal}
use Rattle.syntax_tree.specs.declared.expr.Literal.TheVariants as w
use Rattle.syntax_tree.specs.declared.expr.UnaryOp.{UnaryOp}
use Rattle.syntax_tree.specs.declared.expr.UnaryOp.TheVariants as u
use Rattle.syntax_tree.specs.declared.expr.BinaryOp.{BinaryOp}
use Rattle.syntax_tree.specs.declared.expr.BinaryOp.TheVariants as o
use Rattle.syntax_tree.specs.Tree as t
use Rattle.syntax_tree.specs.Tree.{Ex, Exs, Bound, Clauses, Cl}
use Rattle.values_semantics.specs.declared.val.Val.{Val}
use Rattle.values_semantics.specs.declared.val.Val.TheVariants as v
use Rattle.values_semantics.specs.declared.builtin.Builtin.{Builtin}
use Rattle.values_semantics.specs.declared.val.Operator.{Operator}
use Rattle.values_semantics.specs.declared.val.Operator.TheVariants as p
use Rattle.values_semantics.specs.Heap.{Entries, Obj, function, at, makes_text, makes_list, makes_tuple, makes_dict}
use Rattle.values_semantics.specs.Builtins.{same_builtin, package_functions, builtin_at}
use Rattle.values_semantics.specs.Operators.{is_true, negate, plus}
use Rattle.values_semantics.specs.Comparing.{entry_at}
use Rattle.values_semantics.specs.Indexing.{hash, index, slice}
use Rattle.values_semantics.specs.Binary.{binary}
use Rattle.values_semantics.specs.Functions.{KeywordArguments, builtin}
use Rattle.values_semantics.specs.Methods.{method}
use Rattle.values_semantics.specs.declared.faults.TheConstants.{WRONG_ARGUMENTS, WRONG_TYPE}
use Rattle.evaluator_semantics.specs.World.{Here, Runs, ◌>>=◌, pure, fault, or_fault, on_heap, tick, by_truth, in_block}
use Rattle.evaluator_semantics.specs.Names.{read, is_native_name, first_named, new_block, clause_names}
use Rattle.evaluator_semantics.specs.Environment.{Env}
use Rattle.evaluator_semantics.specs.Arguments.{plain_part, named_part}
use Rattle.evaluator_semantics.specs.Targets.{Aim, to_name, to_member, to_each, Aims, no_aims, aim_at, store}
use Rattle.evaluator_semantics.specs.Packages.{package_call}
use Rattle.evaluator_semantics.specs.Loops.{Collection, nothing_yet, one_more, one_entry, gather, over}
use Rattle.values_semantics.specs.Values.{bool_value}

-- ---- operators

abbrev pub literal : Literal → Val
literal w.NoneValue = v.Nothing
literal w.TrueValue = v.True
literal w.FalseValue = v.False

abbrev pub unary : UnaryOp → Val → Here → Runs Val
unary u.Not x here = λ s. pure (bool_value (not (is_true x s.store))) s
unary u.Plus x here = on_heap here (plus x)
unary u.Minus x here = on_heap here (negate x)

-- an operator of the tree that evaluates both its operands
abbrev pub operator_of : BinaryOp → Operator
operator_of o.Equal = p.Equal
operator_of o.NotEqual = p.NotEqual
operator_of o.Less = p.Less
operator_of o.LessEqual = p.LessEqual
operator_of o.Greater = p.Greater
operator_of o.GreaterEqual = p.GreaterEqual
operator_of o.In = p.In
operator_of o.NotIn = p.NotIn
operator_of o.Add = p.Add
operator_of o.Subtract = p.Subtract
operator_of o.Multiply = p.Multiply
operator_of o.Divide = p.Divide
operator_of o.Remainder = p.Remainder
operator_of o.Or = p.Equal
operator_of o.And = p.Equal

abbrev pub both : Operator → Runs Val → Runs Val → Here → Runs Val
both op first second here = first >>= λ x. second >>= λ y. on_heap here (binary op x y)

-- `and` and `or` give an operand, and evaluate the second only if the first does not decide
abbrev pub between : BinaryOp → Runs Val → Runs Val → Here → Runs Val
between o.Or first second here = first >>= λ x. by_truth x (pure x) second
between o.And first second here = first >>= λ x. by_truth x second (pure x)
between op first second here = both (operator_of op) first second here

-- ---- entries of a dictionary expression: a key that occurs twice is fault 25

abbrev pub fresh : Val → Val → Entries → Here → Runs Entries
fresh k x es here = on_heap here (hash k) >>= λ parts. if is_some (entry_at parts es) then fault WRONG_ARGUMENTS here else pure (es ++ (parts, record { key = k; value = x }) ∷ [])

-- ---- calls

-- a function of a file, by the file's label and its own name
abbrev pub Call : Type 0
Call = (label name : List ℕ) → List Val → KeywordArguments → Here → Runs Val

abbrev pub call_builtin : Env → Builtin → List Val → KeywordArguments → Here → Runs Val
call_builtin env f xs ns here = if list_any (same_builtin f) package_functions then package_call env f xs ns here else on_heap here (builtin f xs ns)

abbrev pub call_object : Call → Option Obj → List Val → KeywordArguments → Here → Runs Val
call_object call (Some (function label name)) xs ns here = call label name xs ns here
call_object call object xs ns here = fault WRONG_TYPE here

-- a value that is not a function is fault 5, after the arguments are evaluated
unfoldable pub apply : Env → Call → Val → List Val → KeywordArguments → Here → Runs Val
apply env call (v.Builtin n) xs ns here = call_builtin env (builtin_at n) xs ns here
apply env call (v.At a) xs ns here = λ s. call_object call (at a s.store) xs ns here s
apply env call x xs ns here = fault WRONG_TYPE here

-- what a method is called on
pub data Receiver : Type 0 where
  native : Receiver
  receiver : Val → Receiver

-- `native` before a dot is a node, too
abbrev pub on_receiver : Ex → Runs Val → Here → Runs Receiver
on_receiver e m here = λ s. (if is_native_name e here s then (tick here >>= λ _. pure native) else (m >>= λ x. pure (receiver x))) s

-- `native.f(..)` is the package call f; an unknown method is fault 5, after the arguments are evaluated
unfoldable pub apply_method : Env → Receiver → List ℕ → List Val → KeywordArguments → Here → Runs Val
apply_method env native name xs ns here = or_fault WRONG_TYPE (first_named name package_functions) here >>= λ f. package_call env f xs ns here
apply_method env (receiver x) name xs ns here = on_heap here (method x name xs ns)

-- ---- expressions

module _ (env : Env) (call : Call) where
  abbrev mutual
    pub value : Ex → Here → Runs Val
    value (t.name x) here = tick here >>= λ _. read x here
    value (t.int n) here = tick here >>= λ _. pure (v.Int n)
    value (t.str x) here = tick here >>= λ _. on_heap here (makes_text x)
    value (t.literal l) here = tick here >>= λ _. pure (literal l)
    value (t.tuple es) here = tick here >>= λ _. values es here >>= λ xs. on_heap here (makes_tuple xs)
    value (t.list es) here = tick here >>= λ _. values es here >>= λ xs. on_heap here (makes_list xs)
    value (t.dict ks es) here = tick here >>= λ _. entries ks (each_value es here) [] here >>= λ found. on_heap here (makes_dict found)
    value (t.list_of e cs) here = tick here >>= λ _. comprehension cs (λ g. value e here >>= λ x. one_more x g here) here >>= λ g. on_heap here (makes_list g.members)
    value (t.dict_of k e cs) here = tick here >>= λ _. comprehension cs (λ g. value k here >>= λ x. value e here >>= λ y. one_entry x y g here) here >>= λ g. on_heap here (makes_dict g.entries)
    value (t.unary op e) here = tick here >>= λ _. value e here >>= λ x. unary op x here
    value (t.binary op a b) here = tick here >>= λ _. between op (value a here) (value b here) here
    value (t.choice a c b) here = tick here >>= λ _. value c here >>= λ x. by_truth x (value a here) (value b here)
    value (t.index a i) here = tick here >>= λ _. value a here >>= λ x. value i here >>= λ y. on_heap here (index x y)
    value (t.slice a i j) here = tick here >>= λ _. value a here >>= λ x. bound_value i here >>= λ y. bound_value j here >>= λ z. on_heap here (slice x y z)
    value (t.call f es names) here = tick here >>= λ _. value f here >>= λ g. values es here >>= λ xs. apply env call g (plain_part xs names) (named_part xs names) here
    value (t.method e name es names) here = tick here >>= λ _. on_receiver e (value e here) here >>= λ r. values es here >>= λ xs. apply_method env r name (plain_part xs names) (named_part xs names) here

    pub values : Exs → Here → Runs (List Val)
    values t.no_exs here = pure []
    values (t.ex e es) here = value e here >>= λ x. values es here >>= λ xs. pure (x ∷ xs)

    pub each_value : Exs → Here → List (Runs Val)
    each_value t.no_exs here = []
    each_value (t.ex e es) here = value e here ∷ each_value es here

    -- the keys, and what evaluates the value of each, after the entries so far
    pub entries : Exs → List (Runs Val) → Entries → Here → Runs Entries
    entries t.no_exs ms done here = pure done
    entries (t.ex k ks) [] done here = pure done
    entries (t.ex k ks) (m ∷ ms) done here = value k here >>= λ x. m >>= λ y. fresh x y done here >>= λ more. entries ks ms more here

    -- an absent bound is no node
    pub bound_value : Bound → Here → Runs Val
    bound_value t.no_bound here = pure v.Nothing
    bound_value (t.bound e) here = value e here

    -- The operands of a target, from left to right. Its names are no nodes.
    pub aim : Ex → Here → Runs Aim
    aim (t.name x) here = pure (to_name x)
    aim (t.index a i) here = value a here >>= λ x. value i here >>= λ y. pure (to_member x y)
    aim (t.tuple es) here = aims es here >>= λ found. pure (to_each found)
    aim (t.list es) here = aims es here >>= λ found. pure (to_each found)
    aim e here = fault WRONG_TYPE here

    pub aims : Exs → Here → Runs Aims
    aims t.no_exs here = pure no_aims
    aims (t.ex e es) here = aim e here >>= λ a. aims es here >>= λ more. pure (aim_at a more)

    -- A comprehension has its own names; its first sequence is evaluated outside of them. The grammar lets none begin
    -- without a `for`.
    pub comprehension : Clauses → (Collection → Runs Collection) → Here → Runs Collection
    comprehension (t.clause (t.for_in target e) cs) inner here =
        value e here >>= λ x.
        in_block (new_block (clause_names (t.clause (t.for_in target e) cs)))
        (over x (λ xs. gather (λ y g. tick here >>= λ _. aim target here >>= λ a. store a y here >>= λ _. clauses cs inner here g) xs nothing_yet) here)
    comprehension (t.clause (t.only_if e) cs) inner here = fault WRONG_TYPE here
    comprehension t.no_clauses inner here = fault WRONG_TYPE here

    pub clauses : Clauses → (Collection → Runs Collection) → Here → Collection → Runs Collection
    clauses t.no_clauses inner here g = inner g
    clauses (t.clause c cs) inner here g = clause c (clauses cs inner here) here g

    -- one iteration of a `for` clause is a step
    pub clause : Cl → (Collection → Runs Collection) → Here → Collection → Runs Collection
    clause (t.for_in target e) inner here g =
        value e here >>= λ x.
        over x (λ xs. gather (λ y h. tick here >>= λ _. aim target here >>= λ a. store a y here >>= λ _. inner h) xs g) here
    clause (t.only_if e) inner here g = value e here >>= λ x. by_truth x (inner g) (pure g)
