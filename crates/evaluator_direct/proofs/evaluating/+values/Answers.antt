use Rattle.std.proofs.Common.{◌≡◌, ◌+◌, suc, add-one, List, ◌∷◌, drop, drop-cons, true, false, arith, Vec, Global, Ok, Err, refl, ap, sym, subst, ◌∙◌}
use Rattle.values_heap.specs.View.{store_of, Says}
use Rattle.values_semantics.specs.declared.val.Val.{Val}
use Rattle.values_semantics.specs.Heap.{makes_list, makes_tuple, makes_text}
use Rattle.values_semantics.specs.Indexing.{index, slice}
use Rattle.syntax_tree.specs.Tree as tr
use Rattle.syntax_tree.specs.Tree.{Bound}
use Rattle.syntax_tree.specs.declared.expr.Expr.{Expr}
use Rattle.values_semantics.specs.Binary.{binary}
use Rattle.evaluator_semantics.specs.World.{World, Runs, then_runs, ◌>>=◌, tick, on_heap}
use Rattle.evaluator_semantics.specs.Arguments.{plain_part, named_part}
use Rattle.values_semantics.specs.Functions.{builtin}
use Rattle.values_semantics.specs.Methods.{method}
use Rattle.evaluator_direct.proofs.Size.{sizes}
use Rattle.evaluator_semantics.specs.Names.{read}
use Rattle.evaluator_semantics.specs.Expressions.{value, values, bound_value, operator_of, apply, apply_method}
use Rattle.std.specs.Arc.{arc_value}
use Rattle.base_types.specs.declared.text.Text.{Text}
use Rattle.evaluator_direct.specs.Parts.{right, tuple_does, list_does, unary_does, between_does, choice_does, index_does, slice_does, call_does, method_does}
use Rattle.syntax_tree.specs.View.{tree_of, trees_of, bound_tree, shared_tree}
use Rattle.evaluator_state.specs.View.{here_of, Ran}
use Rattle.evaluator_state.specs.Scope.{world_in, is_free}
use Rattle.evaluator_direct.proofs.Runs.{stops, items_stop, behind, heaped, truly, right_or, right_and, right_both, between_is, node, no_node, quiet_rest, gathers, gathered, gathers_none, drop_past}
use Rattle.evaluator_direct.proofs.Trees.{tree-Name, tree-Str, tree-Tuple, tree-List, tree-Unary, tree-Binary, tree-Choice, tree-Index, tree-Slice, tree-Call, tree-Method}
use Rattle.evaluator_direct.proofs.Plain.{plain_call, plain_applied, received, method_applied}
use Rattle.evaluator_direct.proofs.evaluating.+values.Goals as goal

pub tuple-returns-in-Err-clause-says : goal.tuple-returns-in-Err-clause-says
tuple-returns-in-Err-clause-says t c = λ env call line running targets. items_stop _ _ _ c.in-Err.halt _ _ (c.in-Err.ensures.says env call line running targets)

pub tuple-returns-clause-says : goal.tuple-returns-clause-says
tuple-returns-clause-says t c = λ env call line running targets. behind _ _ _ c.in-Ok.xs.items _ _ _ (c.in-Ok.ensures.says env call line running targets) (heaped (makes_tuple c.in-Ok.xs.items) (here_of c.args.scope.now.at.now line running) (world_in (store_of c.values.new.heap) c.args.scope.now targets) c.make_tuple.result (store_of c.make_tuple.new.heap) c.make_tuple.ensures.says)

pub list-returns-in-Err-clause-says : goal.list-returns-in-Err-clause-says
list-returns-in-Err-clause-says t c = λ env call line running targets. items_stop _ _ _ c.in-Err.halt _ _ (c.in-Err.ensures.says env call line running targets)

pub list-returns-clause-says : goal.list-returns-clause-says
list-returns-clause-says t c = λ env call line running targets. behind _ _ _ c.in-Ok.xs.items _ _ _ (c.in-Ok.ensures.says env call line running targets) (heaped (makes_list c.in-Ok.xs.items) (here_of c.args.scope.now.at.now line running) (world_in (store_of c.values.new.heap) c.args.scope.now targets) c.make_list.result (store_of c.make_list.new.heap) c.make_list.ensures.says)

pub operated-returns-in-Err-clause-says : goal.operated-returns-in-Err-clause-says
operated-returns-in-Err-clause-says t c = λ env call line running targets. stops _ _ _ c.in-Err.halt _ _ (c.in-Err.ensures.says env call line running targets)

pub operated-returns-clause-says : goal.operated-returns-clause-says
operated-returns-clause-says t c = λ env call line running targets. behind _ _ _ c.in-Ok.x _ _ _ (c.in-Ok.ensures.says env call line running targets) (c.unary.ensures.says (here_of c.args.scope.now.at.now line running) (world_in (store_of c.value.new.heap) c.args.scope.now targets))

pub member-returns-in-Err-clause-says : goal.member-returns-in-Err-clause-says
member-returns-in-Err-clause-says t c = λ env call line running targets. stops _ _ _ c.in-Err.halt _ _ (c.in-Err.ensures.says env call line running targets)

pub member-returns-in-Err-value-clause-says : goal.member-returns-in-Err-value-clause-says
member-returns-in-Err-value-clause-says t c = λ env call line running targets. behind {B = Val} _ _ _ c.in-Ok.x _ (Err c.in-Err-value.halt) _ (c.in-Ok.ensures.says env call line running targets) (stops {B = Val} _ _ _ c.in-Err-value.halt _ _ (c.in-Err-value.ensures.says env call line running targets))

pub member-returns-clause-says : goal.member-returns-clause-says
member-returns-clause-says t c = λ env call line running targets. behind _ _ _ c.in-Ok.x _ _ _ (c.in-Ok.ensures.says env call line running targets) (behind _ _ _ c.in-Ok-value.y _ _ _ (c.in-Ok-value.ensures.says env call line running targets) (heaped (index c.in-Ok.x c.in-Ok-value.y) (here_of c.args.scope.now.at.now line running) (world_in (store_of c.value-2.new.heap) c.args.scope.now targets) c.index.result (store_of c.index.new.heap) c.index.ensures.says))

pub part-returns-in-Err-clause-says : goal.part-returns-in-Err-clause-says
part-returns-in-Err-clause-says t c = λ env call line running targets. stops _ _ _ c.in-Err.halt _ _ (c.in-Err.ensures.says env call line running targets)

pub part-returns-in-Err-bound_value-clause-says : goal.part-returns-in-Err-bound_value-clause-says
part-returns-in-Err-bound_value-clause-says t c = λ env call line running targets. behind {B = Val} _ _ _ c.in-Ok.x _ (Err c.in-Err-bound_value.halt) _ (c.in-Ok.ensures.says env call line running targets) (stops {B = Val} _ _ _ c.in-Err-bound_value.halt _ _ (c.in-Err-bound_value.ensures.says env call line running targets))

pub part-returns-in-Err-bound_value-2-clause-says : goal.part-returns-in-Err-bound_value-2-clause-says
part-returns-in-Err-bound_value-2-clause-says t c = λ env call line running targets. behind {B = Val} _ _ _ c.in-Ok.x _ (Err c.in-Err-bound_value-2.halt) _ (c.in-Ok.ensures.says env call line running targets) (behind {B = Val} _ _ _ c.in-Ok-bound_value.y _ (Err c.in-Err-bound_value-2.halt) _ (c.in-Ok-bound_value.ensures.says env call line running targets) (stops {B = Val} _ _ _ c.in-Err-bound_value-2.halt _ _ (c.in-Err-bound_value-2.ensures.says env call line running targets)))

pub part-returns-clause-says : goal.part-returns-clause-says
part-returns-clause-says t c = λ env call line running targets. behind _ _ _ c.in-Ok.x _ _ _ (c.in-Ok.ensures.says env call line running targets) (behind _ _ _ c.in-Ok-bound_value.y _ _ _ (c.in-Ok-bound_value.ensures.says env call line running targets) (behind _ _ _ c.in-Ok-bound_value-2.z _ _ _ (c.in-Ok-bound_value-2.ensures.says env call line running targets) (heaped (slice c.in-Ok.x c.in-Ok-bound_value.y c.in-Ok-bound_value-2.z) (here_of c.args.scope.now.at.now line running) (world_in (store_of c.bound_value-2.new.heap) c.args.scope.now targets) c.slice.result (store_of c.slice.new.heap) c.slice.ensures.says)))

pub second-returns-in-Err-clause-says : goal.second-returns-in-Err-clause-says
second-returns-in-Err-clause-says t c = λ env call line running targets. stops _ _ _ c.in-Err.halt _ _ (c.in-Err.ensures.says env call line running targets)

pub second-returns-clause-says : goal.second-returns-clause-says
second-returns-clause-says t c = λ env call line running targets. behind _ _ _ c.in-Ok.y _ _ _ (c.in-Ok.ensures.says env call line running targets) (heaped (binary (operator_of c.args.op) c.args.x c.in-Ok.y) (here_of c.args.scope.now.at.now line running) (world_in (store_of c.value.new.heap) c.args.scope.now targets) c.eval_binary.result (store_of c.eval_binary.new.heap) c.eval_binary.ensures.says)

pub between-returns-in-Err-clause-says : goal.between-returns-in-Err-clause-says
between-returns-in-Err-clause-says t c = λ env call line running targets. stops _ _ _ c.in-Err.halt _ _ (c.in-Err.ensures.says env call line running targets)

pub between-returns-then-branch-clause-says : goal.between-returns-then-branch-clause-says
between-returns-then-branch-clause-says t c = λ env call line running targets. behind {B = Val} (value env call (tree_of c.args.a.now) (here_of c.args.scope.now.at.now line running) (world_in (store_of c.args.heap.now) c.args.scope.now targets)) (λ x. right c.args.op x (value env call (tree_of c.args.b.now) (here_of c.args.scope.now.at.now line running)) (here_of c.args.scope.now.at.now line running)) (here_of c.args.scope.now.at.now line running).site c.in-Ok.x (world_in (store_of c.value.new.heap) c.args.scope.now targets) (Ok c.in-Ok.x) (world_in (store_of c.value.new.heap) c.args.scope.now targets) (c.in-Ok.ensures.says env call line running targets) (right_or c.args.op c.in-Ok.x (value env call (tree_of c.args.b.now) (here_of c.args.scope.now.at.now line running)) (here_of c.args.scope.now.at.now line running) (world_in (store_of c.value.new.heap) c.args.scope.now targets) true (Ok c.in-Ok.x) (world_in (store_of c.value.new.heap) c.args.scope.now targets) c.in-Or.is (sym c.if-branch.true ∙ c.in_ok-is_true-in-Or.ensures) refl)

pub between-returns-else-branch-clause-says : goal.between-returns-else-branch-clause-says
between-returns-else-branch-clause-says t c = λ env call line running targets. behind {B = Val} (value env call (tree_of c.args.a.now) (here_of c.args.scope.now.at.now line running) (world_in (store_of c.args.heap.now) c.args.scope.now targets)) (λ x. right c.args.op x (value env call (tree_of c.args.b.now) (here_of c.args.scope.now.at.now line running)) (here_of c.args.scope.now.at.now line running)) (here_of c.args.scope.now.at.now line running).site c.in-Ok.x (world_in (store_of c.value.new.heap) c.args.scope.now targets) c.value-in-Or.result (world_in (store_of c.value-in-Or.new.heap) c.args.scope.now targets) (c.in-Ok.ensures.says env call line running targets) (right_or c.args.op c.in-Ok.x (value env call (tree_of c.args.b.now) (here_of c.args.scope.now.at.now line running)) (here_of c.args.scope.now.at.now line running) (world_in (store_of c.value.new.heap) c.args.scope.now targets) false c.value-in-Or.result (world_in (store_of c.value-in-Or.new.heap) c.args.scope.now targets) c.in-Or.is (sym c.if-branch.false ∙ c.in_ok-is_true-in-Or.ensures) (c.value-in-Or.ensures.says env call line running targets))

pub between-returns-in_default-clause-says : goal.between-returns-in_default-clause-says
between-returns-in_default-clause-says t c = λ env call line running targets. behind _ _ _ c.in-Ok.x _ _ _ (c.in-Ok.ensures.says env call line running targets) (subst (λ (m : Runs Val). Ran (here_of c.args.scope.now.at.now line running).site (m (world_in (store_of c.value.new.heap) c.args.scope.now targets)) c.second.result (world_in (store_of c.second.new.heap) c.args.scope.now targets)) (sym (right_both c.args.op c.in-Ok.x (value env call (tree_of c.args.b.now) (here_of c.args.scope.now.at.now line running)) (here_of c.args.scope.now.at.now line running) c.in_default.not-Or c.in_default.not-And)) (c.second.ensures.says env call line running targets))

pub choice-returns-then-branch-clause-says : goal.choice-returns-then-branch-clause-says
choice-returns-then-branch-clause-says t c = λ env call line running targets. behind _ _ _ c.in-Ok.x _ _ _ (c.in-Ok.ensures.says env call line running targets) (truly c.in-Ok.x (value env call (tree_of c.args.a.now) (here_of c.args.scope.now.at.now line running)) (value env call (tree_of c.args.b.now) (here_of c.args.scope.now.at.now line running)) (world_in (store_of c.value.new.heap) c.args.scope.now targets) true (here_of c.args.scope.now.at.now line running).site c.value-then-branch.result (world_in (store_of c.value-then-branch.new.heap) c.args.scope.now targets) (sym c.if-branch.true ∙ c.in_ok-is_true.ensures) (c.value-then-branch.ensures.says env call line running targets))

pub bound_value-returns-in-Some-clause-says : goal.bound_value-returns-in-Some-clause-says
bound_value-returns-in-Some-clause-says t c = λ env call line running targets. subst (λ (b : Bound). Ran (here_of c.args.scope.now.at.now line running).site (bound_value env call b (here_of c.args.scope.now.at.now line running) (world_in (store_of c.args.heap.now) c.args.scope.now targets)) c.value.result (world_in (store_of c.value.new.heap) c.args.scope.now targets)) (sym (ap bound_tree c.in-Some.is ∙ ap (λ (d : Expr). tr.bound (tree_of d)) (sym c.deref.ensures))) (c.value.ensures.says env call line running targets)

pub value-returns-in-Err-clause-says : goal.value-returns-in-Err-clause-says
value-returns-in-Err-clause-says t c = λ env call line running targets. no_node env call (tree_of c.args.e.now) (here_of c.args.scope.now.at.now line running) (world_in (store_of c.args.heap.now) c.args.scope.now targets) c.in-Err.halt (store_of c.tick.new.heap) _ c.in-Err.ensures.says

pub value-returns-in-Name-clause-says : goal.value-returns-in-Name-clause-says
value-returns-in-Name-clause-says t c = λ env call line running targets. node env call (tree_of c.args.e.now) (tr.name c.in-Name.x) (read c.in-Name.x (here_of c.args.scope.now.at.now line running)) (here_of c.args.scope.now.at.now line running) (world_in (store_of c.args.heap.now) c.args.scope.now targets) (store_of c.tick.new.heap) c.read_in_scope.result _ (ap tree_of c.in-Name.is ∙ tree-Name c.in-Name.x c.in-Name.last) refl c.in_default.ensures.says (c.read_in_scope.ensures line running (store_of c.tick.new.heap) targets)

pub value-returns-in-Str-clause-says : goal.value-returns-in-Str-clause-says
value-returns-in-Str-clause-says t c = λ env call line running targets. node env call (tree_of c.args.e.now) (tr.str c.in-Str.x) (on_heap (here_of c.args.scope.now.at.now line running) (makes_text c.in-Str.x)) (here_of c.args.scope.now.at.now line running) (world_in (store_of c.args.heap.now) c.args.scope.now targets) (store_of c.tick.new.heap) c.make_text.result _ (ap tree_of c.in-Str.is ∙ tree-Str c.in-Str.x) refl c.in_default.ensures.says (heaped (makes_text c.in-Str.x) (here_of c.args.scope.now.at.now line running) (world_in (store_of c.tick.new.heap) c.args.scope.now targets) c.make_text.result (store_of c.make_text.new.heap) c.make_text.ensures.says)

pub value-returns-in-Tuple-clause-says : goal.value-returns-in-Tuple-clause-says
value-returns-in-Tuple-clause-says t c = λ env call line running targets. node env call (tree_of c.args.e.now) (tr.tuple (trees_of c.as_slice.result.now)) (tuple_does (trees_of c.as_slice.result.now) env call (here_of c.args.scope.now.at.now line running)) (here_of c.args.scope.now.at.now line running) (world_in (store_of c.args.heap.now) c.args.scope.now targets) (store_of c.tick.new.heap) c.tuple.result _ (ap tree_of c.in-Tuple.is ∙ tree-Tuple c.in-Tuple.es ∙ ap (λ (x : Vec Expr Global). tr.tuple (trees_of x.items)) (sym c.deref.ensures) ∙ ap (λ (x : List Expr). tr.tuple (trees_of x)) (sym c.as_slice.ensures.value)) refl c.in_default.ensures.says (c.tuple.ensures.says env call line running targets)

pub value-returns-in-List-clause-says : goal.value-returns-in-List-clause-says
value-returns-in-List-clause-says t c = λ env call line running targets. node env call (tree_of c.args.e.now) (tr.list (trees_of c.as_slice-in-List.result.now)) (list_does (trees_of c.as_slice-in-List.result.now) env call (here_of c.args.scope.now.at.now line running)) (here_of c.args.scope.now.at.now line running) (world_in (store_of c.args.heap.now) c.args.scope.now targets) (store_of c.tick.new.heap) c.list.result _ (ap tree_of c.in-List.is ∙ tree-List c.in-List.es ∙ ap (λ (x : Vec Expr Global). tr.list (trees_of x.items)) (sym c.deref-in-List.ensures) ∙ ap (λ (x : List Expr). tr.list (trees_of x)) (sym c.as_slice-in-List.ensures.value)) refl c.in_default.ensures.says (c.list.ensures.says env call line running targets)

pub value-returns-in-Unary-clause-says : goal.value-returns-in-Unary-clause-says
value-returns-in-Unary-clause-says t c = λ env call line running targets. node env call (tree_of c.args.e.now) (tr.unary c.in-Unary.op (tree_of c.deref-in-Unary.result.now)) (unary_does c.in-Unary.op (tree_of c.deref-in-Unary.result.now) env call (here_of c.args.scope.now.at.now line running)) (here_of c.args.scope.now.at.now line running) (world_in (store_of c.args.heap.now) c.args.scope.now targets) (store_of c.tick.new.heap) c.operated.result _ (ap tree_of c.in-Unary.is ∙ tree-Unary c.in-Unary.op c.in-Unary.a ∙ ap (λ (d : Expr). tr.unary c.in-Unary.op (tree_of d)) (sym c.deref-in-Unary.ensures)) refl c.in_default.ensures.says (c.operated.ensures.says env call line running targets)

pub value-returns-in-Binary-clause-says : goal.value-returns-in-Binary-clause-says
value-returns-in-Binary-clause-says t c = λ env call line running targets. node env call (tree_of c.args.e.now) (tr.binary c.in-Binary.op (tree_of c.deref-in-Binary.result.now) (tree_of c.deref-in-Binary-2.result.now)) (between_does c.in-Binary.op (tree_of c.deref-in-Binary.result.now) (tree_of c.deref-in-Binary-2.result.now) env call (here_of c.args.scope.now.at.now line running)) (here_of c.args.scope.now.at.now line running) (world_in (store_of c.args.heap.now) c.args.scope.now targets) (store_of c.tick.new.heap) c.between.result _ (ap tree_of c.in-Binary.is ∙ tree-Binary c.in-Binary.op c.in-Binary.a c.in-Binary.b ∙ ap (λ (x : Expr). tr.binary c.in-Binary.op (tree_of x) (shared_tree c.in-Binary.b)) (sym c.deref-in-Binary.ensures) ∙ ap (λ (x : Expr). tr.binary c.in-Binary.op (tree_of c.deref-in-Binary.result.now) (tree_of x)) (sym c.deref-in-Binary-2.ensures)) (ap {B = Runs Val} (λ (m : Runs Val). λ (u : World). then_runs (tick (here_of c.args.scope.now.at.now line running) u) (λ _. m)) (between_is c.in-Binary.op (value env call (tree_of c.deref-in-Binary.result.now) (here_of c.args.scope.now.at.now line running)) (value env call (tree_of c.deref-in-Binary-2.result.now) (here_of c.args.scope.now.at.now line running)) (here_of c.args.scope.now.at.now line running))) c.in_default.ensures.says (c.between.ensures.says env call line running targets)

pub value-returns-in-Choice-clause-says : goal.value-returns-in-Choice-clause-says
value-returns-in-Choice-clause-says t c = λ env call line running targets. node env call (tree_of c.args.e.now) (tr.choice (tree_of c.deref-in-Choice.result.now) (tree_of c.deref-in-Choice-2.result.now) (tree_of c.deref-in-Choice-3.result.now)) (choice_does (tree_of c.deref-in-Choice.result.now) (tree_of c.deref-in-Choice-2.result.now) (tree_of c.deref-in-Choice-3.result.now) env call (here_of c.args.scope.now.at.now line running)) (here_of c.args.scope.now.at.now line running) (world_in (store_of c.args.heap.now) c.args.scope.now targets) (store_of c.tick.new.heap) c.choice.result _ (ap tree_of c.in-Choice.is ∙ tree-Choice c.in-Choice.a c.in-Choice.c c.in-Choice.b ∙ ap (λ (x : Expr). tr.choice (tree_of x) (shared_tree c.in-Choice.c) (shared_tree c.in-Choice.b)) (sym c.deref-in-Choice.ensures) ∙ ap (λ (x : Expr). tr.choice (tree_of c.deref-in-Choice.result.now) (tree_of x) (shared_tree c.in-Choice.b)) (sym c.deref-in-Choice-2.ensures) ∙ ap (λ (x : Expr). tr.choice (tree_of c.deref-in-Choice.result.now) (tree_of c.deref-in-Choice-2.result.now) (tree_of x)) (sym c.deref-in-Choice-3.ensures)) refl c.in_default.ensures.says (c.choice.ensures.says env call line running targets)

pub value-returns-in-Index-clause-says : goal.value-returns-in-Index-clause-says
value-returns-in-Index-clause-says t c = λ env call line running targets. node env call (tree_of c.args.e.now) (tr.index (tree_of c.deref-in-Index.result.now) (tree_of c.deref-in-Index-2.result.now)) (index_does (tree_of c.deref-in-Index.result.now) (tree_of c.deref-in-Index-2.result.now) env call (here_of c.args.scope.now.at.now line running)) (here_of c.args.scope.now.at.now line running) (world_in (store_of c.args.heap.now) c.args.scope.now targets) (store_of c.tick.new.heap) c.member.result _ (ap tree_of c.in-Index.is ∙ tree-Index c.in-Index.a c.in-Index.i ∙ ap (λ (x : Expr). tr.index (tree_of x) (shared_tree c.in-Index.i)) (sym c.deref-in-Index.ensures) ∙ ap (λ (x : Expr). tr.index (tree_of c.deref-in-Index.result.now) (tree_of x)) (sym c.deref-in-Index-2.ensures)) refl c.in_default.ensures.says (c.member.ensures.says env call line running targets)

pub value-returns-in-Slice-clause-says : goal.value-returns-in-Slice-clause-says
value-returns-in-Slice-clause-says t c = λ env call line running targets. node env call (tree_of c.args.e.now) (tr.slice (tree_of c.deref-in-Slice.result.now) (bound_tree c.in-Slice.i) (bound_tree c.in-Slice.j)) (slice_does (tree_of c.deref-in-Slice.result.now) (bound_tree c.in-Slice.i) (bound_tree c.in-Slice.j) env call (here_of c.args.scope.now.at.now line running)) (here_of c.args.scope.now.at.now line running) (world_in (store_of c.args.heap.now) c.args.scope.now targets) (store_of c.tick.new.heap) c.part.result _ (ap tree_of c.in-Slice.is ∙ tree-Slice c.in-Slice.a c.in-Slice.i c.in-Slice.j ∙ ap (λ (x : Expr). tr.slice (tree_of x) (bound_tree c.in-Slice.i) (bound_tree c.in-Slice.j)) (sym c.deref-in-Slice.ensures)) refl c.in_default.ensures.says (c.part.ensures.says env call line running targets)

pub value-returns-in-Call-clause-says : goal.value-returns-in-Call-clause-says
value-returns-in-Call-clause-says t c = λ env call line running targets. node env call (tree_of c.args.e.now) (tr.call (tree_of c.deref-in-Call.result.now) (trees_of c.as_slice-in-Call.result.now) c.as_slice-in-Call-2.result.now) (call_does (tree_of c.deref-in-Call.result.now) (trees_of c.as_slice-in-Call.result.now) c.as_slice-in-Call-2.result.now env call (here_of c.args.scope.now.at.now line running)) (here_of c.args.scope.now.at.now line running) (world_in (store_of c.args.heap.now) c.args.scope.now targets) (store_of c.tick.new.heap) c.of_function.result _ (ap tree_of c.in-Call.is ∙ tree-Call c.in-Call.f c.in-Call.es c.in-Call.names ∙ ap (λ (x : Expr). tr.call (tree_of x) (trees_of (arc_value c.in-Call.es).items) (arc_value c.in-Call.names).items) (sym c.deref-in-Call.ensures) ∙ ap (λ (x : Vec Expr Global). tr.call (tree_of c.deref-in-Call.result.now) (trees_of x.items) (arc_value c.in-Call.names).items) (sym c.deref-in-Call-2.ensures) ∙ ap (λ (x : List Expr). tr.call (tree_of c.deref-in-Call.result.now) (trees_of x) (arc_value c.in-Call.names).items) (sym c.as_slice-in-Call.ensures.value) ∙ ap (λ (x : Vec Text Global). tr.call (tree_of c.deref-in-Call.result.now) (trees_of c.as_slice-in-Call.result.now) x.items) (sym c.deref-in-Call-3.ensures) ∙ ap (λ (x : List Text). tr.call (tree_of c.deref-in-Call.result.now) (trees_of c.as_slice-in-Call.result.now) x) (sym c.as_slice-in-Call-2.ensures.value)) refl c.in_default.ensures.says (c.of_function.ensures.says env call line running targets)

pub value-returns-in-Method-clause-says : goal.value-returns-in-Method-clause-says
value-returns-in-Method-clause-says t c = λ env call line running targets. node env call (tree_of c.args.e.now) (tr.method (tree_of c.deref-in-Method.result.now) c.in-Method.name (trees_of c.as_slice-in-Method.result.now) c.as_slice-in-Method-2.result.now) (method_does (tree_of c.deref-in-Method.result.now) c.in-Method.name (trees_of c.as_slice-in-Method.result.now) c.as_slice-in-Method-2.result.now env call (here_of c.args.scope.now.at.now line running)) (here_of c.args.scope.now.at.now line running) (world_in (store_of c.args.heap.now) c.args.scope.now targets) (store_of c.tick.new.heap) c.of_method.result _ (ap tree_of c.in-Method.is ∙ tree-Method c.in-Method.a c.in-Method.name c.in-Method.es c.in-Method.names ∙ ap (λ (x : Expr). tr.method (tree_of x) c.in-Method.name (trees_of (arc_value c.in-Method.es).items) (arc_value c.in-Method.names).items) (sym c.deref-in-Method.ensures) ∙ ap (λ (x : Vec Expr Global). tr.method (tree_of c.deref-in-Method.result.now) c.in-Method.name (trees_of x.items) (arc_value c.in-Method.names).items) (sym c.deref-in-Method-2.ensures) ∙ ap (λ (x : List Expr). tr.method (tree_of c.deref-in-Method.result.now) c.in-Method.name (trees_of x) (arc_value c.in-Method.names).items) (sym c.as_slice-in-Method.ensures.value) ∙ ap (λ (x : Vec Text Global). tr.method (tree_of c.deref-in-Method.result.now) c.in-Method.name (trees_of c.as_slice-in-Method.result.now) x.items) (sym c.deref-in-Method-3.ensures) ∙ ap (λ (x : List Text). tr.method (tree_of c.deref-in-Method.result.now) c.in-Method.name (trees_of c.as_slice-in-Method.result.now) x) (sym c.as_slice-in-Method-2.ensures.value)) refl c.in_default.ensures.says (c.of_method.ensures.says env call line running targets)

pub of_method-returns-in-Err-clause-says : goal.of_method-returns-in-Err-clause-says
of_method-returns-in-Err-clause-says t c = λ env call line running targets. received (tree_of c.args.a.now) (value env call (tree_of c.args.a.now) (here_of c.args.scope.now.at.now line running)) (λ r. values env call (trees_of c.args.es.now) (here_of c.args.scope.now.at.now line running) >>= λ xs. apply_method env r c.args.name.now (plain_part xs c.args.names.now) (named_part xs c.args.names.now) (here_of c.args.scope.now.at.now line running)) (here_of c.args.scope.now.at.now line running) (world_in (store_of c.args.heap.now) c.args.scope.now targets) (Err c.in-Err.halt) _ c.requires.word (stops _ _ _ c.in-Err.halt _ _ (c.in-Err.ensures.says env call line running targets))

pub of_method-returns-in-Err-values-clause-says : goal.of_method-returns-in-Err-values-clause-says
of_method-returns-in-Err-values-clause-says t c = λ env call line running targets. received (tree_of c.args.a.now) (value env call (tree_of c.args.a.now) (here_of c.args.scope.now.at.now line running)) (λ r. values env call (trees_of c.args.es.now) (here_of c.args.scope.now.at.now line running) >>= λ xs. apply_method env r c.args.name.now (plain_part xs c.args.names.now) (named_part xs c.args.names.now) (here_of c.args.scope.now.at.now line running)) (here_of c.args.scope.now.at.now line running) (world_in (store_of c.args.heap.now) c.args.scope.now targets) (Err c.in-Err-values.halt) _ c.requires.word (behind {B = Val} _ _ _ c.in-Ok.x _ (Err c.in-Err-values.halt) _ (c.in-Ok.ensures.says env call line running targets) (items_stop {B = Val} _ _ _ c.in-Err-values.halt _ _ (c.in-Err-values.ensures.says env call line running targets)))

pub of_method-returns-clause-says : goal.of_method-returns-clause-says
of_method-returns-clause-says t c = λ env call line running targets. received (tree_of c.args.a.now) (value env call (tree_of c.args.a.now) (here_of c.args.scope.now.at.now line running)) (λ r. values env call (trees_of c.args.es.now) (here_of c.args.scope.now.at.now line running) >>= λ xs. apply_method env r c.args.name.now (plain_part xs c.args.names.now) (named_part xs c.args.names.now) (here_of c.args.scope.now.at.now line running)) (here_of c.args.scope.now.at.now line running) (world_in (store_of c.args.heap.now) c.args.scope.now targets) c.call_method.result (world_in (store_of c.call_method.new.heap) c.args.scope.now targets) c.requires.word (behind _ _ _ c.in-Ok.x _ _ _ (c.in-Ok.ensures.says env call line running targets) (behind _ _ _ c.in-Ok-values.xs.items _ _ _ (c.in-Ok-values.ensures.says env call line running targets) (subst (λ (m : Runs Val). Ran (here_of c.args.scope.now.at.now line running).site (m (world_in (store_of c.values.new.heap) c.args.scope.now targets)) c.call_method.result (world_in (store_of c.call_method.new.heap) c.args.scope.now targets)) (sym (method_applied env c.in-Ok.x c.args.name.now (plain_part c.in-Ok-values.xs.items c.args.names.now) (named_part c.in-Ok-values.xs.items c.args.names.now) (here_of c.args.scope.now.at.now line running))) (heaped (method c.in-Ok.x c.args.name.now (plain_part c.in-Ok-values.xs.items c.args.names.now) (named_part c.in-Ok-values.xs.items c.args.names.now)) (here_of c.args.scope.now.at.now line running) (world_in (store_of c.values.new.heap) c.args.scope.now targets) c.call_method.result (store_of c.call_method.new.heap) (subst (λ (l : List Val). Says (method c.in-Ok.x c.args.name.now (plain_part l c.args.names.now) (named_part l c.args.names.now) (store_of c.values.new.heap)) c.call_method.result (store_of c.call_method.new.heap)) c.as_slice.ensures.value c.call_method.ensures.says)))))

pub of_function-returns-in-Err-clause-says : goal.of_function-returns-in-Err-clause-says
of_function-returns-in-Err-clause-says t c = λ env call line running targets. stops _ _ _ c.in-Err.halt (world_in (store_of c.tick.new.heap) c.args.scope.now targets) _ (no_node env call (tree_of c.args.f.now) (here_of c.args.scope.now.at.now line running) (world_in (store_of c.args.heap.now) c.args.scope.now targets) c.in-Err.halt (store_of c.tick.new.heap) (world_in (store_of c.tick.new.heap) c.args.scope.now targets) c.in-Err.ensures.says)

pub of_function-returns-in-Err-values-clause-says : goal.of_function-returns-in-Err-values-clause-says
of_function-returns-in-Err-values-clause-says t c = λ env call line running targets. plain_call env call c.args.scope.now (tree_of c.args.f.now) c.in-Some.g (λ g. values env call (trees_of c.args.es.now) (here_of c.args.scope.now.at.now line running) >>= λ xs. apply env call g (plain_part xs c.args.names.now) (named_part xs c.args.names.now) (here_of c.args.scope.now.at.now line running)) (here_of c.args.scope.now.at.now line running) (world_in (store_of c.args.heap.now) c.args.scope.now targets) (store_of c.tick.new.heap) (Err c.in-Err-values.halt) _ (λ x. refl) c.requires.plain (sym c.plain.ensures ∙ c.in-Some.is) c.in_default.ensures.says (items_stop {B = Val} _ _ _ c.in-Err-values.halt _ _ (c.in-Err-values.ensures.says env call line running targets))

pub of_function-returns-clause-says : goal.of_function-returns-clause-says
of_function-returns-clause-says t c = λ env call line running targets. plain_call env call c.args.scope.now (tree_of c.args.f.now) c.in-Some.g (λ g. values env call (trees_of c.args.es.now) (here_of c.args.scope.now.at.now line running) >>= λ xs. apply env call g (plain_part xs c.args.names.now) (named_part xs c.args.names.now) (here_of c.args.scope.now.at.now line running)) (here_of c.args.scope.now.at.now line running) (world_in (store_of c.args.heap.now) c.args.scope.now targets) (store_of c.tick.new.heap) c.call_builtin.result (world_in (store_of c.call_builtin.new.heap) c.args.scope.now targets) (λ x. refl) c.requires.plain (sym c.plain.ensures ∙ c.in-Some.is) c.in_default.ensures.says (behind _ _ _ c.in-Ok.xs.items _ _ _ (c.in-Ok.ensures.says env call line running targets) (subst (λ (m : Runs Val). Ran (here_of c.args.scope.now.at.now line running).site (m (world_in (store_of c.values.new.heap) c.args.scope.now targets)) c.call_builtin.result (world_in (store_of c.call_builtin.new.heap) c.args.scope.now targets)) (sym (plain_applied env call (tree_of c.args.f.now) c.in-Some.g (plain_part c.in-Ok.xs.items c.args.names.now) (named_part c.in-Ok.xs.items c.args.names.now) (here_of c.args.scope.now.at.now line running) (sym c.plain.ensures ∙ c.in-Some.is))) (heaped (builtin c.in-Some.g (plain_part c.in-Ok.xs.items c.args.names.now) (named_part c.in-Ok.xs.items c.args.names.now)) (here_of c.args.scope.now.at.now line running) (world_in (store_of c.values.new.heap) c.args.scope.now targets) c.call_builtin.result (store_of c.call_builtin.new.heap) (subst (λ (l : List Val). Says (builtin c.in-Some.g (plain_part l c.args.names.now) (named_part l c.args.names.now) (store_of c.values.new.heap)) c.call_builtin.result (store_of c.call_builtin.new.heap)) c.as_slice.ensures.value c.call_builtin.ensures.says))))

pub values-loop-e-preserved : goal.values-loop-e-preserved
values-loop-e-preserved t c =
    let es = c.args.es.now in let i = c.loop-e.e-index in let e = c.e-item.result in
    let first : drop i es ≡ e ∷ drop (i + 1) es = drop-cons es i e c.loop-e-test.true ∙ ap (λ (d : Expr). d ∷ drop (suc i) es) (sym c.e-item.is) ∙ ap (λ n. e ∷ drop n es) (sym (add-one i)) in
    let lengths = ap (λ l. sizes (trees_of l)) first in
    record {
      quiet = quiet_rest (is_free c.args.scope.now) e (drop (i + 1) es) (drop i es) first c.loop-e.invariant.quiet;
      less = omega (arith, lengths, c.loop-e.invariant.less);
      steps = omega (arith, c.in-Ok.ensures.steps, c.loop-e.invariant.steps);
      rest = λ env call line running targets. gathers env call (here_of c.args.scope.now.at.now line running) e (drop (i + 1) es) (drop i es) c.in-Ok.x c.loop-e.all.items c.push.new.self.items (world_in (store_of c.loop-e.heap) c.args.scope.now targets) (world_in (store_of c.value.new.heap) c.args.scope.now targets) _ first c.in_ok-push.ensures.items (c.in-Ok.ensures.says env call line running targets) (c.loop-e.invariant.rest env call line running targets);
    }

pub values-returns-in-Err-clause-says : goal.values-returns-in-Err-clause-says
values-returns-in-Err-clause-says t c =
    let es = c.args.es.now in let i = c.loop-e.e-index in let e = c.e-item.result in
    let first : drop i es ≡ e ∷ drop (suc i) es = drop-cons es i e c.loop-e-test.true ∙ ap (λ (d : Expr). d ∷ drop (suc i) es) (sym c.e-item.is) in
    λ env call line running targets. gathers_none env call (here_of c.args.scope.now.at.now line running) e (drop (suc i) es) (drop i es) c.loop-e.all.items (world_in (store_of c.loop-e.heap) c.args.scope.now targets) (world_in (store_of c.value.new.heap) c.args.scope.now targets) _ _ c.in-Err.halt first (c.in-Err.ensures.says env call line running targets) (c.loop-e.invariant.rest env call line running targets)

pub values-returns-clause-says : goal.values-returns-clause-says
values-returns-clause-says t c = λ env call line running targets. gathered env call (here_of c.args.scope.now.at.now line running) (drop c.loop-e.e-index c.args.es.now) c.loop-e.all.items (world_in (store_of c.loop-e.heap) c.args.scope.now targets) _ (drop_past c.args.es.now c.loop-e.e-index (omega (arith, c.loop-e-test.false))) (c.loop-e.invariant.rest env call line running targets)

pub between-returns-then-branch-2-clause-says : goal.between-returns-then-branch-2-clause-says
between-returns-then-branch-2-clause-says t c = λ env call line running targets. behind {B = Val} (value env call (tree_of c.args.a.now) (here_of c.args.scope.now.at.now line running) (world_in (store_of c.args.heap.now) c.args.scope.now targets)) (λ x. right c.args.op x (value env call (tree_of c.args.b.now) (here_of c.args.scope.now.at.now line running)) (here_of c.args.scope.now.at.now line running)) (here_of c.args.scope.now.at.now line running).site c.in-Ok.x (world_in (store_of c.value.new.heap) c.args.scope.now targets) c.value-then-branch-2.result (world_in (store_of c.value-then-branch-2.new.heap) c.args.scope.now targets) (c.in-Ok.ensures.says env call line running targets) (right_and c.args.op c.in-Ok.x (value env call (tree_of c.args.b.now) (here_of c.args.scope.now.at.now line running)) (here_of c.args.scope.now.at.now line running) (world_in (store_of c.value.new.heap) c.args.scope.now targets) true c.value-then-branch-2.result (world_in (store_of c.value-then-branch-2.new.heap) c.args.scope.now targets) c.in-And.is (sym c.if-branch-2.true ∙ c.in_ok-is_true-in-And.ensures) (c.value-then-branch-2.ensures.says env call line running targets))

pub between-returns-else-branch-2-clause-says : goal.between-returns-else-branch-2-clause-says
between-returns-else-branch-2-clause-says t c = λ env call line running targets. behind {B = Val} (value env call (tree_of c.args.a.now) (here_of c.args.scope.now.at.now line running) (world_in (store_of c.args.heap.now) c.args.scope.now targets)) (λ x. right c.args.op x (value env call (tree_of c.args.b.now) (here_of c.args.scope.now.at.now line running)) (here_of c.args.scope.now.at.now line running)) (here_of c.args.scope.now.at.now line running).site c.in-Ok.x (world_in (store_of c.value.new.heap) c.args.scope.now targets) (Ok c.in-Ok.x) (world_in (store_of c.value.new.heap) c.args.scope.now targets) (c.in-Ok.ensures.says env call line running targets) (right_and c.args.op c.in-Ok.x (value env call (tree_of c.args.b.now) (here_of c.args.scope.now.at.now line running)) (here_of c.args.scope.now.at.now line running) (world_in (store_of c.value.new.heap) c.args.scope.now targets) false (Ok c.in-Ok.x) (world_in (store_of c.value.new.heap) c.args.scope.now targets) c.in-And.is (sym c.if-branch-2.false ∙ c.in_ok-is_true-in-And.ensures) refl)

pub choice-returns-in-Err-clause-says : goal.choice-returns-in-Err-clause-says
choice-returns-in-Err-clause-says t c = λ env call line running targets. stops _ _ _ c.in-Err.halt _ _ (c.in-Err.ensures.says env call line running targets)

pub choice-returns-clause-says : goal.choice-returns-clause-says
choice-returns-clause-says t c = λ env call line running targets. behind _ _ _ c.in-Ok.x _ _ _ (c.in-Ok.ensures.says env call line running targets) (truly c.in-Ok.x (value env call (tree_of c.args.a.now) (here_of c.args.scope.now.at.now line running)) (value env call (tree_of c.args.b.now) (here_of c.args.scope.now.at.now line running)) (world_in (store_of c.value.new.heap) c.args.scope.now targets) false (here_of c.args.scope.now.at.now line running).site c.value-2.result (world_in (store_of c.value-2.new.heap) c.args.scope.now targets) (sym c.if-branch.false ∙ c.in_ok-is_true.ensures) (c.value-2.ensures.says env call line running targets))
