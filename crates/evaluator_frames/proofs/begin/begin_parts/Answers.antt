use Rattle.std.proofs.Common.{[], refl, ap, ◌∙◌}
use Rattle.std.specs.Arc.{arc_value}
use Rattle.values_semantics.specs.Heap.{makes_text}
use Rattle.values_heap.specs.View.{store_of}
use Rattle.evaluator_semantics.specs.World.{on_heap}
use Rattle.syntax_tree.specs.View.{tree_of, shared_tree, bound_tree, clause_trees}
use Rattle.evaluator_state.specs.View.{world_of, here_of}
use Rattle.evaluator_frames.specs.declared.frame.Purpose.TheVariants as p
use Rattle.evaluator_frames.specs.Frames.{on, items_from, entries_from, method_does, unary_does, binary_does, choice_does, index_does, slice_does, call_does, list_of_does, dict_of_does, shared_trees}
use Rattle.evaluator_direct.proofs.Trees.{tree-Binary, tree-Name, tree-Str, tree-Tuple, tree-List, tree-Dict, tree-ListOf, tree-DictOf, tree-Unary, tree-Choice, tree-Index, tree-Slice, tree-Call, tree-Method}
use Rattle.evaluator_frames.proofs.Bind.{name_stops, stepped}
use Rattle.evaluator_frames.proofs.Clauses.{went}
use Rattle.evaluator_frames.proofs.begin.begin_parts.Goals as goal

pub returns-in-Err-clause-goes : goal.returns-in-Err-clause-goes
returns-in-Err-clause-goes c = λ env n running.
    name_stops env n (here_of c.args.at.now c.args.at.now.line running) c.args.line c.in-Name.x (tree_of c.args.e.now) (world_of c.args.state.now) _ (store_of c.tick.new.heap) c.in-Err.halt c.args.frames.now.items _ (ap tree_of c.in-Name.is ∙ tree-Name c.in-Name.x c.in-Name.last) c.in_ok-tick.ensures.says (c.in-Err.ensures c.args.line running)

pub returns-in-Str-clause-goes : goal.returns-in-Str-clause-goes
returns-in-Str-clause-goes c = λ env n running.
    let here = here_of c.args.at.now c.args.at.now.line running in
    let line = c.args.line in
    let does = on_heap (on env n here line) (makes_text c.in-Str.x) in
    stepped env n here line (tree_of c.args.e.now) _ does (world_of c.args.state.now) (store_of c.tick.new.heap) c.args.frames.now.items c.text_value.result _ (ap tree_of c.in-Str.is ∙ tree-Str c.in-Str.x) refl c.in_ok-tick.ensures.says (c.text_value.ensures.goes env n line here c.args.frames.now.items)

pub returns-in-Tuple-clause-goes : goal.returns-in-Tuple-clause-goes
returns-in-Tuple-clause-goes c = λ env n running.
    let here = here_of c.args.at.now c.args.at.now.line running in
    let line = c.args.line in
    let does = items_from env n here p.Tuple (shared_trees c.in-Tuple.es) [] line in
    stepped env n here line (tree_of c.args.e.now) _ does (world_of c.args.state.now) (store_of c.tick.new.heap) c.args.frames.now.items c.begin_items.result _ (ap tree_of c.in-Tuple.is ∙ tree-Tuple c.in-Tuple.es) refl c.in_ok-tick.ensures.says (went c.begin_items.result (on env n here line).site _ _ _ (λ control q. q env n here c.args.frames.now.items (record (world_of c.args.state.now) { store = store_of c.tick.new.heap })) c.begin_items.ensures.ok c.begin_items.ensures.err)

pub returns-in-List-clause-goes : goal.returns-in-List-clause-goes
returns-in-List-clause-goes c = λ env n running.
    let here = here_of c.args.at.now c.args.at.now.line running in
    let line = c.args.line in
    let does = items_from env n here p.List (shared_trees c.in-List.es) [] line in
    stepped env n here line (tree_of c.args.e.now) _ does (world_of c.args.state.now) (store_of c.tick.new.heap) c.args.frames.now.items c.begin_items-in-List.result _ (ap tree_of c.in-List.is ∙ tree-List c.in-List.es) refl c.in_ok-tick.ensures.says (went c.begin_items-in-List.result (on env n here line).site _ _ _ (λ control q. q env n here c.args.frames.now.items (record (world_of c.args.state.now) { store = store_of c.tick.new.heap })) c.begin_items-in-List.ensures.ok c.begin_items-in-List.ensures.err)

pub returns-in-Dict-clause-goes : goal.returns-in-Dict-clause-goes
returns-in-Dict-clause-goes c = λ env n running.
    let here = here_of c.args.at.now c.args.at.now.line running in
    let line = c.args.line in
    let does = entries_from env n here (shared_trees c.in-Dict.ks) (shared_trees c.in-Dict.vs) [] line in
    stepped env n here line (tree_of c.args.e.now) _ does (world_of c.args.state.now) (store_of c.tick.new.heap) c.args.frames.now.items c.begin_dict.result _ (ap tree_of c.in-Dict.is ∙ tree-Dict c.in-Dict.ks c.in-Dict.vs) refl c.in_ok-tick.ensures.says (went c.begin_dict.result (on env n here line).site _ _ _ (λ control q. q env n here c.args.frames.now.items (record (world_of c.args.state.now) { store = store_of c.tick.new.heap })) c.begin_dict.ensures.ok c.begin_dict.ensures.err)

pub returns-in-ListOf-clause-goes : goal.returns-in-ListOf-clause-goes
returns-in-ListOf-clause-goes c = λ env n running.
    let here = here_of c.args.at.now c.args.at.now.line running in
    let line = c.args.line in
    let does = list_of_does env n here (shared_tree c.in-ListOf.item) (clause_trees (arc_value c.in-ListOf.clauses).items) line in
    stepped env n here line (tree_of c.args.e.now) _ does (world_of c.args.state.now) (store_of c.tick.new.heap) c.args.frames.now.items c.begin_list_of.result _ (ap tree_of c.in-ListOf.is ∙ tree-ListOf c.in-ListOf.item c.in-ListOf.clauses) refl c.in_ok-tick.ensures.says (c.begin_list_of.ensures.goes env n here)

pub returns-in-DictOf-clause-goes : goal.returns-in-DictOf-clause-goes
returns-in-DictOf-clause-goes c = λ env n running.
    let here = here_of c.args.at.now c.args.at.now.line running in
    let line = c.args.line in
    let does = dict_of_does env n here (shared_tree c.in-DictOf.k) (shared_tree c.in-DictOf.v) (clause_trees (arc_value c.in-DictOf.clauses).items) line in
    stepped env n here line (tree_of c.args.e.now) _ does (world_of c.args.state.now) (store_of c.tick.new.heap) c.args.frames.now.items c.begin_dict_of.result _ (ap tree_of c.in-DictOf.is ∙ tree-DictOf c.in-DictOf.k c.in-DictOf.v c.in-DictOf.clauses) refl c.in_ok-tick.ensures.says (c.begin_dict_of.ensures.goes env n here)

pub returns-in-Unary-clause-goes : goal.returns-in-Unary-clause-goes
returns-in-Unary-clause-goes c = λ env n running.
    let here = here_of c.args.at.now c.args.at.now.line running in
    let line = c.args.line in
    let does = unary_does env n here c.in-Unary.op (shared_tree c.in-Unary.a) line in
    stepped env n here line (tree_of c.args.e.now) _ does (world_of c.args.state.now) (store_of c.tick.new.heap) c.args.frames.now.items c.begin_unary.result _ (ap tree_of c.in-Unary.is ∙ tree-Unary c.in-Unary.op c.in-Unary.a) refl c.in_ok-tick.ensures.says (c.begin_unary.ensures.goes env n here (record (world_of c.args.state.now) { store = store_of c.tick.new.heap }))

pub returns-in-Binary-clause-goes : goal.returns-in-Binary-clause-goes
returns-in-Binary-clause-goes c = λ env n running.
    let here = here_of c.args.at.now c.args.at.now.line running in
    let line = c.args.line in
    let does = binary_does env n here c.in-Binary.op (shared_tree c.in-Binary.a) (shared_tree c.in-Binary.b) line in
    stepped env n here line (tree_of c.args.e.now) _ does (world_of c.args.state.now) (store_of c.tick.new.heap) c.args.frames.now.items c.begin_binary.result _ (ap tree_of c.in-Binary.is ∙ tree-Binary c.in-Binary.op c.in-Binary.a c.in-Binary.b) refl c.in_ok-tick.ensures.says (c.begin_binary.ensures.goes env n running)

pub returns-in-Choice-clause-goes : goal.returns-in-Choice-clause-goes
returns-in-Choice-clause-goes c = λ env n running.
    let here = here_of c.args.at.now c.args.at.now.line running in
    let line = c.args.line in
    let does = choice_does env n here (shared_tree c.in-Choice.a) (shared_tree c.in-Choice.condition) (shared_tree c.in-Choice.b) line in
    stepped env n here line (tree_of c.args.e.now) _ does (world_of c.args.state.now) (store_of c.tick.new.heap) c.args.frames.now.items c.begin_choice.result _ (ap tree_of c.in-Choice.is ∙ tree-Choice c.in-Choice.a c.in-Choice.condition c.in-Choice.b) refl c.in_ok-tick.ensures.says (c.begin_choice.ensures.goes env n here (record (world_of c.args.state.now) { store = store_of c.tick.new.heap }))

pub returns-in-Index-clause-goes : goal.returns-in-Index-clause-goes
returns-in-Index-clause-goes c = λ env n running.
    let here = here_of c.args.at.now c.args.at.now.line running in
    let line = c.args.line in
    let does = index_does env n here (shared_tree c.in-Index.a) (shared_tree c.in-Index.i) line in
    stepped env n here line (tree_of c.args.e.now) _ does (world_of c.args.state.now) (store_of c.tick.new.heap) c.args.frames.now.items c.begin_index.result _ (ap tree_of c.in-Index.is ∙ tree-Index c.in-Index.a c.in-Index.i) refl c.in_ok-tick.ensures.says (c.begin_index.ensures.goes env n running)

pub returns-in-Slice-clause-goes : goal.returns-in-Slice-clause-goes
returns-in-Slice-clause-goes c = λ env n running.
    let here = here_of c.args.at.now c.args.at.now.line running in
    let line = c.args.line in
    let does = slice_does env n here (shared_tree c.in-Slice.a) (bound_tree c.in-Slice.i) (bound_tree c.in-Slice.j) line in
    stepped env n here line (tree_of c.args.e.now) _ does (world_of c.args.state.now) (store_of c.tick.new.heap) c.args.frames.now.items c.begin_slice.result _ (ap tree_of c.in-Slice.is ∙ tree-Slice c.in-Slice.a c.in-Slice.i c.in-Slice.j) refl c.in_ok-tick.ensures.says (c.begin_slice.ensures.goes env n here (record (world_of c.args.state.now) { store = store_of c.tick.new.heap }))

pub returns-in-Call-clause-goes : goal.returns-in-Call-clause-goes
returns-in-Call-clause-goes c = λ env n running.
    let here = here_of c.args.at.now c.args.at.now.line running in
    let line = c.args.line in
    let does = call_does env n here (shared_tree c.in-Call.f) (shared_trees c.in-Call.es) (arc_value c.in-Call.names).items line in
    stepped env n here line (tree_of c.args.e.now) _ does (world_of c.args.state.now) (store_of c.tick.new.heap) c.args.frames.now.items c.begin_call.result _ (ap tree_of c.in-Call.is ∙ tree-Call c.in-Call.f c.in-Call.es c.in-Call.names) refl c.in_ok-tick.ensures.says (c.begin_call.ensures.goes env n running)

pub returns-in-Method-clause-goes : goal.returns-in-Method-clause-goes
returns-in-Method-clause-goes c = λ env n running.
    let here = here_of c.args.at.now c.args.at.now.line running in
    let line = c.args.line in
    let does = method_does env n here (shared_tree c.in-Method.x) c.in-Method.name (shared_trees c.in-Method.es) (arc_value c.in-Method.names).items line in
    stepped env n here line (tree_of c.args.e.now) _ does (world_of c.args.state.now) (store_of c.tick.new.heap) c.args.frames.now.items c.begin_method.result _ (ap tree_of c.in-Method.is ∙ tree-Method c.in-Method.x c.in-Method.name c.in-Method.es c.in-Method.names) refl c.in_ok-tick.ensures.says (c.begin_method.ensures.goes env n running)
