use Rattle.std.proofs.Common.{refl, sym, subst, ap, ◌∙◌}
use Rattle.std.specs.Arc.{arc_value}
use Rattle.syntax_tree.specs.Tree.{Ex}
use Rattle.values_semantics.specs.Heap.{makes_list}
use Rattle.evaluator_semantics.specs.World.{Ends, Runs, ◌>>=◌, then_runs, pure, on_heap}
use Rattle.evaluator_semantics.specs.Loops as l
use Rattle.evaluator_semantics.specs.Loops.{one_more}
use Rattle.evaluator_semantics.specs.Expressions.{comprehension}
use Rattle.evaluator_semantics.specs.Calls.{call}
use Rattle.syntax_tree.specs.View.{tree_of, clause_trees}
use Rattle.evaluator_state.specs.View.{world_of}
use Rattle.evaluator_frames.specs.declared.frame.Item.TheVariants as i
use Rattle.evaluator_frames.specs.declared.frame.Frame.TheVariants as f
use Rattle.evaluator_frames.specs.Frames.{Sig, a_value, a_gathered, Goes, on, ex, valued, item_does, above, machine_does, frame_does, stack_does}
use Rattle.evaluator_frames.proofs.Bind.{through}
use Rattle.evaluator_frames.proofs.forms.begin_list_of.Goals as goal

pub returns-clause-goes : goal.returns-clause-goes
returns-clause-goes c = λ env n here.
    let line = c.args.line in
    let h = on env n here line in
    let w = world_of c.args.state.now in
    let frames = c.args.frames.now.items in
    let cs = clause_trees (arc_value c.args.clauses.now).items in
    let made = λ (g : l.Collection). on_heap h (makes_list g.members) in
    let whole = λ (inner : l.Collection → Runs l.Collection). above env n here (valued (comprehension env (call env n) cs inner h >>= made)) frames w in
    let first = comprehension env (call env n) cs (item_does env n here (i.Member c.in_ok-try_clone.field-0) line) h w in
    let before = ap (λ (d : Ex). whole (λ g. ex env n here d line >>= λ x. one_more x g h)) (sym (ap tree_of c.in_ok-try_clone.ensures)) in
    let runs = through first made (λ v. pure (a_value v)) (stack_does env n here frames) a_gathered (frame_does env n here (f.MakeList line)) (λ g v. refl)
    ∙ ap (λ i. then_runs (then_runs first (λ g. pure (a_gathered g))) i) (sym (c.in_ok-push.ensures.ok env n here)) in
    subst (λ (o : Ends Sig). Goes h.site o c.begin_comprehension.result (λ control. machine_does env n here control c.begin_comprehension.new.frames.items (world_of c.begin_comprehension.new.state))) (sym (before ∙ runs)) (c.begin_comprehension.ensures.goes env n here)
