use Rattle.std.proofs.Common.{◌+◌, true, false, ap, sym, subst, ◌∙◌}
use Rattle.values_semantics.specs.declared.val.Val.{Val}
use Rattle.syntax_tree.specs.declared.expr.Expr.{Expr}
use Rattle.syntax_tree.specs.View.{tree_of, shared_tree}
use Rattle.values_semantics.specs.Binary.{binary}
use Rattle.evaluator_semantics.specs.Expressions.{operator_of}
use Rattle.evaluator_semantics.specs.World.{on_heap, Ends, Runs, then_runs, pure}
use Rattle.evaluator_state.specs.View.{world_of, here_of}
use Rattle.evaluator_frames.specs.declared.frame.Control.{Control}
use Rattle.evaluator_frames.specs.Weight.{frames_weight, control_weight}
use Rattle.evaluator_frames.specs.Frames.{Sig, a_value, Goes, on, ex, valued, right, above, stack_does, machine_does}
use Rattle.evaluator_frames.proofs.Bind.{under}
use Rattle.evaluator_frames.proofs.OperandValues.{truly, right_other, spent}
use Rattle.evaluator_frames.proofs.operands.right_operand.Goals as goal

pub returns-then-holds-2-clause-goes : goal.returns-then-holds-2-clause-goes
returns-then-holds-2-clause-goes c = λ env n running.
    let here = here_of c.args.at.now c.args.at.now.line running in
    let line = c.args.line in
    let w = world_of c.args.state.now in
    let frames = c.args.frames.now.items in
    let before = ap (λ op. above env n here (valued (right op c.args.x (ex env n here (shared_tree c.args.b.now) line) (on env n here line))) frames w) c.in-And.is ∙ truly env n here line frames w c.args.x (ex env n here (shared_tree c.args.b.now) line) (pure c.args.x) true (sym c.if-holds-2.true ∙ c.in_ok-holds-in-And.ensures)
    ∙ ap (λ (d : Expr). above env n here (valued (ex env n here (tree_of d) line)) frames w) (sym c.deref-then-holds-2.ensures) in
    let after = λ (control : Control). machine_does env n here control c.begin-then-holds-2.new.frames.items (world_of c.begin-then-holds-2.new.state) in
    subst (λ (q : Ends Sig). Goes (on env n here line).site q c.begin-then-holds-2.result after) (sym before) (c.begin-then-holds-2.ensures.goes env n running)

pub returns-else-holds-clause-goes : goal.returns-else-holds-clause-goes
returns-else-holds-clause-goes c = λ env n running.
    let here = here_of c.args.at.now c.args.at.now.line running in
    let line = c.args.line in
    let w = world_of c.args.state.now in
    let frames = c.args.frames.now.items in
    let before = ap (λ op. above env n here (valued (right op c.args.x (ex env n here (shared_tree c.args.b.now) line) (on env n here line))) frames w) c.in-Or.is ∙ truly env n here line frames w c.args.x (pure c.args.x) (ex env n here (shared_tree c.args.b.now) line) false (sym c.if-holds.false ∙ c.in_ok-holds-in-Or.ensures)
    ∙ ap (λ (d : Expr). above env n here (valued (ex env n here (tree_of d) line)) frames w) (sym c.deref.ensures) in
    let after = λ (control : Control). machine_does env n here control c.begin.new.frames.items (world_of c.begin.new.state) in
    subst (λ (q : Ends Sig). Goes (on env n here line).site q c.begin.result after) (sym before) (c.begin.ensures.goes env n running)

pub returns-in_default : goal.returns-in_default
returns-in_default c = record {
  goes = λ env n running.
      let here = here_of c.args.at.now c.args.at.now.line running in
      let line = c.args.line in
      let h = on env n here line in
      let w = world_of c.args.state.now in
      let frames = c.args.frames.now.items in
      let op = c.args.op in
      let x = c.args.x in
      let second = ex env n here (shared_tree c.args.b.now) line in
      let behind = λ (y : Val). on_heap h (binary (operator_of op) x y) in
      let before = ap (λ (m : Runs Val). above env n here (valued m) frames w) (right_other op x second h c.in_default.not-Or c.in_default.not-And)
      ∙ under (second w) behind (λ (v : Val). pure (a_value v)) (stack_does env n here frames)
      ∙ ap (λ (d : Expr). then_runs (ex env n here (tree_of d) line w) (λ v. above env n here (valued (behind v)) frames)) (sym c.deref-in_default.ensures) in
      let after = λ (control : Control). machine_does env n here control c.second_operand.new.frames.items (world_of c.second_operand.new.state) in
      subst (λ (q : Ends Sig). Goes h.site q c.second_operand.result after) (sym before) (c.second_operand.ensures.goes env n running);
  lighter = spent c.second_operand.result c.args.state.now.heap.steps (frames_weight c.args.frames.now.items + 2) c.second_operand.new.state.heap.steps (λ control. frames_weight c.second_operand.new.frames.items + control_weight control) c.second_operand.ensures.steps;
}
