use Rattle.std.proofs.Common.{ap, sym, refl, subst, ◌∙◌}
use Rattle.std.specs.Arc.{arc_value}
use Rattle.values_semantics.specs.declared.val.Val.{Val}
use Rattle.syntax_tree.specs.declared.expr.Expr.{Expr}
use Rattle.syntax_tree.specs.View.{tree_of, shared_tree}
use Rattle.evaluator_semantics.specs.World.{Ends, then_runs, ◌>>=◌, pure}
use Rattle.evaluator_semantics.specs.Loops as l
use Rattle.evaluator_semantics.specs.Loops.{one_more, one_entry, unlocks, gather, over}
use Rattle.evaluator_state.specs.View.{world_of, here_of}
use Rattle.evaluator_state.specs.AimView.{gathered_of}
use Rattle.evaluator_frames.specs.declared.frame.Control.{Control}
use Rattle.evaluator_frames.specs.declared.frame.Item.{Item}
use Rattle.evaluator_frames.specs.Frames.{Sig, a_gathered, Goes, on, ex, gathered, item_does, above, stack_does, machine_does}
use Rattle.evaluator_frames.proofs.Bind.{under}
use Rattle.evaluator_frames.proofs.gather.begin_item.Goals as goal

pub returns-in-Member-clause-goes : goal.returns-in-Member-clause-goes
returns-in-Member-clause-goes c = λ env n running.
    let here = here_of c.args.at.now c.args.at.now.line running in
    let line = c.args.line in
    let h = on env n here line in
    let w = world_of c.args.state.now in
    let frames = c.args.frames.now.items in
    let got = gathered_of c.args.got.value in
    let p = λ (x : l.Collection). pure (a_gathered x) in
    let behind = λ (x : Val). one_more x got h in
    let before = ap (λ (i : Item). above env n here (gathered (item_does env n here i line got)) frames w) c.in-Member.is
    ∙ under (ex env n here (shared_tree c.in-Member.e) line w) behind p (stack_does env n here frames)
    ∙ ap (λ (d : Expr). then_runs (ex env n here (tree_of d) line w) (λ v. above env n here (gathered (behind v)) frames)) (sym c.deref.ensures) in
    let after = λ (control : Control). machine_does env n here control c.begin_above.new.frames.items (world_of c.begin_above.new.state) in
    subst (λ (q : Ends Sig). Goes h.site q c.begin_above.result after) (sym before) (c.begin_above.ensures.goes env n running refl refl)

pub returns-in_ok-try_clone-in-Entry-clause-goes : goal.returns-in_ok-try_clone-in-Entry-clause-goes
returns-in_ok-try_clone-in-Entry-clause-goes c = λ env n running.
    let here = here_of c.args.at.now c.args.at.now.line running in
    let line = c.args.line in
    let h = on env n here line in
    let w = world_of c.args.state.now in
    let frames = c.args.frames.now.items in
    let got = gathered_of c.args.got.value in
    let p = λ (x : l.Collection). pure (a_gathered x) in
    let behind = λ (e : Expr) (x : Val). ex env n here (tree_of e) line >>= λ y. one_entry x y got h in
    let before = ap (λ (i : Item). above env n here (gathered (item_does env n here i line got)) frames w) c.in-Entry.is
    ∙ under (ex env n here (shared_tree c.in-Entry.k) line w) (behind (arc_value c.in-Entry.e)) p (stack_does env n here frames)
    ∙ ap (λ (d : Expr). then_runs (ex env n here (shared_tree c.in-Entry.k) line w) (λ v. above env n here (gathered (behind d v)) frames)) (sym c.in_ok-try_clone-in-Entry.ensures)
    ∙ ap (λ (d : Expr). then_runs (ex env n here (tree_of d) line w) (λ v. above env n here (gathered (behind (arc_value c.in_ok-try_clone-in-Entry.field-0) v)) frames)) (sym c.deref-in-Entry.ensures) in
    let after = λ (control : Control). machine_does env n here control c.begin_above-in-Entry.new.frames.items (world_of c.begin_above-in-Entry.new.state) in
    subst (λ (q : Ends Sig). Goes h.site q c.begin_above-in-Entry.result after) (sym before) (c.begin_above-in-Entry.ensures.goes env n running refl refl)
