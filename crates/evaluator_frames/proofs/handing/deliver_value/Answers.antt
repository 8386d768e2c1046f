use Rattle.std.proofs.Common.{◌≡◌, false, refl, sym, subst, ap, ◌∙◌}
use Rattle.values_semantics.specs.declared.val.Val.{Val}
use Rattle.values_semantics.specs.Indexing as ix
use Rattle.syntax_tree.specs.declared.expr.Expr.{Expr}
use Rattle.syntax_tree.specs.View.{tree_of, shared_tree}
use Rattle.evaluator_semantics.specs.World.{Ends, then_runs, pure, on_heap}
use Rattle.evaluator_semantics.specs.Targets as ta
use Rattle.evaluator_semantics.specs.Targets.{to_member}
use Rattle.evaluator_semantics.specs.Loops as l
use Rattle.evaluator_semantics.specs.Loops.{one_entry}
use Rattle.evaluator_state.specs.View.{world_of, here_of}
use Rattle.evaluator_state.specs.AimView.{gathered_of}
use Rattle.evaluator_frames.specs.declared.frame.Control.{Control}
use Rattle.evaluator_frames.specs.declared.frame.Frame.{Frame}
use Rattle.evaluator_frames.specs.declared.frame.Frame.TheVariants as f
use Rattle.evaluator_frames.specs.Frames.{Sig, a_value, an_aim, a_gathered, Goes, on, ex, valued, aimed, gathered, frame_does, frame_line, is_leave, above, stack_does, machine_does}
use Rattle.evaluator_frames.proofs.Bind.{under}
use Rattle.evaluator_frames.proofs.Clauses.{went}
use Rattle.evaluator_frames.proofs.handing.deliver_value.Goals as goal

pub returns-in-Key-clause-goes : goal.returns-in-Key-clause-goes
returns-in-Key-clause-goes c = λ env n running.
    let here = here_of c.args.at.now c.args.at.now.line running in
    let w = world_of c.args.state.now in
    let frames = c.args.frames.now.items in
    let after = λ (control : Control). machine_does env n here control c.entry_value.new.frames.items (world_of c.entry_value.new.state) in
    subst (λ (fr : Frame). Goes (on env n here (frame_line c.args.at.now.line fr)).site (above env n here (frame_does env n here fr (a_value c.args.x)) frames w) c.entry_value.result after) (sym c.in-Key.is) (c.entry_value.ensures.goes env n running)

pub returns-in-Unary-clause-goes : goal.returns-in-Unary-clause-goes
returns-in-Unary-clause-goes c = λ env n running.
    let here = here_of c.args.at.now c.args.at.now.line running in
    let w = world_of c.args.state.now in
    let frames = c.args.frames.now.items in
    let after = λ (control : Control). machine_does env n here control frames (world_of c.unary_done.new.state) in
    subst (λ (fr : Frame). Goes (on env n here (frame_line c.args.at.now.line fr)).site (above env n here (frame_does env n here fr (a_value c.args.x)) frames w) c.unary_done.result after) (sym c.in-Unary.is) (c.unary_done.ensures.goes env n here c.in-Unary.line frames)

pub returns-in-Right-clause-goes : goal.returns-in-Right-clause-goes
returns-in-Right-clause-goes c = λ env n running.
    let here = here_of c.args.at.now c.args.at.now.line running in
    let w = world_of c.args.state.now in
    let frames = c.args.frames.now.items in
    let after = λ (control : Control). machine_does env n here control c.right_operand.new.frames.items (world_of c.right_operand.new.state) in
    subst (λ (fr : Frame). Goes (on env n here (frame_line c.args.at.now.line fr)).site (above env n here (frame_does env n here fr (a_value c.args.x)) frames w) c.right_operand.result after) (sym c.in-Right.is) (c.right_operand.ensures.goes env n running)

pub returns-in-Choice-clause-goes : goal.returns-in-Choice-clause-goes
returns-in-Choice-clause-goes c = λ env n running.
    let here = here_of c.args.at.now c.args.at.now.line running in
    let w = world_of c.args.state.now in
    let frames = c.args.frames.now.items in
    let after = λ (control : Control). machine_does env n here control c.choose.new.frames.items (world_of c.choose.new.state) in
    subst (λ (fr : Frame). Goes (on env n here (frame_line c.args.at.now.line fr)).site (above env n here (frame_does env n here fr (a_value c.args.x)) frames w) c.choose.result after) (sym c.in-Choice.is) (c.choose.ensures.goes env n running)

pub returns-in-Sliced-clause-goes : goal.returns-in-Sliced-clause-goes
returns-in-Sliced-clause-goes c = λ env n running.
    let here = here_of c.args.at.now c.args.at.now.line running in
    let w = world_of c.args.state.now in
    let frames = c.args.frames.now.items in
    let after = λ (control : Control). machine_does env n here control c.slice_from.new.frames.items (world_of c.slice_from.new.state) in
    subst (λ (fr : Frame). Goes (on env n here (frame_line c.args.at.now.line fr)).site (above env n here (frame_does env n here fr (a_value c.args.x)) frames w) c.slice_from.result after) (sym c.in-Sliced.is) (c.slice_from.ensures.goes env n running)

pub returns-in-From-clause-goes : goal.returns-in-From-clause-goes
returns-in-From-clause-goes c = λ env n running.
    let here = here_of c.args.at.now c.args.at.now.line running in
    let w = world_of c.args.state.now in
    let frames = c.args.frames.now.items in
    let after = λ (control : Control). machine_does env n here control c.slice_to.new.frames.items (world_of c.slice_to.new.state) in
    subst (λ (fr : Frame). Goes (on env n here (frame_line c.args.at.now.line fr)).site (above env n here (frame_does env n here fr (a_value c.args.x)) frames w) c.slice_to.result after) (sym c.in-From.is) (c.slice_to.ensures.goes env n running)

pub returns-in-Assign-clause-goes : goal.returns-in-Assign-clause-goes
returns-in-Assign-clause-goes c = λ env n running.
    let here = here_of c.args.at.now c.args.at.now.line running in
    let w = world_of c.args.state.now in
    let frames = c.args.frames.now.items in
    let after = λ (control : Control). machine_does env n here control c.assign.new.frames.items (world_of c.assign.new.state) in
    subst (λ (fr : Frame). Goes (on env n here (frame_line c.args.at.now.line fr)).site (above env n here (frame_does env n here fr (a_value c.args.x)) frames w) c.assign.result after) (sym c.in-Assign.is) (c.assign.ensures.goes env n running)

pub returns-in-Change-clause-goes : goal.returns-in-Change-clause-goes
returns-in-Change-clause-goes c = λ env n running.
    let here = here_of c.args.at.now c.args.at.now.line running in
    let w = world_of c.args.state.now in
    let frames = c.args.frames.now.items in
    let after = λ (control : Control). machine_does env n here control frames (world_of c.change.new.state) in
    subst (λ (fr : Frame). Goes (on env n here (frame_line c.args.at.now.line fr)).site (above env n here (frame_does env n here fr (a_value c.args.x)) frames w) c.change.result after) (sym c.in-Change.is) (c.change.ensures.goes env n running)

pub returns-in-Indexed-clause-goes : goal.returns-in-Indexed-clause-goes
returns-in-Indexed-clause-goes c = λ env n running.
    let here = here_of c.args.at.now c.args.at.now.line running in
    let w = world_of c.args.state.now in
    let frames = c.args.frames.now.items in
    let line = c.in-Indexed.line in
    let h = on env n here line in
    let j = stack_does env n here frames in
    let behind = λ (y : Val). on_heap h (ix.index c.args.x y) in
    let before = under (ex env n here (shared_tree c.in-Indexed.i) line w) behind (λ (v : Val). pure (a_value v)) j
    ∙ ap (λ (d : Expr). then_runs (ex env n here (tree_of d) line w) (λ v. above env n here (valued (behind v)) frames)) (sym c.deref.ensures) in
    let after = λ (control : Control). machine_does env n here control c.begin_above.new.frames.items (world_of c.begin_above.new.state) in
    subst (λ (fr : Frame). Goes (on env n here (frame_line c.args.at.now.line fr)).site (above env n here (frame_does env n here fr (a_value c.args.x)) frames w) c.begin_above.result after) (sym c.in-Indexed.is)
    (subst (λ (q : Ends Sig). Goes h.site q c.begin_above.result after) (sym before) (c.begin_above.ensures.goes env n running refl refl))

pub returns-in-Container-clause-goes : goal.returns-in-Container-clause-goes
returns-in-Container-clause-goes c = λ env n running.
    let here = here_of c.args.at.now c.args.at.now.line running in
    let w = world_of c.args.state.now in
    let frames = c.args.frames.now.items in
    let line = c.in-Container.line in
    let h = on env n here line in
    let j = stack_does env n here frames in
    let behind = λ (y : Val). pure (to_member c.args.x y) in
    let before = under (ex env n here (shared_tree c.in-Container.i) line w) behind (λ (v : ta.Aim). pure (an_aim v)) j
    ∙ ap (λ (d : Expr). then_runs (ex env n here (tree_of d) line w) (λ v. above env n here (aimed (behind v)) frames)) (sym c.deref-in-Container.ensures) in
    let after = λ (control : Control). machine_does env n here control c.begin_above-in-Container.new.frames.items (world_of c.begin_above-in-Container.new.state) in
    subst (λ (fr : Frame). Goes (on env n here (frame_line c.args.at.now.line fr)).site (above env n here (frame_does env n here fr (a_value c.args.x)) frames w) c.begin_above-in-Container.result after) (sym c.in-Container.is)
    (subst (λ (q : Ends Sig). Goes h.site q c.begin_above-in-Container.result after) (sym before) (c.begin_above-in-Container.ensures.goes env n running refl refl))

pub returns-in-OneKey-clause-goes : goal.returns-in-OneKey-clause-goes
returns-in-OneKey-clause-goes c = λ env n running.
    let here = here_of c.args.at.now c.args.at.now.line running in
    let w = world_of c.args.state.now in
    let frames = c.args.frames.now.items in
    let line = c.in-OneKey.line in
    let h = on env n here line in
    let j = stack_does env n here frames in
    let behind = λ (y : Val). one_entry c.args.x y (gathered_of c.in-OneKey.got.value) h in
    let before = under (ex env n here (shared_tree c.in-OneKey.e) line w) behind (λ (v : l.Collection). pure (a_gathered v)) j
    ∙ ap (λ (d : Expr). then_runs (ex env n here (tree_of d) line w) (λ v. above env n here (gathered (behind v)) frames)) (sym c.deref-in-OneKey.ensures) in
    let after = λ (control : Control). machine_does env n here control c.begin_above-in-OneKey.new.frames.items (world_of c.begin_above-in-OneKey.new.state) in
    subst (λ (fr : Frame). Goes (on env n here (frame_line c.args.at.now.line fr)).site (above env n here (frame_does env n here fr (a_value c.args.x)) frames w) c.begin_above-in-OneKey.result after) (sym c.in-OneKey.is)
    (subst (λ (q : Ends Sig). Goes h.site q c.begin_above-in-OneKey.result after) (sym before) (c.begin_above-in-OneKey.ensures.goes env n running refl refl))

pub returns-in-For-clause-goes : goal.returns-in-For-clause-goes
returns-in-For-clause-goes c = λ env n running.
    let here = here_of c.args.at.now c.args.at.now.line running in
    let w = world_of c.args.state.now in
    let frames = c.args.frames.now.items in
    let after = λ (control : Control). machine_does env n here control frames (world_of c.turns_over.new.state) in
    subst (λ (fr : Frame). Goes (on env n here (frame_line c.args.at.now.line fr)).site (above env n here (frame_does env n here fr (a_value c.args.x)) frames w) c.turns_over.result after) (sym c.in-For.is) (c.turns_over.ensures.goes env n here frames)

pub returns-in-Each-clause-goes : goal.returns-in-Each-clause-goes
returns-in-Each-clause-goes c = λ env n running.
    let here = here_of c.args.at.now c.args.at.now.line running in
    let w = world_of c.args.state.now in
    let frames = c.args.frames.now.items in
    let after = λ (control : Control). machine_does env n here control frames (world_of c.clause_over.new.state) in
    subst (λ (fr : Frame). Goes (on env n here (frame_line c.args.at.now.line fr)).site (above env n here (frame_does env n here fr (a_value c.args.x)) frames w) c.clause_over.result after) (sym c.in-Each.is) (c.clause_over.ensures.goes env n here frames)

pub returns-in-Items-clause-goes : goal.returns-in-Items-clause-goes
returns-in-Items-clause-goes c = λ env n running.
    let here = here_of c.args.at.now c.args.at.now.line running in
    let w = world_of c.args.state.now in
    let frames = c.args.frames.now.items in
    let after = λ (control : Control). machine_does env n here control frames (world_of c.args.state.now) in
    subst (λ (fr : Frame). Goes (on env n here (frame_line c.args.at.now.line fr)).site (above env n here (frame_does env n here fr (a_value c.args.x)) frames w) c.item_done.result after) (sym c.in-Items.is) (went c.item_done.result _ _ after _ (λ control q. q env n here frames w) c.item_done.ensures.ok c.item_done.ensures.err)

pub returns-in-Entry-clause-goes : goal.returns-in-Entry-clause-goes
returns-in-Entry-clause-goes c = λ env n running.
    let here = here_of c.args.at.now c.args.at.now.line running in
    let w = world_of c.args.state.now in
    let frames = c.args.frames.now.items in
    let after = λ (control : Control). machine_does env n here control frames (world_of c.entry_done.new.state) in
    subst (λ (fr : Frame). Goes (on env n here (frame_line c.args.at.now.line fr)).site (above env n here (frame_does env n here fr (a_value c.args.x)) frames w) c.entry_done.result after) (sym c.in-Entry.is) (c.entry_done.ensures.goes env n here frames)

pub returns-in-Both-clause-goes : goal.returns-in-Both-clause-goes
returns-in-Both-clause-goes c = λ env n running.
    let here = here_of c.args.at.now c.args.at.now.line running in
    let w = world_of c.args.state.now in
    let frames = c.args.frames.now.items in
    let after = λ (control : Control). machine_does env n here control frames (world_of c.both_done.new.state) in
    subst (λ (fr : Frame). Goes (on env n here (frame_line c.args.at.now.line fr)).site (above env n here (frame_does env n here fr (a_value c.args.x)) frames w) c.both_done.result after) (sym c.in-Both.is) (c.both_done.ensures.goes env n c.in-Both.line here frames)

pub returns-in-Index-clause-goes : goal.returns-in-Index-clause-goes
returns-in-Index-clause-goes c = λ env n running.
    let here = here_of c.args.at.now c.args.at.now.line running in
    let w = world_of c.args.state.now in
    let frames = c.args.frames.now.items in
    let after = λ (control : Control). machine_does env n here control frames (world_of c.index_done.new.state) in
    subst (λ (fr : Frame). Goes (on env n here (frame_line c.args.at.now.line fr)).site (above env n here (frame_does env n here fr (a_value c.args.x)) frames w) c.index_done.result after) (sym c.in-Index.is) (c.index_done.ensures.goes env n here frames)

pub returns-in-To-clause-goes : goal.returns-in-To-clause-goes
returns-in-To-clause-goes c = λ env n running.
    let here = here_of c.args.at.now c.args.at.now.line running in
    let w = world_of c.args.state.now in
    let frames = c.args.frames.now.items in
    let after = λ (control : Control). machine_does env n here control frames (world_of c.slice_done.new.state) in
    subst (λ (fr : Frame). Goes (on env n here (frame_line c.args.at.now.line fr)).site (above env n here (frame_does env n here fr (a_value c.args.x)) frames w) c.slice_done.result after) (sym c.in-To.is) (c.slice_done.ensures.goes env n here frames)

pub returns-in-OneMore-clause-goes : goal.returns-in-OneMore-clause-goes
returns-in-OneMore-clause-goes c = λ env n running.
    let here = here_of c.args.at.now c.args.at.now.line running in
    let w = world_of c.args.state.now in
    let frames = c.args.frames.now.items in
    let after = λ (control : Control). machine_does env n here control frames (world_of c.args.state.now) in
    subst (λ (fr : Frame). Goes (on env n here (frame_line c.args.at.now.line fr)).site (above env n here (frame_does env n here fr (a_value c.args.x)) frames w) c.member_gathered.result after) (sym c.in-OneMore.is) (c.member_gathered.ensures.goes env n here frames w)

pub returns-in-OneEntry-clause-goes : goal.returns-in-OneEntry-clause-goes
returns-in-OneEntry-clause-goes c = λ env n running.
    let here = here_of c.args.at.now c.args.at.now.line running in
    let w = world_of c.args.state.now in
    let frames = c.args.frames.now.items in
    let after = λ (control : Control). machine_does env n here control frames (world_of c.entry_gathered.new.state) in
    subst (λ (fr : Frame). Goes (on env n here (frame_line c.args.at.now.line fr)).site (above env n here (frame_does env n here fr (a_value c.args.x)) frames w) c.entry_gathered.result after) (sym c.in-OneEntry.is) (c.entry_gathered.ensures.goes env n here frames)

pub returns-in-Default-clause-goes : goal.returns-in-Default-clause-goes
returns-in-Default-clause-goes c = λ env n running.
    let here = here_of c.args.at.now c.args.at.now.line running in
    let w = world_of c.args.state.now in
    let frames = c.args.frames.now.items in
    let after = λ (control : Control). machine_does env n here control frames (world_of c.args.state.now) in
    subst (λ (fr : Frame). Goes (on env n here (frame_line c.args.at.now.line fr)).site (above env n here (frame_does env n here fr (a_value c.args.x)) frames w) c.default_done.result after) (sym c.in-Default.is) (went c.default_done.result _ _ after _ (λ control q. q env n here frames w) c.default_done.ensures.ok c.default_done.ensures.err)

pub returns-in-Branch-clause-goes : goal.returns-in-Branch-clause-goes
returns-in-Branch-clause-goes c = λ env n running.
    let here = here_of c.args.at.now c.args.at.now.line running in
    let w = world_of c.args.state.now in
    let frames = c.args.frames.now.items in
    let after = λ (control : Control). machine_does env n here control frames (world_of c.args.state.now) in
    subst (λ (fr : Frame). Goes (on env n here (frame_line c.args.at.now.line fr)).site (above env n here (frame_does env n here fr (a_value c.args.x)) frames w) c.branch_known.result after) (sym c.in-Branch.is) (c.branch_known.ensures.goes env n here c.args.at.now.line frames)

pub returns-in-Only-clause-goes : goal.returns-in-Only-clause-goes
returns-in-Only-clause-goes c = λ env n running.
    let here = here_of c.args.at.now c.args.at.now.line running in
    let w = world_of c.args.state.now in
    let frames = c.args.frames.now.items in
    let after = λ (control : Control). machine_does env n here control frames (world_of c.args.state.now) in
    subst (λ (fr : Frame). Goes (on env n here (frame_line c.args.at.now.line fr)).site (above env n here (frame_does env n here fr (a_value c.args.x)) frames w) c.clause_known.result after) (sym c.in-Only.is) (c.clause_known.ensures.goes env n here frames)

pub returns-in-Called-clause-goes : goal.returns-in-Called-clause-goes
returns-in-Called-clause-goes c = λ env n running.
    let here = here_of c.args.at.now c.args.at.now.line running in
    let frames = c.args.frames.now.items in
    let after = λ (control : Control). machine_does env n here control frames (world_of c.begin_arguments.new.state) in
    subst (λ (fr : Frame). Goes (on env n here (frame_line c.args.at.now.line fr)).site (above env n here (frame_does env n here fr (a_value c.args.x)) frames (world_of c.args.state.now)) c.begin_arguments.result after) (sym c.in-Called.is) (c.begin_arguments.ensures.goes env n running frames)

pub returns-in-On-clause-goes : goal.returns-in-On-clause-goes
returns-in-On-clause-goes c = λ env n running.
    let here = here_of c.args.at.now c.args.at.now.line running in
    let frames = c.args.frames.now.items in
    let after = λ (control : Control). machine_does env n here control frames (world_of c.begin_arguments-in-On.new.state) in
    subst (λ (fr : Frame). Goes (on env n here (frame_line c.args.at.now.line fr)).site (above env n here (frame_does env n here fr (a_value c.args.x)) frames (world_of c.args.state.now)) c.begin_arguments-in-On.result after) (sym c.in-On.is) (c.begin_arguments-in-On.ensures.goes env n running frames)

pub returns-in_default-clause-goes : goal.returns-in_default-clause-goes
returns-in_default-clause-goes c = λ env n running.
    let here = here_of c.args.at.now c.args.at.now.line running in
    let w = world_of c.args.state.now in
    let frames = c.args.frames.now.items in
    elim c.args.frame as (λ (frame : Frame). ◌≡◌ {A = Frame} c.args.frame frame → ◌≡◌ {A = Ends Sig} (above env n here (frame_does env n here frame (a_value c.args.x)) frames w) (stack_does env n here frames (a_value c.args.x) w)) [
      | f.Items line s ↦ λ is. absurd (c.in_default.not-Items line s is)
      | f.Key line pairs next ↦ λ is. absurd (c.in_default.not-Key line pairs next is)
      | f.Entry line pairs next k ↦ λ is. absurd (c.in_default.not-Entry line pairs next k is)
      | f.Unary line op ↦ λ is. absurd (c.in_default.not-Unary line op is)
      | f.Right line op b ↦ λ is. absurd (c.in_default.not-Right line op b is)
      | f.Both line op v ↦ λ is. absurd (c.in_default.not-Both line op v is)
      | f.Choice line a b ↦ λ is. absurd (c.in_default.not-Choice line a b is)
      | f.Indexed line i ↦ λ is. absurd (c.in_default.not-Indexed line i is)
      | f.Index line v ↦ λ is. absurd (c.in_default.not-Index line v is)
      | f.Sliced line i j ↦ λ is. absurd (c.in_default.not-Sliced line i j is)
      | f.From line v j ↦ λ is. absurd (c.in_default.not-From line v j is)
      | f.To line v y ↦ λ is. absurd (c.in_default.not-To line v y is)
      | f.Called line es names ↦ λ is. absurd (c.in_default.not-Called line es names is)
      | f.On line name es names ↦ λ is. absurd (c.in_default.not-On line name es names is)
      | f.Container line i ↦ λ is. absurd (c.in_default.not-Container line i is)
      | f.Member line v ↦ λ is. absurd (c.in_default.not-Member line v is)
      | f.Aims line es done ↦ λ is. refl
      | f.Discard ↦ λ is. absurd (c.in_default.not-Discard is)
      | f.Assign line target ↦ λ is. absurd (c.in_default.not-Assign line target is)
      | f.Store line v ↦ λ is. refl
      | f.Augment line op e ↦ λ is. refl
      | f.Change line op a v ↦ λ is. absurd (c.in_default.not-Change line op a v is)
      | f.Return ↦ λ is. absurd (c.in_default.not-Return is)
      | f.Branch ss bs next other ↦ λ is. absurd (c.in_default.not-Branch ss bs next other is)
      | f.For line target ss ↦ λ is. absurd (c.in_default.not-For line target ss is)
      | f.Turn u v ↦ λ is. refl
      | f.Turns u ↦ λ is. refl
      | f.Rest ss next ↦ λ is. refl
      | f.Leave caller ↦ λ is. let leaves : is_leave (f.Leave caller) ≡ false = ap is_leave (sym is) ∙ c.requires in absurd cc
      | f.First line target comp ↦ λ is. absurd (c.in_default.not-First line target comp is)
      | f.Each line target comp inner got ↦ λ is. absurd (c.in_default.not-Each line target comp inner got is)
      | f.Only line comp inner got ↦ λ is. absurd (c.in_default.not-Only line comp inner got is)
      | f.Aimed u v got ↦ λ is. refl
      | f.Gather u ↦ λ is. refl
      | f.OneMore line got ↦ λ is. absurd (c.in_default.not-OneMore line got is)
      | f.OneKey line e got ↦ λ is. absurd (c.in_default.not-OneKey line e got is)
      | f.OneEntry line k got ↦ λ is. absurd (c.in_default.not-OneEntry line k got is)
      | f.EndBlock ↦ λ is. refl
      | f.MakeList line ↦ λ is. refl
      | f.MakeDict line ↦ λ is. refl
      | f.Default line def next done ↦ λ is. absurd (c.in_default.not-Default line def next done is)
      | f.Tops file next ↦ λ is. refl
    ] refl
