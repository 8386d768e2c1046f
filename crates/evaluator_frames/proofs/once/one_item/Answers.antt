use Rattle.std.proofs.Common.{◌≡◌, ◌+◌, ◌++◌, ◌∷◌, [], Option, Ok, length, refl, subst, ap, ◌∙◌}
use Rattle.values_semantics.specs.declared.val.Val.{Val}
use Rattle.syntax_tree.specs.View.{tree_of}
use Rattle.evaluator_semantics.specs.World.{Ends, ended, then_runs}
use Rattle.evaluator_state.specs.declared.state.State.{State}
use Rattle.evaluator_state.specs.View.{world_of, here_of}
use Rattle.evaluator_frames.specs.declared.frame.Control.{Control}
use Rattle.evaluator_frames.specs.Immediate.{AtOnce, Costs}
use Rattle.evaluator_frames.specs.Frames.{Goes, on, ex, valued, items_from, trees_from, above, machine_does}
use Rattle.evaluator_frames.proofs.Clauses.{went}
use Rattle.evaluator_frames.proofs.Immediate.{once_stops}
use Rattle.evaluator_frames.proofs.once.one_item.Goals as goal

pub returns-in-Ok-Some-clause-goes : goal.returns-in-Ok-Some-clause-goes
returns-in-Ok-Some-clause-goes c = λ env n running.
    let here = here_of c.args.at.now c.args.at.now.line running in
    let line = c.args.line in
    let h = on env n here line in
    let w = world_of c.args.state.now in
    let u = world_of c.at_once.new.state in
    let frames = c.args.frames.now.items in
    let m = ex env n here (tree_of c.args.e.now) line w in
    let s = c.args.series.value in
    let behind = λ (v : Val). above env n here (valued (items_from env n here s.purpose (trees_from (length s.done.items + 1) s.items) (s.done.items ++ v ∷ []) line)) frames in
    let says : m ≡ ended c.in-Ok-Some.x u = subst (λ (o : Option Val). AtOnce h.site m (Ok o) u) c.in-Ok-Some.field-0-is (c.in-Ok-Some.ensures.says env n line running) in
    let before = ap (λ (o : Ends Val). then_runs o behind) says in
    went c.item_done.result h.site _ _ _ (λ control p. before ∙ p env n here frames u) c.item_done.ensures.ok c.item_done.ensures.err

pub returns-in-Ok-None-clause-goes : goal.returns-in-Ok-None-clause-goes
returns-in-Ok-None-clause-goes c = λ env n running.
    let here = here_of c.args.at.now c.args.at.now.line running in
    let line = c.args.line in
    let h = on env n here line in
    let w = world_of c.args.state.now in
    let u = world_of c.at_once.new.state in
    let frames = c.args.frames.now.items in
    let m = ex env n here (tree_of c.args.e.now) line w in
    let s = c.args.series.value in
    let behind = λ (v : Val). above env n here (valued (items_from env n here s.purpose (trees_from (length s.done.items + 1) s.items) (s.done.items ++ v ∷ []) line)) frames in
    let after = λ (control : Control). machine_does env n here control c.parts_above.new.frames.items (world_of c.parts_above.new.state) in
    let same : c.at_once.new.state ≡ c.args.state.now = subst (λ (o : Option Val). Costs (Ok o) c.args.state.now c.at_once.new.state) c.in-Ok-None.field-0-is c.in-Ok-None.ensures.costs in
    subst (λ (s : State). Goes h.site (then_runs (ex env n here (tree_of c.args.e.now) line (world_of s)) behind) c.parts_above.result after) same (c.parts_above.ensures.goes env n running refl refl)

pub returns-in-Err-clause-goes : goal.returns-in-Err-clause-goes
returns-in-Err-clause-goes c = λ env n running.
    let here = here_of c.args.at.now c.args.at.now.line running in
    let line = c.args.line in
    let h = on env n here line in
    let w = world_of c.args.state.now in
    let u = world_of c.at_once.new.state in
    let frames = c.args.frames.now.items in
    let m = ex env n here (tree_of c.args.e.now) line w in
    let s = c.args.series.value in
    let behind = λ (v : Val). above env n here (valued (items_from env n here s.purpose (trees_from (length s.done.items + 1) s.items) (s.done.items ++ v ∷ []) line)) frames in
    let after = λ (control : Control). machine_does env n here control frames u in
    once_stops m behind h.site c.in-Err.halt u after (c.in-Err.ensures.says env n line running)
