use Rattle.std.proofs.Common.{◌≡◌, ℕ, List, Err, sym, subst, ap, ◌∙◌}
use Rattle.values_heap.specs.View.{store_of}
use Rattle.values_semantics.specs.Outcome as o
use Rattle.values_semantics.specs.Heap.{makes, function}
use Rattle.syntax_tree.specs.declared.def.Def.{Def}
use Rattle.syntax_tree.specs.Statements.{fn_of}
use Rattle.evaluator_state.specs.View.{world_of, here_of}
use Rattle.evaluator_frames.specs.declared.frame.Control.{Control}
use Rattle.evaluator_frames.specs.Frames.{an_exit, Goes, on, exited, above, stack_does, machine_does, defined}
use Rattle.evaluator_semantics.specs.Statements.{goes_on}
use Rattle.evaluator.proofs.Definitions.{kept_stops, bound_stops, bound}
use Rattle.evaluator.proofs.acting.define.Goals as goal

pub returns-in-Err-clause-goes : goal.returns-in-Err-clause-goes
returns-in-Err-clause-goes c = λ env n running frames.
    let here = here_of c.args.at.now c.args.at.now.line running in
    let w = world_of c.args.state.now in
    let h = on env n here c.args.line in
    let name = c.deref.result.now.name in
    let label = c.args.at.now.label in
    let xs = c.args.xs.items in
    let after = λ (control : Control). machine_does env n here control frames (world_of c.keep_defaults.new.state) in
    let made : makes (function label name) w.store ≡ o.gives c.in_ok-made.made (store_of c.make.new.self) =
    ap (λ (l : List ℕ). makes (function l name) w.store) (sym c.in_ok-share.ensures)
    ∙ ap (λ (l : List ℕ). makes (function c.in_ok-share.field-0 l) w.store) (sym c.in_ok-share-2.ensures)
    ∙ c.in_ok-made.ensures.says in
    subst (λ (d : Def). Goes h.site (above env n here (exited (defined env n here (fn_of d) xs c.args.line)) frames w) (Err c.in-Err.halt) after) c.deref.ensures
    (kept_stops h label name xs w (store_of c.make.new.self) c.in_ok-made.made (stack_does env n here frames) made c.in-Err.halt (world_of c.keep_defaults.new.state) after (c.in-Err.ensures.says h))

pub returns-in-Err-bind-clause-goes : goal.returns-in-Err-bind-clause-goes
returns-in-Err-bind-clause-goes c = λ env n running frames.
    let here = here_of c.args.at.now c.args.at.now.line running in
    let w = world_of c.args.state.now in
    let h = on env n here c.args.line in
    let name = c.deref.result.now.name in
    let label = c.args.at.now.label in
    let xs = c.args.xs.items in
    let after = λ (control : Control). machine_does env n here control frames (world_of c.bind.new.state) in
    let made : makes (function label name) w.store ≡ o.gives c.in_ok-made.made (store_of c.make.new.self) =
    ap (λ (l : List ℕ). makes (function l name) w.store) (sym c.in_ok-share.ensures)
    ∙ ap (λ (l : List ℕ). makes (function c.in_ok-share.field-0 l) w.store) (sym c.in_ok-share-2.ensures)
    ∙ c.in_ok-made.ensures.says in
    subst (λ (d : Def). Goes h.site (above env n here (exited (defined env n here (fn_of d) xs c.args.line)) frames w) (Err c.in-Err-bind.halt) after) c.deref.ensures
    (bound_stops h label name xs w (store_of c.make.new.self) c.in_ok-made.made (stack_does env n here frames) made (world_of c.keep_defaults.new.state) c.in-Err-bind.halt (world_of c.bind.new.state) after (c.in_default.ensures.says h) (c.in-Err-bind.ensures.says c.args.line running))

pub returns-clause-goes : goal.returns-clause-goes
returns-clause-goes c = λ env n running frames.
    let here = here_of c.args.at.now c.args.at.now.line running in
    let w = world_of c.args.state.now in
    let h = on env n here c.args.line in
    let name = c.deref.result.now.name in
    let label = c.args.at.now.label in
    let xs = c.args.xs.items in
    let j = stack_does env n here frames in
    let made : makes (function label name) w.store ≡ o.gives c.in_ok-made.made (store_of c.make.new.self) =
    ap (λ (l : List ℕ). makes (function l name) w.store) (sym c.in_ok-share.ensures)
    ∙ ap (λ (l : List ℕ). makes (function c.in_ok-share.field-0 l) w.store) (sym c.in_ok-share-2.ensures)
    ∙ c.in_ok-made.ensures.says in
    subst (λ (d : Def). above env n here (exited (defined env n here (fn_of d) xs c.args.line)) frames w ≡ j (an_exit goes_on) (world_of c.bind.new.state)) c.deref.ensures
    (bound h label name xs w (store_of c.make.new.self) c.in_ok-made.made j made (world_of c.keep_defaults.new.state) (world_of c.bind.new.state) (c.in_default.ensures.says h) (c.in_default-bind.ensures.says c.args.line running))
