use Rattle.std.proofs.Common.{◌≡◌, ◌<◌, ◌+◌, ◌∷◌, List, Err, suc, length, drop, drop-cons, get_or, add-one, arith, ap, sym, subst, ◌∙◌}
use Rattle.std.specs.Arc.{arc_value}
use Rattle.values_heap.specs.View.{store_of}
use Rattle.values_semantics.specs.declared.val.Val.{Val}
use Rattle.values_semantics.specs.declared.val.Val.TheVariants.{Nothing}
use Rattle.values_semantics.specs.Outcome as o
use Rattle.values_semantics.specs.Heap.{walks}
use Rattle.syntax_tree.specs.declared.expr.Expr.{Expr}
use Rattle.syntax_tree.specs.View.{tree_of, shared_tree}
use Rattle.evaluator_semantics.specs.World.{World, Ends, then_runs, ◌>>=◌, pure, on_heap}
use Rattle.evaluator_semantics.specs.Targets as ta
use Rattle.evaluator_semantics.specs.Targets.{store}
use Rattle.evaluator_semantics.specs.Loops as l
use Rattle.evaluator_semantics.specs.Loops.{one_more, one_entry, unlocks, gather, over}
use Rattle.evaluator_state.specs.View.{world_of, here_of}
use Rattle.evaluator_state.specs.AimView.{gathered_of}
use Rattle.evaluator_frames.specs.declared.frame.Control.{Control}
use Rattle.evaluator_frames.specs.declared.frame.Gathering.{Gathering}
use Rattle.evaluator_frames.specs.declared.frame.Frame.TheVariants as f
use Rattle.evaluator_frames.specs.Frames.{Sig, an_aim, frame_does, a_gathered, Goes, on, gathered, aims_at, clauses_do, gather_from, gather_turn, above, stack_does, machine_does}
use Rattle.evaluator_frames.proofs.Bind.{tick_ends, tick_is}
use Rattle.evaluator_frames.proofs.Suites.{turn_any, turn_stops}
use Rattle.evaluator_frames.proofs.gather.next_gather.Goals as goal

pub returns-in-Err-clause-goes : goal.returns-in-Err-clause-goes
returns-in-Err-clause-goes c = λ env n running.
    let here = here_of c.args.at.now c.args.at.now.line running in
    let u = c.deref-now.result.now in
    let all = u.items.items in
    let k = u.next in
    let h = on env n here u.line in
    let w = world_of c.args.state.now in
    let frames = c.args.frames.now.items in
    let got = gathered_of c.args.got.value in
    let comp = arc_value u.of in
    let lt : k < length all = omega (arith, u.items.ok.0, c.len.ensures, c.if-now-len.false) in
    let first : drop k all ≡ get_or all k Nothing ∷ drop (suc k) all = drop-cons all k Nothing lt in
    let target = shared_tree u.target in
    let turn = gather_turn env n here target comp u.inner u.line in
    let unl = λ (x : l.Collection). on_heap h (unlocks u.over) >>= λ _. pure x in
    let p = λ (x : l.Collection). pure (a_gathered x) in
    let j = stack_does env n here frames in
    let behind = gather turn (drop (suc k) all) in
    let sb = λ (v : Val) (a : ta.Aim). store a v h >>= λ _. clauses_do env n here comp u.inner u.line got in
    let runs = λ (v : Val) (_ : Unit {0}). aims_at env n here target u.line >>= sb v in
    let whole = ap (λ (xs : List Val). then_runs (then_runs (then_runs (gather turn xs got w) unl) p) j) first ∙ ap (λ q. then_runs (then_runs (then_runs (then_runs (then_runs q (runs (get_or all k Nothing))) behind) unl) p) j) (tick_is h w) in
    let after = λ (control : Control). machine_does env n here control c.args.frames.now.items (world_of (record c.args.state.now { heap = c.tick.new.heap })) in
    subst (λ (d : Gathering). Goes (on env n here d.line).site (above env n here (gathered (gather_from env n here d got)) frames w) (Err c.in-Err.halt) after) c.deref-now.ensures (subst (λ (q : Ends Sig). Goes h.site q (Err c.in-Err.halt) after) (sym whole) (turn_stops (walks (λ objects. o.tick) w.store) h.site w w (store_of c.tick.new.heap) c.in-Err.halt (runs (get_or all k Nothing)) behind unl p j after c.in-Err.ensures.says))

pub returns-clause-goes : goal.returns-clause-goes
returns-clause-goes c = λ env n running.
    let here = here_of c.args.at.now c.args.at.now.line running in
    let u = c.deref-now.result.now in
    let all = u.items.items in
    let k = u.next in
    let v = c.index-value.result.now in
    let h = on env n here u.line in
    let w = world_of c.args.state.now in
    let ticked : World = record w { store = store_of c.tick.new.heap } in
    let frames = c.args.frames.now.items in
    let got = gathered_of c.args.got.value in
    let comp = arc_value u.of in
    let lt : k < length all = omega (arith, u.items.ok.0, c.len.ensures, c.if-now-len.false) in
    let stands : v ≡ get_or all k v = c.index-value.ensures in
    let first : drop k all ≡ v ∷ drop (k + 1) all = rw add-one (drop-cons all k v lt ∙ ap (λ (x : Val). x ∷ drop (suc k) all) (sym stands)) in
    let target = shared_tree u.target in
    let turn = gather_turn env n here target comp u.inner u.line in
    let unl = λ (x : l.Collection). on_heap h (unlocks u.over) >>= λ _. pure x in
    let p = λ (x : l.Collection). pure (a_gathered x) in
    let j = stack_does env n here frames in
    let behind = gather turn (drop (k + 1) all) in
    let sb = λ (a : ta.Aim). store a v h >>= λ _. clauses_do env n here comp u.inner u.line got in
    let next : Gathering = record u { next = k + 1 } in
    let aim = aims_at env n here target u.line ticked in
    let before = ap (λ (xs : List Val). then_runs (then_runs (then_runs (gather turn xs got w) unl) p) j) first
    ∙ ap (λ q. then_runs (then_runs (then_runs (then_runs (then_runs q (λ _. aims_at env n here target u.line >>= sb)) behind) unl) p) j) (tick_ends h w (store_of c.tick.new.heap) c.in_default.ensures.says)
    ∙ turn_any aim sb behind unl p j
    ∙ ap (λ (d : Gathering). then_runs aim (λ a. above env n here (gathered ((store a v (on env n here d.line) >>= λ _. clauses_do env n here (arc_value d.of) d.inner d.line got) >>= gather_from env n here d)) frames)) (sym (c.next_gathering-next.ensures ∙ ap (λ (d : Gathering). record d { next = d.next + 1 }) (sym c.deref-now.ensures)))
    ∙ ap (λ (d : Expr). then_runs (aims_at env n here (tree_of d) u.line ticked) (λ a. above env n here (frame_does env n here (f.Aimed c.next_gathering-next.result v c.args.got) (an_aim a)) frames)) (sym (c.deref.ensures ∙ c.in_ok-target.ensures)) in
    let after = λ (control : Control). machine_does env n here control c.aim_gathering.new.frames.items (world_of c.aim_gathering.new.state) in
    subst (λ (d : Gathering). Goes (on env n here d.line).site (above env n here (gathered (gather_from env n here d got)) frames w) c.aim_gathering.result after) c.deref-now.ensures (subst (λ (q : Ends Sig). Goes h.site q c.aim_gathering.result after) (sym before) (c.aim_gathering.ensures.goes env n running))
