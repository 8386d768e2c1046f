use Rattle.std.proofs.Common.{◌≡◌, ◌<◌, ◌+◌, ◌∷◌, List, Err, suc, length, drop, drop-cons, get_or, add-one, arith, ap, sym, subst, ◌∙◌}
use Rattle.values_heap.specs.View.{store_of}
use Rattle.values_semantics.specs.Outcome as o
use Rattle.values_semantics.specs.Heap.{walks}
use Rattle.values_semantics.specs.declared.val.Val.{Val}
use Rattle.values_semantics.specs.declared.val.Val.TheVariants.{Nothing}
use Rattle.syntax_tree.specs.View.{shared_tree}
use Rattle.evaluator_semantics.specs.World.{World, Ends, then_runs, ◌>>=◌, pure, on_heap}
use Rattle.evaluator_semantics.specs.Targets as ta
use Rattle.evaluator_semantics.specs.Targets.{store}
use Rattle.evaluator_semantics.specs.Loops.{unlocks}
use Rattle.evaluator_semantics.specs.Statements as s
use Rattle.evaluator_semantics.specs.Statements.{after_turn, turns, goes_on}
use Rattle.evaluator_state.specs.View.{world_of, here_of}
use Rattle.evaluator_frames.specs.declared.frame.Control.{Control}
use Rattle.evaluator_frames.specs.declared.frame.Turns.{Turns}
use Rattle.evaluator_frames.specs.Frames.{Sig, an_exit, Goes, on, body, exited, aims_at, turn_of, turns_behind, above, machine_does, stack_does, shared_suite}
use Rattle.evaluator_frames.proofs.Suites.{turn_begins, turn_stops}
use Rattle.evaluator_frames.proofs.Bind.{tick_ends, tick_is}
use Rattle.evaluator_frames.proofs.loops.next_turn.Goals as goal

pub returns-in-Err-clause-goes : goal.returns-in-Err-clause-goes
returns-in-Err-clause-goes c = λ env n running.
    let here = here_of c.args.at.now c.args.at.now.line running in
    let u = c.deref-now.result.now in
    let all = u.items.items in
    let k = u.next in
    let h = on env n here u.line in
    let w = world_of c.args.state.now in
    let frames = c.args.frames.now.items in
    let lt : k < length all = omega (arith, u.items.ok.0, c.len.ensures, c.if-now-len.false) in
    let first : drop k all ≡ get_or all k Nothing ∷ drop (suc k) all = drop-cons all k Nothing lt in
    let turn = turn_of env n here u in
    let unl = λ (x : s.Exit). on_heap h (unlocks u.over) >>= λ _. pure x in
    let p = λ (x : s.Exit). pure (an_exit x) in
    let j = stack_does env n here frames in
    let behind = λ (x : s.Exit). after_turn x (turns turn (drop (suc k) all)) in
    let target = shared_tree u.target in
    let sb = λ (v : Val) (a : ta.Aim). store a v h >>= λ _. body env n here (shared_suite u.body) in
    let runs = λ (v : Val) (_ : Unit {0}). aims_at env n here target u.line >>= sb v in
    let whole = ap (λ (l : List Val). then_runs (then_runs (then_runs (turns turn l w) unl) p) j) first ∙ ap (λ q. then_runs (then_runs (then_runs (then_runs (then_runs q (runs (get_or all k Nothing))) behind) unl) p) j) (tick_is h w) in
    let after = λ (control : Control). machine_does env n here control c.args.frames.now.items (world_of (record c.args.state.now { heap = c.tick.new.heap })) in
    subst (λ (d : Turns). Goes (on env n here d.line).site (above env n here (exited (turns_behind env n here d goes_on)) frames w) (Err c.in-Err.halt) after) c.deref-now.ensures (subst (λ (q : Ends Sig). Goes h.site q (Err c.in-Err.halt) after) (sym whole) (turn_stops (walks (λ objects. o.tick) w.store) h.site w w (store_of c.tick.new.heap) c.in-Err.halt (runs (get_or all k Nothing)) behind unl p j after c.in-Err.ensures.says))

pub returns-clause-goes : goal.returns-clause-goes
returns-clause-goes c = λ env n running.
    let here = here_of c.args.at.now c.args.at.now.line running in
    let u = c.deref-now.result.now in
    let all = u.items.items in
    let k = u.next in
    let v = c.index-value.result.now in
    let h = on env n here u.line in
    let w = world_of c.args.state.now in
    let ticked : World = record w { store = store_of c.tick.new.heap } in
    let frames = c.args.frames.now.items in
    let lt : k < length all = omega (arith, u.items.ok.0, c.len.ensures, c.if-now-len.false) in
    let stands : v ≡ get_or all k v = c.index-value.ensures in
    let first : drop k all ≡ v ∷ drop (k + 1) all = rw add-one (drop-cons all k v lt ∙ ap (λ (x : Val). x ∷ drop (suc k) all) (sym stands)) in
    let turn = turn_of env n here u in
    let unl = λ (x : s.Exit). on_heap h (unlocks u.over) >>= λ _. pure x in
    let p = λ (x : s.Exit). pure (an_exit x) in
    let j = stack_does env n here frames in
    let behind = λ (x : s.Exit). after_turn x (turns turn (drop (k + 1) all)) in
    let target = shared_tree u.target in
    let sb = λ (a : ta.Aim). store a v h >>= λ _. body env n here (shared_suite u.body) in
    let next : Turns = record u { next = k + 1 } in
    let before = ap (λ (l : List Val). then_runs (then_runs (then_runs (turns turn l w) unl) p) j) first
    ∙ ap (λ q. then_runs (then_runs (then_runs (then_runs (then_runs q (λ _. aims_at env n here target u.line >>= sb)) behind) unl) p) j) (tick_ends h w (store_of c.tick.new.heap) c.in_default.ensures.says)
    ∙ turn_begins env n here frames w (aims_at env n here target u.line ticked) sb behind unl j in
    let after = λ (control : Control). machine_does env n here control c.aim_turn.new.frames.items (world_of c.aim_turn.new.state) in
    let Says = λ (d : Turns). Goes (on env n here d.line).site (then_runs (aims_at env n here (shared_tree d.target) d.line ticked) (λ a. above env n here (exited ((store a v (on env n here d.line) >>= λ _. body env n here (shared_suite d.body)) >>= turns_behind env n here d)) frames)) c.aim_turn.result after in
    let says : Says next = subst Says (c.next_turns-next.ensures ∙ ap (λ (d : Turns). record d { next = d.next + 1 }) (sym c.deref-now.ensures)) (c.aim_turn.ensures.goes env n running) in
    subst (λ (d : Turns). Goes (on env n here d.line).site (above env n here (exited (turns_behind env n here d goes_on)) frames w) c.aim_turn.result after) c.deref-now.ensures (subst (λ (q : Ends Sig). Goes h.site q c.aim_turn.result after) (sym before) says)
