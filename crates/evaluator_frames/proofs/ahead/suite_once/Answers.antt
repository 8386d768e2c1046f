use Rattle.std.proofs.Common.{◌≡◌, ◌<◌, ℕ, suc, ◌+◌, ◌∷◌, Bool, Ok, Err, Vec, Global, length, drop, drop-cons, get_or, add-one, vec_len, arith, ap, sym, subst, ◌∙◌}
use Rattle.std.specs.Arc.{arc_value}
use Rattle.syntax_tree.specs.Statements.{stmt_of}
use Rattle.syntax_tree.specs.declared.stmt.Stmt.{Stmt}
use Rattle.evaluator_semantics.specs.World.{ended}
use Rattle.evaluator_semantics.specs.Statements.{goes_on, exec}
use Rattle.evaluator_semantics.specs.Calls.{call}
use Rattle.evaluator_state.specs.View.{world_of, here_of}
use Rattle.evaluator_direct.specs.StatementResults.{Done, Costs, stmt_line}
use Rattle.evaluator_state.specs.declared.state.State.{State}
use Rattle.evaluator_frames.specs.Frames.{on, body, shared_suite, suite_from}
use Rattle.evaluator_frames.proofs.AtOnce.{first_done, first_stops, stopped_as, same_does}
use Rattle.evaluator_frames.proofs.ahead.suite_once.Goals as goal

pub returns-in-Err-clause-does : goal.returns-in-Err-clause-does
returns-in-Err-clause-does c = λ env n running.
    let here = here_of c.args.at.now c.args.at.now.line running in
    let all = arc_value c.args.ss.now in
    let k = c.loop-i.i in
    let st = c.index-stmt.result.now in
    let w = world_of c.loop-i.state in
    let lt : k < length all.items = omega (arith, all.ok.0, c.loop-i-test.true, c.len-i-end.ensures ∙ ap (λ (v : Vec Stmt Global). vec_len v) c.deref.ensures) in
    let stands : st ≡ get_or all.items k st = c.index-stmt.ensures ∙ ap (λ (v : Vec Stmt Global). get_or v.items k st) c.deref-in-loop-i.ensures in
    let first : drop k all.items ≡ st ∷ drop (k + 1) all.items = rw add-one (drop-cons all.items k st lt ∙ ap (λ (x : Stmt). x ∷ drop (suc k) all.items) (sym stands)) in
    let line = c.line_of.result in
    let u = world_of c.run.new.state in
    let m = exec env (call env n) (stmt_of st) here w in
    let stops : Done (on env n here line).site m (Err c.in-Err.halt) u = subst (λ (i : ℕ). Done (on env n here i).site m (Err c.in-Err.halt) u) (sym c.line_of.ensures) (c.in-Err.ensures.says env (call env n) running) in
    stopped_as env n here m (body env n here (shared_suite c.args.ss.now) (world_of c.args.state.now)) c.stopped.result line c.in-Err.halt u (world_of c.stopped.new.state) c.stopped.ensures.stops stops (λ code e. c.loop-i.invariant.0 env n running ∙ first_stops env n here w all.items st k (k + 1) first code (on env n here line).site e)

pub loop-i-preserved : goal.loop-i-preserved
loop-i-preserved c = (
  λ env n running.
      let here = here_of c.args.at.now c.args.at.now.line running in
      let all = arc_value c.args.ss.now in
      let k = c.loop-i.i in
      let st = c.index-stmt.result.now in
      let w = world_of c.loop-i.state in
      let lt : k < length all.items = omega (arith, all.ok.0, c.loop-i-test.true, c.len-i-end.ensures ∙ ap (λ (v : Vec Stmt Global). vec_len v) c.deref.ensures) in
      let stands : st ≡ get_or all.items k st = c.index-stmt.ensures ∙ ap (λ (v : Vec Stmt Global). get_or v.items k st) c.deref-in-loop-i.ensures in
      let first : drop k all.items ≡ st ∷ drop (k + 1) all.items = rw add-one (drop-cons all.items k st lt ∙ ap (λ (x : Stmt). x ∷ drop (suc k) all.items) (sym stands)) in
      let u = world_of c.run.new.state in
      let does = exec env (call env n) (stmt_of st) here w in
      let done : does ≡ ended goes_on u = subst (λ (b : Bool). Done (on env n here (stmt_line (stmt_of st))).site does (Ok b) u) c.in-Ok-true.field-0-test (c.in-Ok-true.ensures.says env (call env n) running) in
      c.loop-i.invariant.0 env n running ∙ first_done env n here w all.items st k (k + 1) first u done,
  omega (arith, c.loop-i.invariant.1, subst (λ (b : Bool). Costs (Ok b) c.loop-i.state c.run.new.state) c.in-Ok-true.field-0-test c.in-Ok-true.ensures.costs),
)

pub returns-in-Ok-false-clause-does : goal.returns-in-Ok-false-clause-does
returns-in-Ok-false-clause-does c = λ env n running.
    let here = here_of c.args.at.now c.args.at.now.line running in
    let from = suite_from c.loop-i.i c.args.ss.now in
    let same : c.run.new.state ≡ c.loop-i.state = subst (λ (b : Bool). Costs (Ok b) c.loop-i.state c.run.new.state) c.in-Ok-false.field-0-test c.in-Ok-false.ensures.costs in
    same_does env n here (body env n here (shared_suite c.args.ss.now) (world_of c.args.state.now)) (body env n here from (world_of c.run.new.state)) c.end_once.result (world_of c.end_once.new.state) (c.loop-i.invariant.0 env n running ∙ ap (λ (z : State). body env n here from (world_of z)) (sym same)) (c.end_once.ensures.does env n running)
