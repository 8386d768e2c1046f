use Rattle.std.proofs.Common.{ℕ, Bool, Ok, Err, sym, subst}
use Rattle.syntax_tree.specs.Statements.{stmt_of}
use Rattle.evaluator_semantics.specs.Statements.{exec}
use Rattle.evaluator_semantics.specs.Calls.{call}
use Rattle.evaluator_state.specs.View.{world_of, here_of}
use Rattle.evaluator_direct.specs.StatementResults.{Done, stmt_line}
use Rattle.evaluator_frames.specs.Frames.{on}
use Rattle.evaluator_frames.proofs.AtOnce.{stopped_as}
use Rattle.evaluator_frames.proofs.ahead.once.Goals as goal

pub returns-in-Ok-true-clause-does : goal.returns-in-Ok-true-clause-does
returns-in-Ok-true-clause-does c = λ env n running.
    let here = here_of c.args.at.now c.args.at.now.line running in
    let st = stmt_of c.args.stmt.now in
    let does = exec env (call env n) st here (world_of c.args.state.now) in
    subst (λ (b : Bool). Done (on env n here (stmt_line st)).site does (Ok b) (world_of c.run.new.state)) c.in-Ok-true.field-0-test (c.in-Ok-true.ensures.says env (call env n) running)

pub returns-in-Err-clause-does : goal.returns-in-Err-clause-does
returns-in-Err-clause-does c = λ env n running.
    let here = here_of c.args.at.now c.args.at.now.line running in
    let does = exec env (call env n) (stmt_of c.args.stmt.now) here (world_of c.args.state.now) in
    let u = world_of c.run.new.state in
    let line = c.line_of.result in
    let stops : Done (on env n here line).site does (Err c.in-Err.halt) u = subst (λ (i : ℕ). Done (on env n here i).site does (Err c.in-Err.halt) u) (sym c.line_of.ensures) (c.in-Err.ensures.says env (call env n) running) in
    stopped_as env n here does does c.stopped.result line c.in-Err.halt u (world_of c.stopped.new.state) c.stopped.ensures.stops stops (λ code e. e)
