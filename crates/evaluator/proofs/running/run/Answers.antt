use Rattle.std.proofs.Common.{List, [], refl, ap, ◌∙◌, Ok, Err}
use Rattle.syntax_tree.specs.Statements.{file_of}
use Rattle.evaluator_calls.specs.declared.functions.ActiveCall.{ActiveCall}
use Rattle.evaluator_calls.specs.View.{running_of}
use Rattle.evaluator_state.specs.declared.state.Position.{Position}
use Rattle.evaluator_state.specs.View.{world_of, here_of}
use Rattle.evaluator.specs.declared.machine.Machine.{Machine}
use Rattle.evaluator.specs.Machines.{env_of}
use Rattle.evaluator.proofs.Ending.{level_of}
use Rattle.evaluator.proofs.FileEvaluation.{opens_same, opens_faulty, stop_evaluates, stands_first}
use Rattle.evaluator.proofs.running.run.Goals as goal

pub returns-in-Err : goal.returns-in-Err
returns-in-Err c =
    let e = c.args.environment in
    let u = world_of c.open_file.new.state in
    let opened = opens_same e (file_of c.deref.result.now) c.as_slice-loads.result.now c.in_ok-at.at (world_of c.in_ok-state.state) (Err c.in-Err.stop) u (ap file_of c.deref.ensures) c.as_slice-loads.ensures.value c.in_ok-at.ensures c.in_ok-state.ensures (c.in-Err.ensures []) in
    stop_evaluates (env_of e) c.in-Err.stop c.stopped.result (opens_faulty (env_of e) c.in-Err.stop u opened) c.stopped.ensures

pub go_on-requires : goal.go_on-requires
go_on-requires c =
    let e = c.args.environment in
    let env = env_of e in
    let at = c.in_ok-at.at in
    let u = world_of c.open_file.new.state in
    let opened = opens_same e (file_of c.deref.result.now) c.as_slice-loads.result.now at (world_of c.in_ok-state.state) (Ok tt) u (ap file_of c.deref.ensures) c.as_slice-loads.ensures.value c.in_ok-at.ensures c.in_ok-state.ensures (c.in_default.ensures []) in
    let running = c.new-2.result in
    let m : Machine = record { state = c.open_file.new.state; frames = c.new.result; at = at; running = running; left = 64 } in
    let here = ap (λ (s : Position). here_of s s.line (running_of running.items)) c.in_ok-at.ensures ∙ ap (λ (l : List ActiveCall). here_of (level_of env) 0 (running_of l)) c.new-2.ensures.items in
    record { stands = stands_first e m c.in_ok-file.file c.in_ok-file.ensures refl c.new.ensures.items here opened; tables = c.in_ok-tables.ensures }
