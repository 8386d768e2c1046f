use Rattle.std.proofs.Common.{◌≡◌, ℕ, List, Option, map, Err, ap, sym, subst, ◌∙◌}
use Rattle.values_heap.specs.View.{store_of}
use Rattle.syntax_tree.specs.Statements.{load_of}
use Rattle.syntax_tree.specs.declared.def.LoadStmt.{LoadStmt}
use Rattle.evaluator_state.specs.declared.state.State.{State}
use Rattle.evaluator_semantics.specs.World.{World, Ends, at_line, then_runs}
use Rattle.evaluator_semantics.specs.Files.{leading, loads}
use Rattle.evaluator_state.specs.View.{world_of, here_of, Ran}
use Rattle.evaluator.specs.Files.{Opened}
use Rattle.evaluator.proofs.FileStarts.{tick_goes, tick_stops, opened_stops}
use Rattle.evaluator.proofs.running.open_file.Goals.{in-Some+in_default-tick, in_default}
use Rattle.evaluator.proofs.running.open_file.Goals as goal

pub returns-in-Err : goal.returns-in-Err
returns-in-Err c = λ running.
    let at = c.args.at.now in
    let here = here_of at at.line running in
    let w = world_of c.args.state.now in
    let s = store_of c.tick.new.heap in
    let u : World = record w { store = s } in
    let rest = loads (map load_of c.args.file.now.loads.items) c.args.modules.now here in
    let line = c.in-Some.line in
    let out = λ (o : Option ℕ). then_runs (leading o here w) (λ _. rest) in
    opened_stops (out c.args.file.now.leading) at.path line c.in-Err.halt c.stop_in.result u u (subst (λ (o : Option ℕ). Ran {A = Unit {0}} (at_line line here).site (out o) (Err c.in-Err.halt) u) (sym c.in-Some.is) (tick_stops (at_line line here) w u s rest c.in-Err.halt c.in-Err.ensures.says)) c.stop_in.ensures

pub returns : goal.returns
returns c = λ running.
    let at = c.args.at.now in
    let here = here_of at at.line running in
    let w = world_of c.args.state.now in
    let z = world_of c.bind_loads.new.state in
    let rest = loads (map load_of c.args.file.now.loads.items) c.args.modules.now here in
    let out = λ (o : Option ℕ). then_runs (leading o here w) (λ _. rest) in
    let ran = subst (λ (l : List LoadStmt). Opened (loads (map load_of l) c.args.modules.now here (world_of c.match-file.state)) c.bind_loads.result z) c.as_slice.ensures.value (c.bind_loads.ensures running) in
    elim c.match-file.branch [
      | in-Some+in_default-tick b ↦
          let s = store_of b.tick.new.heap in
          let line = b.in-Some.line in
          let went : out c.args.file.now.leading ≡ rest (record w { store = s }) = ap out b.in-Some.is ∙ tick_goes (at_line line here) w s rest b.in_default-tick.ensures.says in
          subst (λ (o : Ends (Unit {0})). Opened o c.bind_loads.result z) (ap (λ (t : State). rest (world_of t)) b.state-is ∙ sym went) ran
      | in_default b ↦ subst (λ (o : Ends (Unit {0})). Opened o c.bind_loads.result z) (ap (λ (t : State). rest (world_of t)) b.state-is ∙ sym (ap out b.in_default.is)) ran
    ]
