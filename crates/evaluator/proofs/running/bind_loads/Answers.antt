use Rattle.std.proofs.Common.{◌≡◌, map, Err, subst, ◌∙◌, arith}
use Rattle.values_modules.specs.Values.{Body}
use Rattle.syntax_tree.specs.Statements.{load_of}
use Rattle.evaluator_semantics.specs.World.{ended, at_line}
use Rattle.evaluator_semantics.specs.Files.{loads}
use Rattle.evaluator_state.specs.View.{world_of, here_of, Ran}
use Rattle.evaluator.specs.Files.{load_does}
use Rattle.evaluator.proofs.FileStarts.{opened_stops, load_moves, load_fails, next_of}
use Rattle.evaluator.proofs.running.bind_loads.Goals as goal

pub returns-in-Err : goal.returns-in-Err
returns-in-Err c = λ running.
    let at = c.args.at.now in
    let here = here_of at at.line running in
    let i = c.loop-i.i in
    let statements = c.args.statements.now in
    let modules = c.args.modules.now in
    let l = c.index-statements-i.result in
    let m = c.in-Some.loaded.now in
    let w = world_of c.loop-i.state in
    let u = world_of c.bind_load.new.state in
    let halt = c.in-Err.halt in
    let is_l = next_of i statements l l c.loop-i-test.true c.index-statements-i.is in
    let is_m = next_of i modules m m c.in-Some.ensures.lookup.3.0 (c.in-Some.ensures.lookup.4 (omega arith) m) in
    let out = loads (map load_of statements) modules here (world_of c.args.state.now) in
    let ran = subst (λ (b : Body). Ran {A = Unit {0}} (at_line l.line here).site (load_does b (load_of l) here w) (Err halt) u) c.body.ensures (c.in-Err.ensures at.line running) in
    opened_stops out at.path l.line halt c.stop_in-in-Err.result u u (load_fails i statements modules here w l m is_l is_m out u halt (c.loop-i.invariant running) ran) c.stop_in-in-Err.ensures

pub loop-i-preserved : goal.loop-i-preserved
loop-i-preserved c = λ running.
    let at = c.args.at.now in
    let here = here_of at at.line running in
    let i = c.loop-i.i in
    let statements = c.args.statements.now in
    let modules = c.args.modules.now in
    let l = c.index-statements-i.result in
    let m = c.in-Some.loaded.now in
    let w = world_of c.loop-i.state in
    let u = world_of c.bind_load.new.state in
    let is_l = next_of i statements l l c.loop-i-test.true c.index-statements-i.is in
    let is_m = next_of i modules m m c.in-Some.ensures.lookup.3.0 (c.in-Some.ensures.lookup.4 (omega arith) m) in
    let ran : load_does m.body (load_of l) here w ≡ ended tt u = subst (λ (b : Body). load_does b (load_of l) here w ≡ ended tt u) c.body.ensures (c.in_default-bind_load.ensures at.line running) in
    load_moves i statements modules here w l m is_l is_m u ran ∙ c.loop-i.invariant running
