use Rattle.std.proofs.Common.{sym, subst}
use Rattle.evaluator_state.specs.View.{world_of}
use Rattle.evaluator_calls.specs.View.{running_of}
use Rattle.evaluator_frames.specs.declared.frame.Control.{Control}
use Rattle.evaluator_frames.specs.Frames.{Goes, on, control_line, machine_does}
use Rattle.evaluator.specs.Machines.{means, here_in}
use Rattle.evaluator.proofs.TurnParts.{within, nothing_moves}
use Rattle.evaluator.proofs.turning.act.Goals as goal

pub returns-in-First-clause-goes : goal.returns-in-First-clause-goes
returns-in-First-clause-goes c = λ env.
    let m = c.args.m.now in
    let here = here_in m in
    let after = λ (next : Control). machine_does env m.left here next c.begin_block.new.frames.items (world_of c.begin_block.new.state) in
    subst (λ (k : Control). Goes (on env m.left here (control_line m.at.line k)).site (means env m k) c.begin_block.result after) (sym c.in-First.is) (c.begin_block.ensures.goes env m.left here)

pub returns-in-Builtin-clause-goes : goal.returns-in-Builtin-clause-goes
returns-in-Builtin-clause-goes c = λ env.
    let m = c.args.m.now in
    let here = here_in m in
    let after = λ (next : Control). machine_does env m.left here next m.frames.items (world_of c.built_in.new.state) in
    subst (λ (k : Control). Goes (on env m.left here (control_line m.at.line k)).site (means env m k) c.built_in.result after) (sym c.in-Builtin.is) (c.built_in.ensures.goes env m.left here m.frames.items)

pub returns-in-Method-clause-goes : goal.returns-in-Method-clause-goes
returns-in-Method-clause-goes c = λ env.
    let m = c.args.m.now in
    let here = here_in m in
    let after = λ (next : Control). machine_does env m.left here next m.frames.items (world_of c.of_value.new.state) in
    subst (λ (k : Control). Goes (on env m.left here (control_line m.at.line k)).site (means env m k) c.of_value.result after) (sym c.in-Method.is) (c.of_value.ensures.goes env m.left here m.frames.items)

pub returns-in-Add-clause-goes : goal.returns-in-Add-clause-goes
returns-in-Add-clause-goes c = λ env.
    let m = c.args.m.now in
    let here = here_in m in
    let after = λ (next : Control). machine_does env m.left here next m.frames.items (world_of c.added.new.state) in
    subst (λ (k : Control). Goes (on env m.left here (control_line m.at.line k)).site (means env m k) c.added.result after) (sym c.in-Add.is) (c.added.ensures.goes env m.left (running_of m.running.items) m.frames.items)

pub returns-in-Define-clause-goes : goal.returns-in-Define-clause-goes
returns-in-Define-clause-goes c = λ env.
    let m = c.args.m.now in
    let here = here_in m in
    let after = λ (next : Control). machine_does env m.left here next m.frames.items (world_of c.define.new.state) in
    subst (λ (k : Control). Goes (on env m.left here (control_line m.at.line k)).site (means env m k) c.define.result after) (sym c.in-Define.is) (c.define.ensures.goes env m.left (running_of m.running.items) m.frames.items)

pub returns-in_default : goal.returns-in_default
returns-in_default c = record {
  goes = λ env. c.go_on.ensures.goes env c.args.m.now.left (running_of c.args.m.now.running.items);
  falls = λ acting.
      let k = c.in_default in
      c.go_on.ensures.lighter (within c.args.control acting k.not-First k.not-Builtin k.not-Method k.not-Add k.not-Define);
  stands = nothing_moves c.go_on.result c.args.m.now.at;
}
