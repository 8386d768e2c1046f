use Rattle.std.proofs.Common.{◌≤◌, length, Vec, Global, vec_len, arith, ap, ◌∙◌}
use Rattle.std.specs.Arc.{arc_value}
use Rattle.syntax_tree.specs.declared.stmt.Stmt.{Stmt}
use Rattle.evaluator_semantics.specs.World.{then_runs}
use Rattle.evaluator_frames.specs.Frames.{stack_does}
use Rattle.evaluator_frames.proofs.Exits.{no_rest}
use Rattle.evaluator_frames.proofs.leaving.rest_above.Goals as goal

pub returns-then-next-len-clause-ok : goal.returns-then-next-len-clause-ok
returns-then-next-len-clause-ok c = λ env n here m.
    let all = arc_value c.args.ss.now in
    let le : length all.items ≤ c.args.next = omega (arith, all.ok.0, c.if-next-len.true, c.len.ensures ∙ ap (λ (v : Vec Stmt Global). vec_len v) c.deref.ensures) in
    ap (λ q. then_runs q (stack_does env n here c.args.frames.now.items)) (no_rest env n here c.args.ss.now c.args.next m le)
