use Rattle.std.proofs.Common.{◌≡◌, ◌<◌, suc, ◌+◌, ◌∷◌, Vec, Global, length, drop, drop-cons, get_or, add-one, vec_len, arith, refl, ap, sym, subst, ◌∙◌}
use Rattle.std.specs.Arc.{arc_value}
use Rattle.syntax_tree.specs.Statements.{stmt_of}
use Rattle.syntax_tree.specs.declared.stmt.Stmt.{Stmt}
use Rattle.evaluator_semantics.specs.Statements.{exec}
use Rattle.evaluator_semantics.specs.Calls.{call}
use Rattle.evaluator_state.specs.View.{world_of, here_of}
use Rattle.evaluator_frames.specs.Frames.{on}
use Rattle.evaluator_frames.specs.declared.frame.Once.{Once}
use Rattle.evaluator_frames.specs.Ahead.{OnceDoes, OnceCosts, exited_as}
use Rattle.evaluator_frames.proofs.AtOnce.{first_done, first_stops, first_begun}
use Rattle.evaluator_frames.proofs.ahead.ahead.Goals as goal

pub returns-in-Ok-Begun-clause-leads : goal.returns-in-Ok-Begun-clause-leads
returns-in-Ok-Begun-clause-leads c = λ env n running.
    let here = here_of c.args.at.now c.args.at.now.line running in
    let all = arc_value c.args.ss.now in
    let k = c.loop-i.i in
    let st = c.index-stmt.result.now in
    let w = world_of c.loop-i.state in
    let lt : k < length all.items = omega (arith, all.ok.0, c.loop-i-test.true, c.len-i-end.ensures ∙ ap (λ (v : Vec Stmt Global). vec_len v) c.deref.ensures) in
    let stands : st ≡ get_or all.items k st = c.index-stmt.ensures ∙ ap (λ (v : Vec Stmt Global). get_or v.items k st) c.deref-in-loop-i.ensures in
    let first : drop k all.items ≡ st ∷ drop (k + 1) all.items = rw add-one (drop-cons all.items k st lt ∙ ap (λ (x : Stmt). x ∷ drop (suc k) all.items) (sym stands)) in
    let u = world_of c.once.new.state in
    ap exited_as (c.loop-i.invariant.0 env n running) ∙ first_begun env n here w all.items st k (k + 1) first c.args.ss.now c.in-Ok-Begun.control u refl (subst (λ (o : Once). OnceDoes env n here (exec env (call env n) (stmt_of st) here w) o u) c.in-Ok-Begun.field-0-is (c.in-Ok-Begun.ensures.does env n running))

pub returns-in-Ok-Faulty-clause-leads : goal.returns-in-Ok-Faulty-clause-leads
returns-in-Ok-Faulty-clause-leads c = λ env n running.
    let here = here_of c.args.at.now c.args.at.now.line running in
    let all = arc_value c.args.ss.now in
    let k = c.loop-i.i in
    let st = c.index-stmt.result.now in
    let w = world_of c.loop-i.state in
    let lt : k < length all.items = omega (arith, all.ok.0, c.loop-i-test.true, c.len-i-end.ensures ∙ ap (λ (v : Vec Stmt Global). vec_len v) c.deref.ensures) in
    let stands : st ≡ get_or all.items k st = c.index-stmt.ensures ∙ ap (λ (v : Vec Stmt Global). get_or v.items k st) c.deref-in-loop-i.ensures in
    let first : drop k all.items ≡ st ∷ drop (k + 1) all.items = rw add-one (drop-cons all.items k st lt ∙ ap (λ (x : Stmt). x ∷ drop (suc k) all.items) (sym stands)) in
    c.loop-i.invariant.0 env n running ∙ first_stops env n here w all.items st k (k + 1) first c.in-Ok-Faulty.code (on env n here c.in-Ok-Faulty.line).site (subst (λ (o : Once). OnceDoes env n here (exec env (call env n) (stmt_of st) here w) o (world_of c.once.new.state)) c.in-Ok-Faulty.field-0-is (c.in-Ok-Faulty.ensures.does env n running))

pub loop-i-preserved : goal.loop-i-preserved
loop-i-preserved c =
    let less = subst (λ (o : Once). OnceCosts o c.loop-i.state c.once.new.state) c.in-Ok-Done.field-0-is c.in-Ok-Done.ensures.costs in (
      λ env n running.
          let here = here_of c.args.at.now c.args.at.now.line running in
          let all = arc_value c.args.ss.now in
          let k = c.loop-i.i in
          let st = c.index-stmt.result.now in
          let w = world_of c.loop-i.state in
          let lt : k < length all.items = omega (arith, all.ok.0, c.loop-i-test.true, c.len-i-end.ensures ∙ ap (λ (v : Vec Stmt Global). vec_len v) c.deref.ensures) in
          let stands : st ≡ get_or all.items k st = c.index-stmt.ensures ∙ ap (λ (v : Vec Stmt Global). get_or v.items k st) c.deref-in-loop-i.ensures in
          let first : drop k all.items ≡ st ∷ drop (k + 1) all.items = rw add-one (drop-cons all.items k st lt ∙ ap (λ (x : Stmt). x ∷ drop (suc k) all.items) (sym stands)) in
          let u = world_of c.once.new.state in
          c.loop-i.invariant.0 env n running ∙ first_done env n here w all.items st k (k + 1) first u (subst (λ (o : Once). OnceDoes env n here (exec env (call env n) (stmt_of st) here w) o u) c.in-Ok-Done.field-0-is (c.in-Ok-Done.ensures.does env n running)),
      (omega (arith, c.loop-i.invariant.1.0, less), λ _. omega (arith, c.loop-i.invariant.1.0, less)),
    )
