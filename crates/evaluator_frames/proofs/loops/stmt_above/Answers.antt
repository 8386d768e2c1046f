use Rattle.std.proofs.Common.{◌≡◌, ℕ, ◌<◌, ◌+◌, ◌∷◌, List, Vec, Global, suc, length, drop, drop-cons, get_or, add-one, refl, ap, sym, subst, ◌∙◌}
use Rattle.std.specs.Arc.{arc_value}
use Rattle.syntax_tree.specs.declared.stmt.Stmt.{Stmt}
use Rattle.syntax_tree.specs.Statements.{stmt_of, stmts_of}
use Rattle.evaluator_semantics.specs.World.{Ends, then_runs}
use Rattle.evaluator_semantics.specs.Statements.{exec}
use Rattle.evaluator_semantics.specs.Calls.{call}
use Rattle.evaluator_state.specs.View.{world_of, here_of}
use Rattle.evaluator_frames.specs.declared.frame.Control.{Control}
use Rattle.evaluator_frames.specs.declared.frame.Control.TheVariants.{Suite}
use Rattle.evaluator_frames.specs.Frames.{Sig, Goes, on, machine_does, stack_does, suite_line, suite_from}
use Rattle.evaluator_frames.specs.Ahead.{exited_as}
use Rattle.evaluator_frames.proofs.AtOnce.{first_exits}
use Rattle.evaluator_frames.proofs.loops.stmt_above.Goals as goal

pub returns-clause-goes : goal.returns-clause-goes
returns-clause-goes c = λ env n running.
    let here = here_of c.args.at.now c.args.at.now.line running in
    let all = arc_value c.args.ss in
    let k = c.args.next in
    let st = c.index-stmt.result.now in
    let w = world_of c.args.state.now in
    let frames = c.args.frames.now.items in
    let lt : k < length all.items = c.requires in
    let stands : st ≡ get_or all.items k st = c.index-stmt.ensures ∙ ap (λ (v : Vec Stmt Global). get_or v.items k st) c.deref.ensures in
    let first : drop k all.items ≡ st ∷ drop (k + 1) all.items = rw add-one (drop-cons all.items k st lt ∙ ap (λ (x : Stmt). x ∷ drop (suc k) all.items) (sym stands)) in
    let line : c.line_of-line.result ≡ suite_line (suite_from k c.args.ss) = c.line_of-line.ensures ∙ sym (ap (λ (l : List Stmt). suite_line (stmts_of l)) first) in
    let before = ap (λ q. then_runs q (stack_does env n here frames)) (first_exits env n here w all.items st k (k + 1) first c.args.ss refl)
    ∙ c.in_default.ensures.ok env n here (exited_as (exec env (call env n) (stmt_of st) here w)) in
    let after = λ (control : Control). machine_does env n here control c.begin_stmt.new.frames.items (world_of c.begin_stmt.new.state) in
    let goes = subst (λ (o : Ends Sig). Goes (on env n here c.line_of-line.result).site o c.begin_stmt.result after) (sym before) (c.begin_stmt.ensures.goes env n running) in
    subst (λ (i : ℕ). Goes (on env n here i).site (machine_does env n here (Suite c.args.ss c.args.next) frames w) c.begin_stmt.result after) line goes
