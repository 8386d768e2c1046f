use Rattle.std.proofs.Common.{◌≡◌, ℕ, ◌<◌, ◌+◌, ◌∷◌, List, suc, length, drop, map, drop-cons, get_or, add-one, vec_len, arith, ap, sym, subst, ◌∙◌}
use Rattle.std.specs.Arc.{arc_value}
use Rattle.syntax_tree.specs.Tree as t
use Rattle.syntax_tree.specs.Tree.{Tp}
use Rattle.syntax_tree.specs.declared.def.Top.{Top}
use Rattle.syntax_tree.specs.declared.def.File.{File}
use Rattle.syntax_tree.specs.Statements.{stmt_of, top_of}
use Rattle.evaluator_semantics.specs.World.{Ends}
use Rattle.evaluator_state.specs.View.{world_of, here_of}
use Rattle.evaluator_frames.specs.declared.frame.Control.{Control}
use Rattle.evaluator_frames.specs.declared.frame.Control.TheVariants.{Tops}
use Rattle.evaluator_frames.specs.Frames.{Sig, Goes, on, machine_does, stack_does, tops_line, tops_at}
use Rattle.evaluator_frames.proofs.FileLevel.{top_begins}
use Rattle.evaluator_frames.proofs.tops.next_top.Goals as goal

pub returns-in-Stmt-clause-goes : goal.returns-in-Stmt-clause-goes
returns-in-Stmt-clause-goes c = λ env n running.
    let here = here_of c.args.at.now c.args.at.now.line running in
    let file = arc_value c.args.file in
    let all = file.tops in
    let k = c.args.next in
    let top = c.index.result.now in
    let st = c.in-Stmt.stmt in
    let w = world_of c.args.state.now in
    let frames = c.args.frames.now.items in
    let len : c.len.result ≡ vec_len all = c.len.ensures ∙ ap (λ (f : File). vec_len f.tops) c.deref.ensures in
    let lt : k < length all.items = omega (arith, all.ok.0, len, c.if-next-len.false) in
    let stands : top ≡ get_or all.items k top = c.index.ensures ∙ ap (λ (f : File). get_or f.tops.items k top) c.deref-2.ensures in
    let first : drop k all.items ≡ top ∷ drop (k + 1) all.items = rw add-one (drop-cons all.items k top lt ∙ ap (λ (x : Top). x ∷ drop (suc k) all.items) (sym stands)) in
    let trees : map top_of (drop k all.items) ≡ t.stmt (stmt_of st) ∷ map top_of (drop (k + 1) all.items) = ap (λ (l : List Top). map top_of l) first ∙ ap (λ (x : Top). top_of x ∷ map top_of (drop (k + 1) all.items)) c.in-Stmt.is in
    let line : c.line_of.result ≡ tops_line (tops_at k c.args.file) = c.line_of.ensures ∙ sym (ap (λ (l : List Tp). tops_line l) trees) in
    let before = top_begins env n here frames w file (arc_value c.in_ok-again.again) st k (k + 1) (stack_does env n here c.push.new.frames.items) trees c.in_ok-again.ensures (c.in_ok-push.ensures.ok env n here) in
    let after = λ (control : Control). machine_does env n here control c.begin_stmt.new.frames.items (world_of c.begin_stmt.new.state) in
    let goes = subst (λ (o : Ends Sig). Goes (on env n here c.line_of.result).site o c.begin_stmt.result after) (sym before) (c.begin_stmt.ensures.goes env n running) in
    subst (λ (i : ℕ). Goes (on env n here i).site (machine_does env n here (Tops c.args.file c.args.next) frames w) c.begin_stmt.result after) line goes
