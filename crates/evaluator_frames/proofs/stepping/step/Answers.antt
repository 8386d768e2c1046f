use Rattle.std.proofs.Common.{sym, subst}
use Rattle.syntax_tree.specs.declared.expr.Expr.{Expr}
use Rattle.syntax_tree.specs.View.{tree_of}
use Rattle.evaluator_state.specs.View.{world_of, here_of}
use Rattle.evaluator_frames.specs.declared.frame.Control.{Control}
use Rattle.evaluator_frames.specs.Frames.{Goes, on, ex, aims_at, valued, aimed, control_line, above, machine_does}
use Rattle.evaluator_frames.proofs.stepping.step.Goals as goal

pub returns-in-Items-clause-goes : goal.returns-in-Items-clause-goes
returns-in-Items-clause-goes c = λ env n running.
    let here = here_of c.args.at.now c.args.at.now.line running in
    let w = world_of c.args.state.now in
    let frames = c.args.frames.now.items in
    let after = λ (control : Control). machine_does env n here control c.next_item.new.frames.items (world_of c.next_item.new.state) in
    subst (λ (k : Control). Goes (on env n here (control_line c.args.at.now.line k)).site (machine_does env n here k frames w) c.next_item.result after) (sym c.in-Items.is) (c.next_item.ensures.goes env n running)

pub returns-in-Entries-clause-goes : goal.returns-in-Entries-clause-goes
returns-in-Entries-clause-goes c = λ env n running.
    let here = here_of c.args.at.now c.args.at.now.line running in
    let w = world_of c.args.state.now in
    let frames = c.args.frames.now.items in
    let after = λ (control : Control). machine_does env n here control c.next_entry.new.frames.items (world_of c.next_entry.new.state) in
    subst (λ (k : Control). Goes (on env n here (control_line c.args.at.now.line k)).site (machine_does env n here k frames w) c.next_entry.result after) (sym c.in-Entries.is) (c.next_entry.ensures.goes env n running)

pub returns-in-Aims-clause-goes : goal.returns-in-Aims-clause-goes
returns-in-Aims-clause-goes c = λ env n running.
    let here = here_of c.args.at.now c.args.at.now.line running in
    let w = world_of c.args.state.now in
    let frames = c.args.frames.now.items in
    let after = λ (control : Control). machine_does env n here control c.next_aim.new.frames.items (world_of c.next_aim.new.state) in
    subst (λ (k : Control). Goes (on env n here (control_line c.args.at.now.line k)).site (machine_does env n here k frames w) c.next_aim.result after) (sym c.in-Aims.is) (c.next_aim.ensures.goes env n running)

pub returns-in-Suite-clause-goes : goal.returns-in-Suite-clause-goes
returns-in-Suite-clause-goes c = λ env n running.
    let here = here_of c.args.at.now c.args.at.now.line running in
    let w = world_of c.args.state.now in
    let frames = c.args.frames.now.items in
    let after = λ (control : Control). machine_does env n here control c.next_stmt.new.frames.items (world_of c.next_stmt.new.state) in
    subst (λ (k : Control). Goes (on env n here (control_line c.args.at.now.line k)).site (machine_does env n here k frames w) c.next_stmt.result after) (sym c.in-Suite.is) (c.next_stmt.ensures.goes env n running)

pub returns-in-Branches-clause-goes : goal.returns-in-Branches-clause-goes
returns-in-Branches-clause-goes c = λ env n running.
    let here = here_of c.args.at.now c.args.at.now.line running in
    let w = world_of c.args.state.now in
    let frames = c.args.frames.now.items in
    let after = λ (control : Control). machine_does env n here control c.next_branch.new.frames.items (world_of c.next_branch.new.state) in
    subst (λ (k : Control). Goes (on env n here (control_line c.args.at.now.line k)).site (machine_does env n here k frames w) c.next_branch.result after) (sym c.in-Branches.is) (c.next_branch.ensures.goes env n running)

pub returns-in-Turns-clause-goes : goal.returns-in-Turns-clause-goes
returns-in-Turns-clause-goes c = λ env n running.
    let here = here_of c.args.at.now c.args.at.now.line running in
    let w = world_of c.args.state.now in
    let frames = c.args.frames.now.items in
    let after = λ (control : Control). machine_does env n here control c.next_turn.new.frames.items (world_of c.next_turn.new.state) in
    subst (λ (k : Control). Goes (on env n here (control_line c.args.at.now.line k)).site (machine_does env n here k frames w) c.next_turn.result after) (sym c.in-Turns.is) (c.next_turn.ensures.goes env n running)

pub returns-in-Clauses-clause-goes : goal.returns-in-Clauses-clause-goes
returns-in-Clauses-clause-goes c = λ env n running.
    let here = here_of c.args.at.now c.args.at.now.line running in
    let w = world_of c.args.state.now in
    let frames = c.args.frames.now.items in
    let after = λ (control : Control). machine_does env n here control c.next_clause.new.frames.items (world_of c.next_clause.new.state) in
    subst (λ (k : Control). Goes (on env n here (control_line c.args.at.now.line k)).site (machine_does env n here k frames w) c.next_clause.result after) (sym c.in-Clauses.is) (c.next_clause.ensures.goes env n running)

pub returns-in-Gather-clause-goes : goal.returns-in-Gather-clause-goes
returns-in-Gather-clause-goes c = λ env n running.
    let here = here_of c.args.at.now c.args.at.now.line running in
    let w = world_of c.args.state.now in
    let frames = c.args.frames.now.items in
    let after = λ (control : Control). machine_does env n here control c.next_gather.new.frames.items (world_of c.next_gather.new.state) in
    subst (λ (k : Control). Goes (on env n here (control_line c.args.at.now.line k)).site (machine_does env n here k frames w) c.next_gather.result after) (sym c.in-Gather.is) (c.next_gather.ensures.goes env n running)

pub returns-in-Eval-clause-goes : goal.returns-in-Eval-clause-goes
returns-in-Eval-clause-goes c = λ env n running.
    let here = here_of c.args.at.now c.args.at.now.line running in
    let w = world_of c.args.state.now in
    let frames = c.args.frames.now.items in
    let after = λ (control : Control). machine_does env n here control c.begin.new.frames.items (world_of c.begin.new.state) in
    subst (λ (k : Control). Goes (on env n here (control_line c.args.at.now.line k)).site (machine_does env n here k frames w) c.begin.result after) (sym c.in-Eval.is) (subst (λ (d : Expr). Goes (on env n here c.in-Eval.line).site (above env n here (valued (ex env n here (tree_of d) c.in-Eval.line)) frames w) c.begin.result after) c.deref.ensures (c.begin.ensures.goes env n running))

pub returns-in-Aim-clause-goes : goal.returns-in-Aim-clause-goes
returns-in-Aim-clause-goes c = λ env n running.
    let here = here_of c.args.at.now c.args.at.now.line running in
    let w = world_of c.args.state.now in
    let frames = c.args.frames.now.items in
    let after = λ (control : Control). machine_does env n here control c.begin_aim.new.frames.items (world_of c.begin_aim.new.state) in
    subst (λ (k : Control). Goes (on env n here (control_line c.args.at.now.line k)).site (machine_does env n here k frames w) c.begin_aim.result after) (sym c.in-Aim.is) (subst (λ (d : Expr). Goes (on env n here c.in-Aim.line).site (above env n here (aimed (aims_at env n here (tree_of d) c.in-Aim.line)) frames w) c.begin_aim.result after) c.deref-in-Aim.ensures (c.begin_aim.ensures.goes env n running))

pub returns-in-Tops-clause-goes : goal.returns-in-Tops-clause-goes
returns-in-Tops-clause-goes c = λ env n running.
    let here = here_of c.args.at.now c.args.at.now.line running in
    let w = world_of c.args.state.now in
    let frames = c.args.frames.now.items in
    let after = λ (control : Control). machine_does env n here control c.next_top.new.frames.items (world_of c.next_top.new.state) in
    subst (λ (k : Control). Goes (on env n here (control_line c.args.at.now.line k)).site (machine_does env n here k frames w) c.next_top.result after) (sym c.in-Tops.is) (c.next_top.ensures.goes env n running)

pub returns-in-Defaults-clause-goes : goal.returns-in-Defaults-clause-goes
returns-in-Defaults-clause-goes c = λ env n running.
    let here = here_of c.args.at.now c.args.at.now.line running in
    let w = world_of c.args.state.now in
    let frames = c.args.frames.now.items in
    let after = λ (control : Control). machine_does env n here control c.next_default.new.frames.items (world_of c.next_default.new.state) in
    subst (λ (k : Control). Goes (on env n here (control_line c.args.at.now.line k)).site (machine_does env n here k frames w) c.next_default.result after) (sym c.in-Defaults.is) (c.next_default.ensures.goes env n running)
