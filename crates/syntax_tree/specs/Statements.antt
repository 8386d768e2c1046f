-- The plain tree that a statement, a function or a file in memory is.
use Rattle.std.specs.Prelude.{map}
use Rattle.std.specs.Arc.{arc_value}
pub use Rattle.syntax_tree.specs.Suites.{suite_of, branches_of, stmt_step, branch_step, stmt_of, branch_of, stmts_of, branch_trees, param_of}
use Rattle.syntax_tree.specs.Tree.{Fn, Tp, It, Ld, Fi, stmt, def}
use Rattle.syntax_tree.specs.declared.def.Def.{Def}
use Rattle.syntax_tree.specs.declared.def.Top.{Top}
use Rattle.syntax_tree.specs.declared.def.Top.TheVariants as tops
use Rattle.syntax_tree.specs.declared.def.LoadItem.{LoadItem}
use Rattle.syntax_tree.specs.declared.def.LoadStmt.{LoadStmt}
use Rattle.syntax_tree.specs.declared.def.File.{File}

abbrev pub fn_of : Def → Fn
fn_of d = record { line = d.line; name = d.name; params = map param_of d.params.items; body = stmts_of (arc_value d.body).items }

abbrev pub top_of : Top → Tp
top_of (tops.Stmt s) = stmt (stmt_of s)
top_of (tops.Def d) = def (fn_of (arc_value d))

abbrev pub item_of : LoadItem → It
item_of i = record { local = i.local; exported = i.exported }

abbrev pub load_of : LoadStmt → Ld
load_of l = record { line = l.line; label = l.label; items = map item_of l.items.items }

abbrev pub file_of : File → Fi
file_of f = record { leading = f.leading; loads = map load_of f.loads.items; tops = map top_of f.tops.items }
