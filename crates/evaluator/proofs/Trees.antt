-- A syntax tree may go to another thread, and several threads may read it. The types of expressions hold one another, and so do those of statements:
-- each of the two rings is shown once here, and the types above cite it.
use denote.Param.Send.{IsSend, IsSync, sendable}
use Rattle.std.proofs.Crossing.{crosses, frees}
use Rattle.std.proofs.alloc.Global.TheSendSync as GlobalSends
use Rattle.std.proofs.hash.BuildHasherDefault.TheSendSync as BuilderSends
use Rattle.std.proofs.hash.FoldHasher.TheSendSync as HasherSends
use Rattle.std.specs.contracts.alloc.Global
use Rattle.std.specs.contracts.hash.BuildHasherDefault as Builder
use Rattle.std.specs.contracts.hash.FoldHasher as Hasher
use Rattle.std.specs.contracts.impls.GlobalAllocator.TheImpl as Heap
use Rattle.indexmap.proofs.set.IndexSet.TheSendSync as IndexSetSends
use Rattle.indexmap.specs.contracts.set.IndexSet
use Rattle.base_types.proofs.text.Text.TheSendSync as TextSends
use Rattle.base_types.specs.contracts.text.Text
use Rattle.syntax_tree.proofs.expr.Clause.TheLaws.TheKnot as expressions
use Rattle.syntax_tree.proofs.stmt.Stmt.TheLaws.TheKnot as statements
use Rattle.syntax_tree.specs.contracts.expr.Expr as Expr
use Rattle.syntax_tree.specs.contracts.expr.Clause as Clause
use Rattle.syntax_tree.specs.contracts.stmt.Stmt as Stmt
use Rattle.syntax_tree.specs.contracts.stmt.Branch as Branch
use Rattle.syntax_tree.specs.contracts.def.Def as Def
use Rattle.syntax_tree.specs.contracts.def.Top as Top
use Rattle.syntax_tree.specs.contracts.def.File as File

pub expr_send : IsSend Expr.the_row
expr_send = search (crosses, expressions.crosses_both, sendable) depth 60 fits 20000

pub expr_sync : IsSync Expr.the_row
expr_sync = search (crosses, expressions.crosses_both, sendable) depth 60 fits 20000

pub clause_send : IsSend Clause.the_row
clause_send = search (crosses, expressions.crosses_both, sendable) depth 60 fits 20000

pub clause_sync : IsSync Clause.the_row
clause_sync = search (crosses, expressions.crosses_both, sendable) depth 60 fits 20000

pub ruleset expressions_cross = (expr_send, expr_sync, clause_send, clause_sync, crosses, sendable)

pub stmt_send : IsSend Stmt.the_row
stmt_send = search (expressions_cross, statements.crosses_both) depth 60 fits 20000

pub stmt_sync : IsSync Stmt.the_row
stmt_sync = search (expressions_cross, statements.crosses_both) depth 60 fits 20000

pub branch_send : IsSend Branch.the_row
branch_send = search (expressions_cross, statements.crosses_both) depth 60 fits 20000

pub branch_sync : IsSync Branch.the_row
branch_sync = search (expressions_cross, statements.crosses_both) depth 60 fits 20000

stmt_field_send : IsSend (Stmt.the_field).row
stmt_field_send = search (expressions_cross, statements.crosses_both) depth 60 fits 20000

stmt_field_sync : IsSync (Stmt.the_field).row
stmt_field_sync = search (expressions_cross, statements.crosses_both) depth 60 fits 20000

pub ruleset statements_cross = (stmt_send, stmt_sync, branch_send, branch_sync, expressions_cross)

-- a set of names, with any laws of hashing, which no search could find
index_send : (e : _) (h : _) (b : _) (w : _) → IsSend (IndexSet.the_row Text.the_row (Builder.the_row Hasher.the_row) Global.the_row Hasher.the_row e h b w Heap.ghosts)
index_send e h b w = IndexSetSends.the_send _ _ _ Hasher.the_row _ _ _ _ _ TextSends.the_send (BuilderSends.the_send Hasher.the_row HasherSends.the_send) GlobalSends.the_send frees

index_sync : (e : _) (h : _) (b : _) (w : _) → IsSync (IndexSet.the_row Text.the_row (Builder.the_row Hasher.the_row) Global.the_row Hasher.the_row e h b w Heap.ghosts)
index_sync e h b w = IndexSetSends.the_sync _ _ _ Hasher.the_row _ _ _ _ Heap.ghosts TextSends.the_sync (BuilderSends.the_sync Hasher.the_row HasherSends.the_sync) GlobalSends.the_sync

pub def_send : IsSend Def.the_row
def_send = search (index_send, statements_cross) depth 60 fits 20000

pub def_sync : IsSync Def.the_row
def_sync = search (index_sync, statements_cross) depth 60 fits 20000

pub top_send : IsSend Top.the_row
top_send = search (stmt_field_send, def_send, def_sync, statements_cross) depth 60 fits 20000

pub top_sync : IsSync Top.the_row
top_sync = search (stmt_field_sync, def_send, def_sync, statements_cross) depth 60 fits 20000

pub file_send : IsSend File.the_row
file_send = search (top_send, statements_cross) depth 60 fits 20000

pub file_sync : IsSync File.the_row
file_sync = search (top_sync, statements_cross) depth 60 fits 20000

-- what a tree is made of, as a set for `search`
pub ruleset trees_cross = (def_send, def_sync, file_send, file_sync, statements_cross)
