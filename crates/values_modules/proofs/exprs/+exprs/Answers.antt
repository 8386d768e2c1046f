use Rattle.std.proofs.Common.{sym}
use Rattle.values_modules.proofs.Lists.{exprs_differ, clauses_differ}
use Rattle.values_modules.proofs.Beside as beside
use Rattle.values_modules.proofs.exprs.+exprs.Goals as goal

pub same_exprs-returns-then-xs-ys : goal.same_exprs-returns-then-xs-ys
same_exprs-returns-then-xs-ys t c = sym (exprs_differ c.args.xs.now c.args.ys.now c.if-xs-ys.true)

pub same_clauses-returns-then-xs-ys : goal.same_clauses-returns-then-xs-ys
same_clauses-returns-then-xs-ys t c = sym (clauses_differ c.args.xs.now c.args.ys.now c.if-xs-ys.true)

pub same_expr-returns-in_default : goal.same_expr-returns-in_default
same_expr-returns-in_default t c = beside.name _ _ c.args.a.now c.args.b.now c.in_default.is-0 c.in_default.not-Name-1

pub same_expr-returns-in_default-2 : goal.same_expr-returns-in_default-2
same_expr-returns-in_default-2 t c = beside.int _ c.args.a.now c.args.b.now c.in_default.is-0 c.in_default.not-Int-1

pub same_expr-returns-in_default-3 : goal.same_expr-returns-in_default-3
same_expr-returns-in_default-3 t c = beside.str _ c.args.a.now c.args.b.now c.in_default.is-0 c.in_default.not-Str-1

pub same_expr-returns-in_default-4 : goal.same_expr-returns-in_default-4
same_expr-returns-in_default-4 t c = beside.literal _ c.args.a.now c.args.b.now c.in_default.is-0 c.in_default.not-Literal-1

pub same_expr-returns-in_default-5 : goal.same_expr-returns-in_default-5
same_expr-returns-in_default-5 t c = beside.tuple _ c.args.a.now c.args.b.now c.in_default.is-0 c.in_default.not-Tuple-1

pub same_expr-returns-in_default-6 : goal.same_expr-returns-in_default-6
same_expr-returns-in_default-6 t c = beside.list _ c.args.a.now c.args.b.now c.in_default.is-0 c.in_default.not-List-1

pub same_expr-returns-in_default-7 : goal.same_expr-returns-in_default-7
same_expr-returns-in_default-7 t c = beside.dict _ _ c.args.a.now c.args.b.now c.in_default.is-0 c.in_default.not-Dict-1

pub same_expr-returns-in_default-8 : goal.same_expr-returns-in_default-8
same_expr-returns-in_default-8 t c = beside.list_of _ _ c.args.a.now c.args.b.now c.in_default.is-0 c.in_default.not-ListOf-1

pub same_expr-returns-in_default-9 : goal.same_expr-returns-in_default-9
same_expr-returns-in_default-9 t c = beside.dict_of _ _ _ c.args.a.now c.args.b.now c.in_default.is-0 c.in_default.not-DictOf-1

pub same_expr-returns-in_default-10 : goal.same_expr-returns-in_default-10
same_expr-returns-in_default-10 t c = beside.unary _ _ c.args.a.now c.args.b.now c.in_default.is-0 c.in_default.not-Unary-1

pub same_expr-returns-in_default-11 : goal.same_expr-returns-in_default-11
same_expr-returns-in_default-11 t c = beside.binary _ _ _ c.args.a.now c.args.b.now c.in_default.is-0 c.in_default.not-Binary-1

pub same_expr-returns-in_default-12 : goal.same_expr-returns-in_default-12
same_expr-returns-in_default-12 t c = beside.choice _ _ _ c.args.a.now c.args.b.now c.in_default.is-0 c.in_default.not-Choice-1

pub same_expr-returns-in_default-13 : goal.same_expr-returns-in_default-13
same_expr-returns-in_default-13 t c = beside.index _ _ c.args.a.now c.args.b.now c.in_default.is-0 c.in_default.not-Index-1

pub same_expr-returns-in_default-14 : goal.same_expr-returns-in_default-14
same_expr-returns-in_default-14 t c = beside.slice _ _ _ c.args.a.now c.args.b.now c.in_default.is-0 c.in_default.not-Slice-1

pub same_expr-returns-in_default-15 : goal.same_expr-returns-in_default-15
same_expr-returns-in_default-15 t c = beside.call _ _ _ c.args.a.now c.args.b.now c.in_default.is-0 c.in_default.not-Call-1

pub same_expr-returns-in_default-16 : goal.same_expr-returns-in_default-16
same_expr-returns-in_default-16 t c = beside.method _ _ _ _ c.args.a.now c.args.b.now c.in_default.is-0 c.in_default.not-Method-1
