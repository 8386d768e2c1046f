-- How the tokens of a statement are read.
use Rattle.std.specs.Prelude.{ℕ, zero, suc, List, [], ◌∷◌, ◌++◌, length, if◌then◌else◌, Option, Some, None}
use Rattle.syntax_tokens.specs.declared.symbol.Symbol.TheVariants as s
use Rattle.syntax_tokens.specs.Token.{Lex}
use Rattle.syntax_tree.specs.declared.expr.BinaryOp.{BinaryOp}
use Rattle.syntax_tree.specs.declared.expr.BinaryOp.TheVariants as b
use Rattle.syntax_tree.specs.Tree as t
use Rattle.syntax_tree.specs.Tree.{Ex, St, Br}
use Rattle.syntax_tree.specs.View.{exs_of}
use Rattle.syntax_tree.specs.Statements.{suite_of, branches_of}
use Rattle.syntax_grammar.specs.declared.kind.Kind.TheVariants as k
use Rattle.syntax_grammar.specs.declared.kind.Within.{Within}
use Rattle.syntax_grammar.specs.Front.{Reading, gives, and_then, ◌>>=◌, is_at, tail, expect, line_at}
use Rattle.syntax_grammar.specs.Targets.{in_loop, is_target, can_augment}
use Rattle.syntax_grammar.specs.Expressions.{expr, targets}

-- ---- expressions of a statement. No text whose tokens are nested at most 64 deep enters more than 64 levels in the
-- first.

unfoldable pub a_test : Reading Ex
a_test = expr 65 k.Test

unfoldable pub loop_targets : Reading Ex
loop_targets = targets (expr 64)

-- {',' Test}
unfoldable pub exprs_after : ℕ → List Ex → Reading (List Ex)
exprs_after zero es ts = gives es ts
exprs_after (suc n) es ts = if is_at s.Comma ts then and_then (a_test (tail ts)) (λ e. exprs_after n (es ++ e ∷ [])) else gives es ts

unfoldable pub more_exprs : Ex → Reading (List Ex)
more_exprs e ts = exprs_after (length ts) (e ∷ []) ts

-- Exprs: a tuple if there is a comma
unfoldable pub exprs : Reading Ex
exprs ts = and_then (a_test ts) (λ e us. if is_at s.Comma us then and_then (more_exprs e us) (λ es. gives (t.tuple (exs_of es))) else gives e us)

-- ---- small statements

-- the operator of an augmented assignment
unfoldable pub augment_at : List Lex → Option BinaryOp
augment_at ts =
    if is_at s.PlusEqual ts then Some b.Add
    else if is_at s.MinusEqual ts then Some b.Subtract
    else if is_at s.StarEqual ts then Some b.Multiply
    else if is_at s.SlashSlashEqual ts then Some b.Divide
    else if is_at s.PercentEqual ts then Some b.Remainder
    else None

-- 'return' [Exprs], after its 'return'
unfoldable pub return_rest : ℕ → Reading St
return_rest line ts = if is_at s.NewLine ts then gives (t.return line t.no_bound) ts else and_then (exprs ts) (λ e. gives (t.return line (t.bound e)))

abbrev pub augment_rest : Within → ℕ → Ex → Option BinaryOp → Reading St
augment_rest c line e None ts = gives (t.eval line e) ts
augment_rest c line e (Some op) ts = if can_augment c.in_def e then and_then (exprs (tail ts)) (λ v. gives (t.augment line e op v)) else None

-- what is after the first expressions of a statement
unfoldable pub expr_rest : Within → ℕ → Ex → Reading St
expr_rest c line e ts =
    if is_at s.Equal ts then (if is_target e then and_then (exprs (tail ts)) (λ v. gives (t.assign line e v)) else None)
    else augment_rest c line e (augment_at ts) ts

-- `break` and `continue` are in a `for`, and `return` in a `def`.
unfoldable pub small : Within → Reading St
small c ts =
    if is_at s.Pass ts then gives (t.pass (line_at ts)) (tail ts)
    else if is_at s.Break ts then (if c.in_for then gives (t.break (line_at ts)) (tail ts) else None)
    else if is_at s.Continue ts then (if c.in_for then gives (t.continue (line_at ts)) (tail ts) else None)
    else if is_at s.Return ts then (if c.in_def then return_rest (line_at ts) (tail ts) else None)
    else and_then (exprs ts) (expr_rest c (line_at ts))

-- Small NEWLINE
unfoldable pub simple : Within → Reading St
simple c ts = and_then (small c ts) (λ x. expect s.NewLine >>= λ _. gives x)

-- ---- suites, whose statements are one level down

abbrev pub Inner : Type 0
Inner = Within → Reading St

-- {Stmt} before DEDENT, after the statements so far
unfoldable pub stmts_after : Inner → Within → ℕ → List St → Reading (List St)
stmts_after inner c zero xs ts = gives xs ts
stmts_after inner c (suc n) xs ts = if is_at s.Dedent ts then gives xs ts else and_then (inner c ts) (λ x. stmts_after inner c n (xs ++ x ∷ []))

unfoldable pub stmts : Inner → Within → Reading (List St)
stmts inner c ts = stmts_after inner c (length ts) [] ts

-- a block has a statement
abbrev pub some_stmts : List St → Reading (List St)
some_stmts [] ts = None
some_stmts (x ∷ xs) ts = gives (x ∷ xs) ts

-- INDENT Stmt {Stmt} DEDENT
unfoldable pub block : Inner → Within → Reading (List St)
block inner c ts = and_then (expect s.Indent ts) (λ _. stmts inner c >>= λ xs. expect s.Dedent >>= λ _. some_stmts xs)

-- Suite
unfoldable pub suite : Inner → Within → Reading (List St)
suite inner c ts =
    if is_at s.NewLine ts then block inner c (tail ts)
    else and_then (simple c ts) (λ x. gives (x ∷ []))

-- Test ':' Suite
unfoldable pub branch : Inner → Within → ℕ → Reading Br
branch inner c line ts = and_then (a_test ts) (λ e. expect s.Colon >>= λ _. suite inner c >>= λ xs. gives (t.branch line e (suite_of xs)))

-- {'elif' Test ':' Suite}
unfoldable pub branches_after : Inner → Within → ℕ → List Br → Reading (List Br)
branches_after inner c zero xs ts = gives xs ts
branches_after inner c (suc n) xs ts =
    if is_at s.Elif ts then and_then (branch inner c (line_at ts) (tail ts)) (λ x. branches_after inner c n (xs ++ x ∷ []))
    else gives xs ts

unfoldable pub more_branches : Inner → Within → Br → Reading (List Br)
more_branches inner c x ts = branches_after inner c (length ts) (x ∷ []) ts

-- ['else' ':' Suite]
unfoldable pub other : Inner → Within → Reading (List St)
other inner c ts = if is_at s.Else ts then and_then (expect s.Colon (tail ts)) (λ _. suite inner c) else gives [] ts

-- If, after its 'if'
unfoldable pub if_rest : Inner → Within → ℕ → Reading St
if_rest inner c line ts = and_then (branch inner c line ts) (λ x. more_branches inner c x >>= λ xs. other inner c >>= λ ys. gives (t.if_else (branches_of xs) (suite_of ys)))

-- For, after its 'for'
unfoldable pub for_rest : Inner → Within → ℕ → Reading St
for_rest inner c line ts = and_then (loop_targets ts) (λ target. expect s.In >>= λ _. exprs >>= λ e. expect s.Colon >>= λ _. suite inner (in_loop c) >>= λ xs. gives (t.for_each line target e (suite_of xs)))

-- Stmt
unfoldable pub statement : Inner → Within → Reading St
statement inner c ts =
    if is_at s.If ts then if_rest inner c (line_at ts) (tail ts)
    else if is_at s.For ts then for_rest inner c (line_at ts) (tail ts)
    else simple c ts

-- statements with this many levels
unfoldable pub stmt : ℕ → Within → Reading St
stmt zero c ts = None
stmt (suc n) c ts = statement (stmt n) c ts
