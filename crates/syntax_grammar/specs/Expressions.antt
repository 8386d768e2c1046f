-- How the tokens of an expression are read. What is inside brackets, after a prefix operator or after `else` is one
-- level down.
use Rattle.std.specs.Prelude.{ℕ, zero, suc, List, [], ◌∷◌, ◌++◌, ◌&&◌, length, if◌then◌else◌, Option, Some, None}
use Rattle.syntax_tokens.specs.declared.symbol.Symbol.{Symbol}
use Rattle.syntax_tokens.specs.declared.symbol.Symbol.TheVariants as s
use Rattle.syntax_tokens.specs.Token.{Tok, name, int, string, symbol, Lex}
use Rattle.syntax_tokens.specs.Strings.{unescaped}
use Rattle.syntax_tree.specs.declared.expr.BinaryOp.{BinaryOp}
use Rattle.syntax_tree.specs.declared.expr.BinaryOp.TheVariants as b
use Rattle.syntax_tree.specs.declared.expr.UnaryOp.TheVariants as u
use Rattle.syntax_tree.specs.declared.expr.Literal.TheVariants as w
use Rattle.syntax_tree.specs.Tree as t
use Rattle.syntax_tree.specs.Tree.{Ex, Exs, Bound, Cl}
use Rattle.syntax_tree.specs.View.{exs_of, clauses_of}
use Rattle.syntax_grammar.specs.declared.kind.Kind.{Kind}
use Rattle.syntax_grammar.specs.declared.kind.Kind.TheVariants as k
use Rattle.syntax_grammar.specs.declared.kind.Rank.{Rank}
use Rattle.syntax_grammar.specs.declared.kind.Rank.TheVariants as r
use Rattle.syntax_grammar.specs.Targets.{is_target}
use Rattle.syntax_grammar.specs.Front.{Reading, gives, fails, and_then, ◌>>=◌, is_at, is_name_before, tail, skip, expect, a_name}

-- the expressions of each kind one level down
abbrev pub Level : Type 0
Level = Kind → Reading Ex

-- ---- lists. The number bounds the iterations: each takes a token, so the count of tokens is enough.

-- {',' Test} [','] before a closing bracket, after the items so far
unfoldable pub items_after : Level → Symbol → ℕ → List Ex → Reading (List Ex)
items_after l closer zero es ts = gives es ts
items_after l closer (suc n) es ts =
    if is_at s.Comma ts then
    (if is_at closer (tail ts) then gives es (tail ts)
    else and_then (l k.Test (tail ts)) (λ e. items_after l closer n (es ++ e ∷ [])))
    else gives es ts

unfoldable pub items : Level → Symbol → Ex → Reading (List Ex)
items l closer e ts = items_after l closer (length ts) (e ∷ []) ts

abbrev pub if_target : Ex → Reading Ex
if_target e ts = if is_target e then gives e ts else None

-- Target, as it is before `in`
unfoldable pub target : Level → Reading Ex
target l = l k.Postfix >>= if_target

-- {',' Target}
unfoldable pub targets_after : Level → ℕ → List Ex → Reading (List Ex)
targets_after l zero es ts = gives es ts
targets_after l (suc n) es ts =
    if is_at s.Comma ts then and_then (target l (tail ts)) (λ e. targets_after l n (es ++ e ∷ []))
    else gives es ts

unfoldable pub more_targets : Level → Ex → Reading (List Ex)
more_targets l e ts = targets_after l (length ts) (e ∷ []) ts

-- Targets: a tuple if there is a comma
unfoldable pub targets : Level → Reading Ex
targets l = do
  e ← target l
  λ ts. if is_at s.Comma ts then and_then (more_targets l e ts) (λ es. gives (t.tuple (exs_of es))) else gives e ts

-- ---- comprehensions

-- 'for' Targets 'in' Or, after its 'for'
unfoldable pub for_clause : Level → Reading Cl
for_clause l = do
  target ← targets l
  _ ← expect s.In
  sequence ← l k.Or
  gives (t.for_in target sequence)

-- {'for' Targets 'in' Or | 'if' Or}
unfoldable pub clauses_after : Level → ℕ → List Cl → Reading (List Cl)
clauses_after l zero cs ts = gives cs ts
clauses_after l (suc n) cs ts =
    if is_at s.For ts then and_then (for_clause l (tail ts)) (λ c. clauses_after l n (cs ++ c ∷ []))
    else if is_at s.If ts then and_then (l k.Or (tail ts)) (λ e. clauses_after l n (cs ++ t.only_if e ∷ []))
    else gives cs ts

-- Clauses, where 'for' is the next token
unfoldable pub clauses : Level → Reading (List Cl)
clauses l ts = clauses_after l (length ts) [] ts

-- ---- what is in brackets, after the opening one

unfoldable pub in_parens : Level → Reading Ex
in_parens l ts =
    if is_at s.RightParen ts then gives (t.tuple t.no_exs) (tail ts)
    else and_then (l k.Test ts) (λ e us.
    if is_at s.Comma us then and_then (items l s.RightParen e us) (λ es. expect s.RightParen >>= λ _. gives (t.tuple (exs_of es)))
    else and_then (expect s.RightParen us) (λ _. gives e))

unfoldable pub in_brackets : Level → Reading Ex
in_brackets l ts =
    if is_at s.RightBracket ts then gives (t.list t.no_exs) (tail ts)
    else and_then (l k.Test ts) (λ e us.
    if is_at s.For us then and_then (clauses l us) (λ cs. expect s.RightBracket >>= λ _. gives (t.list_of e (clauses_of cs)))
    else and_then (items l s.RightBracket e us) (λ es. expect s.RightBracket >>= λ _. gives (t.list (exs_of es))))

-- keys and as many values
pub record Pairs : Type 0 where
  pub keys : List Ex
  pub values : List Ex

abbrev pub with_pair : Pairs → Ex → Ex → Pairs
with_pair ps key value = record { keys = ps.keys ++ key ∷ []; values = ps.values ++ value ∷ [] }

-- Entry, after the entries so far
unfoldable pub entry : Level → Pairs → Reading Pairs
entry l ps = do
  key ← l k.Test
  _ ← expect s.Colon
  value ← l k.Test
  gives (with_pair ps key value)

-- {',' Entry} [',']
unfoldable pub entries_after : Level → ℕ → Pairs → Reading Pairs
entries_after l zero ps ts = gives ps ts
entries_after l (suc n) ps ts =
    if is_at s.Comma ts then
    (if is_at s.RightBrace (tail ts) then gives ps (tail ts)
    else and_then (entry l ps (tail ts)) (entries_after l n))
    else gives ps ts

unfoldable pub entries : Level → Pairs → Reading Pairs
entries l ps ts = entries_after l (length ts) ps ts

unfoldable pub dict_after : Level → Ex → Ex → Reading Ex
dict_after l key value ts =
    if is_at s.For ts then and_then (clauses l ts) (λ cs. expect s.RightBrace >>= λ _. gives (t.dict_of key value (clauses_of cs)))
    else and_then (entries l (record { keys = key ∷ []; values = value ∷ [] }) ts) (λ ps. expect s.RightBrace >>= λ _. gives (t.dict (exs_of ps.keys) (exs_of ps.values)))

unfoldable pub in_braces : Level → Reading Ex
in_braces l ts =
    if is_at s.RightBrace ts then gives (t.dict t.no_exs t.no_exs) (tail ts)
    else and_then (l k.Test ts) (λ key. expect s.Colon >>= λ _. l k.Test >>= λ value. dict_after l key value)

-- ---- calls

-- the arguments, and the names of the last ones
pub record Arguments : Type 0 where
  pub values : List Ex
  pub names : List (List ℕ)

abbrev pub with_plain : Arguments → Ex → Arguments
with_plain found e = record found { values = found.values ++ e ∷ [] }

abbrev pub with_named : Arguments → List ℕ → Ex → Arguments
with_named found x e = record { values = found.values ++ e ∷ []; names = found.names ++ x ∷ [] }

-- no positional argument follows a named one
abbrev pub plain_argument : Level → Arguments → List (List ℕ) → Reading Arguments
plain_argument l found [] ts = and_then (l k.Test ts) (λ e. gives (with_plain found e))
plain_argument l found (x ∷ xs) ts = None

-- Arg, after the arguments so far
unfoldable pub argument : Level → Arguments → Reading Arguments
argument l found ts =
    if is_name_before s.Equal ts then and_then (a_name ts) (λ x. skip >>= λ _. l k.Test >>= λ e. gives (with_named found x e))
    else plain_argument l found found.names ts

-- Args, after those so far, up to the closing bracket or what cannot follow
unfoldable pub arguments_after : Level → ℕ → Arguments → Reading Arguments
arguments_after l zero found ts = gives found ts
arguments_after l (suc n) found ts =
    if is_at s.RightParen ts then gives found ts
    else and_then (argument l found ts) (λ bs us. if is_at s.Comma us then arguments_after l n bs (tail us) else gives bs us)

unfoldable pub arguments_so_far : Level → Reading Arguments
arguments_so_far l ts = arguments_after l (length ts) (record { values = []; names = [] }) ts

-- Args ')'
unfoldable pub arguments : Level → Reading Arguments
arguments l ts = and_then (arguments_so_far l ts) (λ found. expect s.RightParen >>= λ _. gives found)

-- ---- what continues a postfix expression

abbrev pub some_bound : Ex → Reading Bound
some_bound e = gives (t.bound e)

-- a bound of a slice, up to its end
unfoldable pub upper_bound : Level → Reading Bound
upper_bound l ts = if is_at s.RightBracket ts then gives t.no_bound ts else and_then (l k.Test ts) some_bound

-- a slice from a bound, after its colon
unfoldable pub slice_from : Level → Ex → Bound → Reading Ex
slice_from l e from ts = and_then (upper_bound l ts) (λ to. expect s.RightBracket >>= λ _. gives (t.slice e from to))

-- an index or a slice, after its opening bracket
unfoldable pub subscript : Level → Ex → Reading Ex
subscript l e ts =
    if is_at s.Colon ts then slice_from l e t.no_bound (tail ts)
    else and_then (l k.Test ts) (λ at us.
    if is_at s.Colon us then slice_from l e (t.bound at) (tail us)
    else and_then (expect s.RightBracket us) (λ _. gives (t.index e at)))

-- '.' NAME '(' Args ')', after the dot
unfoldable pub method_call : Level → Ex → Reading Ex
method_call l e = do
  x ← a_name
  _ ← expect s.LeftParen
  found ← arguments l
  gives (t.method e x (exs_of found.values) found.names)

-- '(' Args ')', after the bracket
unfoldable pub call : Level → Ex → Reading Ex
call l e = do
  found ← arguments l
  gives (t.call e (exs_of found.values) found.names)

unfoldable pub postfix_after : Level → ℕ → Ex → Reading Ex
postfix_after l zero e ts = gives e ts
postfix_after l (suc n) e ts =
    if is_at s.Dot ts then and_then (method_call l e (tail ts)) (postfix_after l n)
    else if is_at s.LeftParen ts then and_then (call l e (tail ts)) (postfix_after l n)
    else if is_at s.LeftBracket ts then and_then (subscript l e (tail ts)) (postfix_after l n)
    else gives e ts

unfoldable pub postfix_rest : Level → Ex → Reading Ex
postfix_rest l e ts = postfix_after l (length ts) e ts

-- ---- operands

-- an atom that is one symbol, or begins with it
unfoldable pub symbol_atom : Level → Symbol → Reading Ex
symbol_atom l s.NoneValue = gives (t.literal w.NoneValue)
symbol_atom l s.TrueValue = gives (t.literal w.TrueValue)
symbol_atom l s.FalseValue = gives (t.literal w.FalseValue)
symbol_atom l s.LeftParen = in_parens l
symbol_atom l s.LeftBracket = in_brackets l
symbol_atom l s.LeftBrace = in_braces l
symbol_atom l _ = fails

abbrev pub atom_by : Level → Tok → Reading Ex
atom_by l (name x) = gives (t.name x)
atom_by l (int n) = gives (t.int n)
atom_by l (string written) = gives (t.str (unescaped written))
atom_by l (symbol m) = symbol_atom l m

unfoldable pub atom : Level → Reading Ex
atom l [] = None
atom l (x ∷ ts) = atom_by l x.token ts

unfoldable pub postfix : Level → Reading Ex
postfix l ts = and_then (atom l ts) (postfix_rest l)

unfoldable pub unary : Level → Reading Ex
unary l ts =
    if is_at s.Plus ts then and_then (l k.Unary (tail ts)) (λ e. gives (t.unary u.Plus e))
    else if is_at s.Minus ts then and_then (l k.Unary (tail ts)) (λ e. gives (t.unary u.Minus e))
    else postfix l ts

-- ---- binary operators, which group to the left

unfoldable pub operator_at : Rank → List Lex → Option BinaryOp
operator_at r.Or ts = if is_at s.Or ts then Some b.Or else None
operator_at r.And ts = if is_at s.And ts then Some b.And else None
operator_at r.Sum ts = if is_at s.Plus ts then Some b.Add else if is_at s.Minus ts then Some b.Subtract else None
operator_at r.Term ts =
    if is_at s.Star ts then Some b.Multiply
    else if is_at s.SlashSlash ts then Some b.Divide
    else if is_at s.Percent ts then Some b.Remainder
    else None

-- an operand and what follows it: operators of a rank with operands
unfoldable pub chain_after : Reading Ex → Rank → ℕ → Ex → Reading Ex
chain_after operand rank zero e ts = gives e ts
chain_after operand rank (suc n) e ts =
    elim (operator_at rank ts) [ None ↦ gives e ts | Some op ↦ and_then (operand (tail ts)) (λ a. chain_after operand rank n (t.binary op e a)) ]

unfoldable pub chain : Reading Ex → Rank → Reading Ex
chain operand rank ts = and_then (operand ts) (λ e us. chain_after operand rank (length us) e us)

-- the operator of a comparison, and how many tokens it has: `not in` has two
pub record Comparison : Type 0 where
  pub op : BinaryOp
  pub rest : List Lex

abbrev pub compares : BinaryOp → List Lex → Option Comparison
compares op rest = Some (record { op = op; rest = rest })

unfoldable pub comparison_at : List Lex → Option Comparison
comparison_at ts =
    if is_at s.EqualEqual ts then compares b.Equal (tail ts)
    else if is_at s.NotEqual ts then compares b.NotEqual (tail ts)
    else if is_at s.Less ts then compares b.Less (tail ts)
    else if is_at s.LessEqual ts then compares b.LessEqual (tail ts)
    else if is_at s.Greater ts then compares b.Greater (tail ts)
    else if is_at s.GreaterEqual ts then compares b.GreaterEqual (tail ts)
    else if is_at s.In ts then compares b.In (tail ts)
    else if is_at s.Not ts && is_at s.In (tail ts) then compares b.NotIn (tail (tail ts))
    else None

abbrev pub comparison_from : Reading Ex → Ex → Option Comparison → Reading Ex
comparison_from sum e None ts = gives e ts
comparison_from sum e (Some c) ts = and_then (sum c.rest) (λ a. gives (t.binary c.op e a))

unfoldable pub comparison : Reading Ex → Reading Ex
comparison sum ts = and_then (sum ts) (λ e us. comparison_from sum e (comparison_at us) us)

-- The ranks, the loosest first: or; and; not; comparisons; sums; products; signs.
unfoldable pub term : Level → Reading Ex
term l = chain (unary l) r.Term

unfoldable pub sum : Level → Reading Ex
sum l = chain (term l) r.Sum

unfoldable pub not_test : Level → Reading Ex
not_test l ts = if is_at s.Not ts then and_then (l k.Not (tail ts)) (λ e. gives (t.unary u.Not e)) else comparison (sum l) ts

unfoldable pub and_test : Level → Reading Ex
and_test l = chain (not_test l) r.And

unfoldable pub or_test : Level → Reading Ex
or_test l = chain (and_test l) r.Or

-- Test
unfoldable pub conditional : Level → Reading Ex
conditional l ts = and_then (or_test l ts) (λ e us.
    if is_at s.If us then and_then (or_test l (tail us)) (λ c. expect s.Else >>= λ _. l k.Test >>= λ other. gives (t.choice e c other))
    else gives e us)

abbrev pub of_kind : Kind → Level → Reading Ex
of_kind k.Test l = conditional l
of_kind k.Or l = or_test l
of_kind k.Not l = not_test l
of_kind k.Unary l = unary l
of_kind k.Postfix l = postfix l

-- the expressions of a kind, with this many levels
unfoldable pub expr : ℕ → Kind → Reading Ex
expr zero kind ts = None
expr (suc n) kind ts = of_kind kind (expr n) ts
