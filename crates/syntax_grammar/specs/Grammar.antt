-- The grammar of source files: which tokens are which tree, one rule for each alternative of a production.
--
-- `IsTest ts e rest` says that a front of the tokens ts is a Test whose tree is e, and that rest is what is after it;
-- the other nonterminals are said in the same way. The premises of a rule are in the order of the text. In the
-- production above each nonterminal `[x]` is optional, `{x}` is zero or more, `|` is a choice, and quoted text is a
-- token.
use Rattle.std.specs.Prelude.{◌≡◌, ℕ, ℤ, List, [], ◌∷◌, ◌++◌, true, false, Option, Some, None}
use Rattle.syntax_tokens.specs.declared.symbol.Symbol.{Symbol}
use Rattle.syntax_tokens.specs.declared.symbol.Symbol.TheVariants as s
use Rattle.syntax_tokens.specs.Token.{Tok, name, int, string, symbol, Lex}
use Rattle.syntax_tokens.specs.Strings.{unescaped}
use Rattle.syntax_tokens.specs.Words.{is_name_text}
use Rattle.syntax_tree.specs.declared.expr.BinaryOp.{BinaryOp}
use Rattle.syntax_tree.specs.declared.expr.BinaryOp.TheVariants as b
use Rattle.syntax_tree.specs.declared.expr.UnaryOp.TheVariants as u
use Rattle.syntax_tree.specs.declared.expr.Literal.TheVariants as w
use Rattle.syntax_tree.specs.Tree as t
use Rattle.syntax_tree.specs.Tree.{Ex, Exs, Bound, Cl, St, Br, Pa, Fn, Tp, It, Ld, Fi}
use Rattle.syntax_tree.specs.View.{exs_of, clauses_of}
use Rattle.syntax_tree.specs.Statements.{suite_of, branches_of}
use Rattle.syntax_grammar.specs.declared.kind.FileKind.{FileKind}
use Rattle.syntax_grammar.specs.declared.kind.FileKind.TheVariants as kinds
use Rattle.syntax_grammar.specs.declared.kind.Rank.{Rank}
use Rattle.syntax_grammar.specs.declared.kind.Rank.TheVariants as r
use Rattle.syntax_grammar.specs.declared.kind.Within.{Within}
use Rattle.syntax_grammar.specs.Front.{line_at}
use Rattle.syntax_grammar.specs.Targets.{is_target, can_augment, in_loop, has_name, has_default, is_bound}

-- ---- tokens

-- the first of the tokens ts is that one, and us are those after it
abbrev pub IsToken : Tok → List Lex → List Lex → Type 0
IsToken found ts us = (line : ℕ) × (ts ≡ record { token = found; line = line } ∷ us)

abbrev pub Is : Symbol → List Lex → List Lex → Type 0
Is wanted ts us = IsToken (symbol wanted) ts us

-- [',']
pub data IsCommaOrNone : List Lex → List Lex → Type 0 where
  comma : {ts rest : List Lex} → Is s.Comma ts rest → IsCommaOrNone ts rest
  no_comma : {ts : List Lex} → IsCommaOrNone ts ts

-- The binary operators by their ranks: 'or'; 'and'; '+' and '-'; '*', '//' and '%'.
pub data IsOperator : Rank → BinaryOp → List Lex → List Lex → Type 0 where
  is_or : {ts rest : List Lex} → Is s.Or ts rest → IsOperator r.Or b.Or ts rest
  is_and : {ts rest : List Lex} → Is s.And ts rest → IsOperator r.And b.And ts rest
  is_plus : {ts rest : List Lex} → Is s.Plus ts rest → IsOperator r.Sum b.Add ts rest
  is_minus : {ts rest : List Lex} → Is s.Minus ts rest → IsOperator r.Sum b.Subtract ts rest
  is_star : {ts rest : List Lex} → Is s.Star ts rest → IsOperator r.Term b.Multiply ts rest
  is_slash_slash : {ts rest : List Lex} → Is s.SlashSlash ts rest → IsOperator r.Term b.Divide ts rest
  is_percent : {ts rest : List Lex} → Is s.Percent ts rest → IsOperator r.Term b.Remainder ts rest

-- CmpOp = '==' | '!=' | '<' | '<=' | '>' | '>=' | 'in' | 'not' 'in'
pub data IsCmpOp : BinaryOp → List Lex → List Lex → Type 0 where
  is_equal : {ts rest : List Lex} → Is s.EqualEqual ts rest → IsCmpOp b.Equal ts rest
  is_not_equal : {ts rest : List Lex} → Is s.NotEqual ts rest → IsCmpOp b.NotEqual ts rest
  is_less : {ts rest : List Lex} → Is s.Less ts rest → IsCmpOp b.Less ts rest
  is_less_equal : {ts rest : List Lex} → Is s.LessEqual ts rest → IsCmpOp b.LessEqual ts rest
  is_greater : {ts rest : List Lex} → Is s.Greater ts rest → IsCmpOp b.Greater ts rest
  is_greater_equal : {ts rest : List Lex} → Is s.GreaterEqual ts rest → IsCmpOp b.GreaterEqual ts rest
  is_in : {ts rest : List Lex} → Is s.In ts rest → IsCmpOp b.In ts rest
  is_not_in : {ts us rest : List Lex} → Is s.Not ts us → Is s.In us rest → IsCmpOp b.NotIn ts rest

-- Aug = '+=' | '-=' | '*=' | '//=' | '%='
pub data IsAug : BinaryOp → List Lex → List Lex → Type 0 where
  adds : {ts rest : List Lex} → Is s.PlusEqual ts rest → IsAug b.Add ts rest
  subtracts : {ts rest : List Lex} → Is s.MinusEqual ts rest → IsAug b.Subtract ts rest
  multiplies : {ts rest : List Lex} → Is s.StarEqual ts rest → IsAug b.Multiply ts rest
  divides : {ts rest : List Lex} → Is s.SlashSlashEqual ts rest → IsAug b.Divide ts rest
  takes_remainder : {ts rest : List Lex} → Is s.PercentEqual ts rest → IsAug b.Remainder ts rest

-- ---- expressions

mutual
  -- Test = Or ['if' Or 'else' Test]
  pub data IsTest : List Lex → Ex → List Lex → Type 0 where
    test_or : {ts rest : List Lex} {e : Ex} → IsOr ts e rest → IsTest ts e rest
    choice : {ts us vs ws xs rest : List Lex} {e condition other : Ex}
        → IsOr ts e us → Is s.If us vs → IsOr vs condition ws → Is s.Else ws xs → IsTest xs other rest
        → IsTest ts (t.choice e condition other) rest

  -- Or = And {'or' And}: binary operators group to the left
  pub data IsOr : List Lex → Ex → List Lex → Type 0 where
    or_and : {ts rest : List Lex} {e : Ex} → IsAnd ts e rest → IsOr ts e rest
    or_more : {ts us vs rest : List Lex} {op : BinaryOp} {e f : Ex}
        → IsOr ts e us → IsOperator r.Or op us vs → IsAnd vs f rest → IsOr ts (t.binary op e f) rest

  -- And = Not {'and' Not}
  pub data IsAnd : List Lex → Ex → List Lex → Type 0 where
    and_not : {ts rest : List Lex} {e : Ex} → IsNot ts e rest → IsAnd ts e rest
    and_more : {ts us vs rest : List Lex} {op : BinaryOp} {e f : Ex}
        → IsAnd ts e us → IsOperator r.And op us vs → IsNot vs f rest → IsAnd ts (t.binary op e f) rest

  -- Not = 'not' Not | Cmp
  pub data IsNot : List Lex → Ex → List Lex → Type 0 where
    not_not : {ts us rest : List Lex} {e : Ex} → Is s.Not ts us → IsNot us e rest → IsNot ts (t.unary u.Not e) rest
    not_cmp : {ts rest : List Lex} {e : Ex} → IsCmp ts e rest → IsNot ts e rest

  -- Cmp = Sum [CmpOp Sum]
  pub data IsCmp : List Lex → Ex → List Lex → Type 0 where
    cmp_sum : {ts rest : List Lex} {e : Ex} → IsSum ts e rest → IsCmp ts e rest
    cmp : {ts us vs rest : List Lex} {op : BinaryOp} {e f : Ex}
        → IsSum ts e us → IsCmpOp op us vs → IsSum vs f rest → IsCmp ts (t.binary op e f) rest

  -- Sum = Term {('+' | '-') Term}
  pub data IsSum : List Lex → Ex → List Lex → Type 0 where
    sum_term : {ts rest : List Lex} {e : Ex} → IsTerm ts e rest → IsSum ts e rest
    sum_more : {ts us vs rest : List Lex} {op : BinaryOp} {e f : Ex}
        → IsSum ts e us → IsOperator r.Sum op us vs → IsTerm vs f rest → IsSum ts (t.binary op e f) rest

  -- Term = Unary {('*' | '//' | '%') Unary}
  pub data IsTerm : List Lex → Ex → List Lex → Type 0 where
    term_unary : {ts rest : List Lex} {e : Ex} → IsUnary ts e rest → IsTerm ts e rest
    term_more : {ts us vs rest : List Lex} {op : BinaryOp} {e f : Ex}
        → IsTerm ts e us → IsOperator r.Term op us vs → IsUnary vs f rest → IsTerm ts (t.binary op e f) rest

  -- Unary = ('+' | '-') Unary | Postfix
  pub data IsUnary : List Lex → Ex → List Lex → Type 0 where
    unary_plus : {ts us rest : List Lex} {e : Ex} → Is s.Plus ts us → IsUnary us e rest → IsUnary ts (t.unary u.Plus e) rest
    unary_minus : {ts us rest : List Lex} {e : Ex} → Is s.Minus ts us → IsUnary us e rest → IsUnary ts (t.unary u.Minus e) rest
    unary_postfix : {ts rest : List Lex} {e : Ex} → IsPostfix ts e rest → IsUnary ts e rest

  -- Postfix = Atom | Postfix '.' NAME '(' Args ')' | Postfix '(' Args ')'
  --         | Postfix '[' Test ']' | Postfix '[' [Test] ':' [Test] ']'
  pub data IsPostfix : List Lex → Ex → List Lex → Type 0 where
    postfix_atom : {ts rest : List Lex} {e : Ex} → IsAtom ts e rest → IsPostfix ts e rest
    method : {ts us vs ws xs ys rest : List Lex} {e : Ex} {x : List ℕ} {es : List Ex} {names : List (List ℕ)}
        → IsPostfix ts e us → Is s.Dot us vs → IsToken (name x) vs ws → Is s.LeftParen ws xs → IsArgs xs es names ys → Is s.RightParen ys rest
        → IsPostfix ts (t.method e x (exs_of es) names) rest
    call : {ts us vs ws rest : List Lex} {e : Ex} {es : List Ex} {names : List (List ℕ)}
        → IsPostfix ts e us → Is s.LeftParen us vs → IsArgs vs es names ws → Is s.RightParen ws rest
        → IsPostfix ts (t.call e (exs_of es) names) rest
    index : {ts us vs ws rest : List Lex} {e at : Ex}
        → IsPostfix ts e us → Is s.LeftBracket us vs → IsTest vs at ws → Is s.RightBracket ws rest → IsPostfix ts (t.index e at) rest
    slice : {ts us vs ws xs ys rest : List Lex} {e : Ex} {from to : Bound}
        → IsPostfix ts e us → Is s.LeftBracket us vs → IsBound vs from ws → Is s.Colon ws xs → IsBound xs to ys → Is s.RightBracket ys rest
        → IsPostfix ts (t.slice e from to) rest

  -- [Test], as a bound of a slice
  pub data IsBound : List Lex → Bound → List Lex → Type 0 where
    no_bound : {ts : List Lex} → IsBound ts t.no_bound ts
    bound : {ts rest : List Lex} {e : Ex} → IsTest ts e rest → IsBound ts (t.bound e) rest

  -- Args = [Arg {',' Arg} [',']], with the names of the last arguments
  pub data IsArgs : List Lex → List Ex → List (List ℕ) → List Lex → Type 0 where
    no_args : {ts : List Lex} → IsArgs ts [] [] ts
    args : {ts us rest : List Lex} {es : List Ex} {names : List (List ℕ)} → IsSomeArgs ts es names us → IsCommaOrNone us rest → IsArgs ts es names rest

  -- Arg {',' Arg}, where Arg = Test | NAME '=' Test: no positional argument follows a named one
  pub data IsSomeArgs : List Lex → List Ex → List (List ℕ) → List Lex → Type 0 where
    plain : {ts rest : List Lex} {e : Ex} → IsTest ts e rest → IsSomeArgs ts (e ∷ []) [] rest
    named : {ts us vs rest : List Lex} {x : List ℕ} {e : Ex}
        → IsToken (name x) ts us → Is s.Equal us vs → IsTest vs e rest → IsSomeArgs ts (e ∷ []) (x ∷ []) rest
    more_plain : {ts us vs rest : List Lex} {es : List Ex} {e : Ex}
        → IsSomeArgs ts es [] us → Is s.Comma us vs → IsTest vs e rest → IsSomeArgs ts (es ++ e ∷ []) [] rest
    more_named : {ts us vs ws xs rest : List Lex} {es : List Ex} {names : List (List ℕ)} {x : List ℕ} {e : Ex}
        → IsSomeArgs ts es names us → Is s.Comma us vs → IsToken (name x) vs ws → Is s.Equal ws xs → IsTest xs e rest
        → IsSomeArgs ts (es ++ e ∷ []) (names ++ x ∷ []) rest

  -- Atom = NAME | INT | STRING | 'None' | 'True' | 'False' | '(' ')' | '(' Test ')'
  --      | '(' Test ',' [Test {',' Test} [',']] ')' | '[' [Test {',' Test} [',']] ']' | '[' Test Clauses ']'
  --      | '{' [Entry {',' Entry} [',']] '}' | '{' Entry Clauses '}'
  -- Parentheses around one expression make no node.
  pub data IsAtom : List Lex → Ex → List Lex → Type 0 where
    a_name : {ts rest : List Lex} {x : List ℕ} → IsToken (name x) ts rest → IsAtom ts (t.name x) rest
    an_int : {ts rest : List Lex} {n : ℤ} → IsToken (int n) ts rest → IsAtom ts (t.int n) rest
    a_string : {ts rest : List Lex} {written : List ℕ} → IsToken (string written) ts rest → IsAtom ts (t.str (unescaped written)) rest
    none : {ts rest : List Lex} → Is s.NoneValue ts rest → IsAtom ts (t.literal w.NoneValue) rest
    yes : {ts rest : List Lex} → Is s.TrueValue ts rest → IsAtom ts (t.literal w.TrueValue) rest
    no : {ts rest : List Lex} → Is s.FalseValue ts rest → IsAtom ts (t.literal w.FalseValue) rest
    empty_tuple : {ts us rest : List Lex} → Is s.LeftParen ts us → Is s.RightParen us rest → IsAtom ts (t.tuple t.no_exs) rest
    parens : {ts us vs rest : List Lex} {e : Ex} → Is s.LeftParen ts us → IsTest us e vs → Is s.RightParen vs rest → IsAtom ts e rest
    tuple : {ts us vs ws xs rest : List Lex} {e : Ex} {es : List Ex}
        → Is s.LeftParen ts us → IsTest us e vs → Is s.Comma vs ws → IsItems ws es xs → Is s.RightParen xs rest
        → IsAtom ts (t.tuple (exs_of (e ∷ es))) rest
    list : {ts us vs rest : List Lex} {es : List Ex} → Is s.LeftBracket ts us → IsItems us es vs → Is s.RightBracket vs rest → IsAtom ts (t.list (exs_of es)) rest
    list_of : {ts us vs ws rest : List Lex} {e : Ex} {cs : List Cl}
        → Is s.LeftBracket ts us → IsTest us e vs → IsClauses vs cs ws → Is s.RightBracket ws rest → IsAtom ts (t.list_of e (clauses_of cs)) rest
    dict : {ts us vs rest : List Lex} {keys values : List Ex}
        → Is s.LeftBrace ts us → IsEntries us keys values vs → Is s.RightBrace vs rest → IsAtom ts (t.dict (exs_of keys) (exs_of values)) rest
    dict_of : {ts us vs ws xs ys rest : List Lex} {key value : Ex} {cs : List Cl}
        → Is s.LeftBrace ts us → IsTest us key vs → Is s.Colon vs ws → IsTest ws value xs → IsClauses xs cs ys → Is s.RightBrace ys rest
        → IsAtom ts (t.dict_of key value (clauses_of cs)) rest

  -- [Test {',' Test} [',']]
  pub data IsItems : List Lex → List Ex → List Lex → Type 0 where
    no_items : {ts : List Lex} → IsItems ts [] ts
    items : {ts us rest : List Lex} {es : List Ex} → IsTests ts es us → IsCommaOrNone us rest → IsItems ts es rest

  -- Test {',' Test}
  pub data IsTests : List Lex → List Ex → List Lex → Type 0 where
    one_test : {ts rest : List Lex} {e : Ex} → IsTest ts e rest → IsTests ts (e ∷ []) rest
    more_tests : {ts us vs rest : List Lex} {es : List Ex} {e : Ex}
        → IsTests ts es us → Is s.Comma us vs → IsTest vs e rest → IsTests ts (es ++ e ∷ []) rest

  -- [Entry {',' Entry} [',']]
  pub data IsEntries : List Lex → List Ex → List Ex → List Lex → Type 0 where
    no_entries : {ts : List Lex} → IsEntries ts [] [] ts
    entries : {ts us rest : List Lex} {keys values : List Ex} → IsSomeEntries ts keys values us → IsCommaOrNone us rest → IsEntries ts keys values rest

  -- Entry {',' Entry}, where Entry = Test ':' Test
  pub data IsSomeEntries : List Lex → List Ex → List Ex → List Lex → Type 0 where
    one_entry : {ts us vs rest : List Lex} {key value : Ex}
        → IsTest ts key us → Is s.Colon us vs → IsTest vs value rest → IsSomeEntries ts (key ∷ []) (value ∷ []) rest
    more_entries : {ts us vs ws xs rest : List Lex} {keys values : List Ex} {key value : Ex}
        → IsSomeEntries ts keys values us → Is s.Comma us vs → IsTest vs key ws → Is s.Colon ws xs → IsTest xs value rest
        → IsSomeEntries ts (keys ++ key ∷ []) (values ++ value ∷ []) rest

  -- Clauses = 'for' Targets 'in' Or {'for' Targets 'in' Or | 'if' Or}
  pub data IsClauses : List Lex → List Cl → List Lex → Type 0 where
    first_for : {ts us vs ws rest : List Lex} {target sequence : Ex}
        → Is s.For ts us → IsTargets us target vs → Is s.In vs ws → IsOr ws sequence rest → IsClauses ts (t.for_in target sequence ∷ []) rest
    more_for : {ts us vs ws xs rest : List Lex} {cs : List Cl} {target sequence : Ex}
        → IsClauses ts cs us → Is s.For us vs → IsTargets vs target ws → Is s.In ws xs → IsOr xs sequence rest
        → IsClauses ts (cs ++ t.for_in target sequence ∷ []) rest
    more_if : {ts us vs rest : List Lex} {cs : List Cl} {condition : Ex}
        → IsClauses ts cs us → Is s.If us vs → IsOr vs condition rest → IsClauses ts (cs ++ t.only_if condition ∷ []) rest

  -- Targets = Target {',' Target}: a tuple if there is a comma
  pub data IsTargets : List Lex → Ex → List Lex → Type 0 where
    one_target : {ts rest : List Lex} {e : Ex} → IsTarget ts e rest → IsTargets ts e rest
    targets : {ts us vs rest : List Lex} {es : List Ex} {e : Ex}
        → IsSomeTargets ts es us → Is s.Comma us vs → IsTarget vs e rest → IsTargets ts (t.tuple (exs_of (es ++ e ∷ []))) rest

  -- Target {',' Target}
  pub data IsSomeTargets : List Lex → List Ex → List Lex → Type 0 where
    first_target : {ts rest : List Lex} {e : Ex} → IsTarget ts e rest → IsSomeTargets ts (e ∷ []) rest
    more_targets : {ts us vs rest : List Lex} {es : List Ex} {e : Ex}
        → IsSomeTargets ts es us → Is s.Comma us vs → IsTarget vs e rest → IsSomeTargets ts (es ++ e ∷ []) rest

  -- Target = NAME | Postfix '[' Test ']' | '(' Target ')' | '(' Target ',' [Target {',' Target} [',']] ')'
  --        | '[' Target {',' Target} [','] ']'
  -- These are the postfix expressions whose trees can be assigned to: a name, an index, or a tuple or list of one or
  -- more such trees. Parentheses around one target make no node.
  pub data IsTarget : List Lex → Ex → List Lex → Type 0 where
    target : {ts rest : List Lex} {e : Ex} → IsPostfix ts e rest → is_target e ≡ true → IsTarget ts e rest

-- Exprs = Test {',' Test}: a tuple if there is a comma
pub data IsExprs : List Lex → Ex → List Lex → Type 0 where
  one_expr : {ts rest : List Lex} {e : Ex} → IsTest ts e rest → IsExprs ts e rest
  exprs : {ts us vs rest : List Lex} {es : List Ex} {e : Ex}
      → IsTests ts es us → Is s.Comma us vs → IsTest vs e rest → IsExprs ts (t.tuple (exs_of (es ++ e ∷ []))) rest

-- ---- statements. A statement's line is that of its first token.

-- Small = 'pass' | 'break' | 'continue' | 'return' [Exprs] | Targets '=' Exprs | Target Aug Exprs | Exprs
-- `break` and `continue` are in a `for`, and `return` in a `def`. What an Aug changes is a name or an index; at file
-- level it is not a name.
pub data IsSmall (c : Within) : List Lex → St → List Lex → Type 0 where
  pass : {ts rest : List Lex} → Is s.Pass ts rest → IsSmall c ts (t.pass (line_at ts)) rest
  break : {ts rest : List Lex} → c.in_for ≡ true → Is s.Break ts rest → IsSmall c ts (t.break (line_at ts)) rest
  continue : {ts rest : List Lex} → c.in_for ≡ true → Is s.Continue ts rest → IsSmall c ts (t.continue (line_at ts)) rest
  return_nothing : {ts rest : List Lex} → c.in_def ≡ true → Is s.Return ts rest → IsSmall c ts (t.return (line_at ts) t.no_bound) rest
  return : {ts us rest : List Lex} {e : Ex} → c.in_def ≡ true → Is s.Return ts us → IsExprs us e rest → IsSmall c ts (t.return (line_at ts) (t.bound e)) rest
  assign : {ts us vs rest : List Lex} {target e : Ex}
      → IsTargets ts target us → Is s.Equal us vs → IsExprs vs e rest → IsSmall c ts (t.assign (line_at ts) target e) rest
  augment : {ts us vs rest : List Lex} {op : BinaryOp} {target e : Ex}
      → IsTarget ts target us → can_augment c.in_def target ≡ true → IsAug op us vs → IsExprs vs e rest
      → IsSmall c ts (t.augment (line_at ts) target op e) rest
  eval : {ts rest : List Lex} {e : Ex} → IsExprs ts e rest → IsSmall c ts (t.eval (line_at ts) e) rest

-- Small NEWLINE
pub data IsSimple (c : Within) : List Lex → St → List Lex → Type 0 where
  simple : {ts us rest : List Lex} {x : St} → IsSmall c ts x us → Is s.NewLine us rest → IsSimple c ts x rest

mutual
  -- Suite = Small NEWLINE | NEWLINE INDENT Stmt {Stmt} DEDENT
  pub data IsSuite : Within → List Lex → List St → List Lex → Type 0 where
    line : {c : Within} {ts rest : List Lex} {x : St} → IsSimple c ts x rest → IsSuite c ts (x ∷ []) rest
    block : {c : Within} {ts us vs ws rest : List Lex} {xs : List St}
        → Is s.NewLine ts us → Is s.Indent us vs → IsStmts c vs xs ws → Is s.Dedent ws rest → IsSuite c ts xs rest

  -- Stmt {Stmt}
  pub data IsStmts : Within → List Lex → List St → List Lex → Type 0 where
    one_stmt : {c : Within} {ts rest : List Lex} {x : St} → IsStmt c ts x rest → IsStmts c ts (x ∷ []) rest
    more_stmts : {c : Within} {ts us rest : List Lex} {xs : List St} {x : St}
        → IsStmts c ts xs us → IsStmt c us x rest → IsStmts c ts (xs ++ x ∷ []) rest

  -- Stmt = Small NEWLINE | If | For
  -- If = 'if' Test ':' Suite {'elif' Test ':' Suite} ['else' ':' Suite]
  -- For = 'for' Targets 'in' Exprs ':' Suite
  pub data IsStmt : Within → List Lex → St → List Lex → Type 0 where
    small : {c : Within} {ts rest : List Lex} {x : St} → IsSimple c ts x rest → IsStmt c ts x rest
    if_else : {c : Within} {ts us rest : List Lex} {bs : List Br} {xs : List St}
        → IsBranches c ts bs us → IsElse c us xs rest → IsStmt c ts (t.if_else (branches_of bs) (suite_of xs)) rest
    for_each : {c : Within} {ts us vs ws xs ys rest : List Lex} {target e : Ex} {body : List St}
        → Is s.For ts us → IsTargets us target vs → Is s.In vs ws → IsExprs ws e xs → Is s.Colon xs ys → IsSuite (in_loop c) ys body rest
        → IsStmt c ts (t.for_each (line_at ts) target e (suite_of body)) rest

  -- 'if' Test ':' Suite {'elif' Test ':' Suite}
  pub data IsBranches : Within → List Lex → List Br → List Lex → Type 0 where
    if_branch : {c : Within} {ts us vs ws rest : List Lex} {e : Ex} {xs : List St}
        → Is s.If ts us → IsTest us e vs → Is s.Colon vs ws → IsSuite c ws xs rest
        → IsBranches c ts (t.branch (line_at ts) e (suite_of xs) ∷ []) rest
    elif_branch : {c : Within} {ts us vs ws xs rest : List Lex} {bs : List Br} {e : Ex} {body : List St}
        → IsBranches c ts bs us → Is s.Elif us vs → IsTest vs e ws → Is s.Colon ws xs → IsSuite c xs body rest
        → IsBranches c ts (bs ++ t.branch (line_at us) e (suite_of body) ∷ []) rest

  -- ['else' ':' Suite]
  pub data IsElse : Within → List Lex → List St → List Lex → Type 0 where
    no_else : {c : Within} {ts : List Lex} → IsElse c ts [] ts
    else_branch : {c : Within} {ts us vs rest : List Lex} {xs : List St} → Is s.Else ts us → Is s.Colon us vs → IsSuite c vs xs rest → IsElse c ts xs rest

-- ---- functions

-- Param = NAME ['=' Test]
pub data IsParam : List Lex → Pa → List Lex → Type 0 where
  param : {ts rest : List Lex} {x : List ℕ} → IsToken (name x) ts rest → IsParam ts (record { name = x; default = t.no_bound }) rest
  with_default : {ts us vs rest : List Lex} {x : List ℕ} {e : Ex}
      → IsToken (name x) ts us → Is s.Equal us vs → IsTest vs e rest → IsParam ts (record { name = x; default = t.bound e }) rest

-- Param {',' Param}: no two have one name, and all that follow one with a default have one
pub data IsSomeParams : List Lex → List Pa → List Lex → Type 0 where
  one_param : {ts rest : List Lex} {p : Pa} → IsParam ts p rest → IsSomeParams ts (p ∷ []) rest
  more_params : {ts us vs rest : List Lex} {ps : List Pa} {p : Pa}
      → IsSomeParams ts ps us → Is s.Comma us vs → IsParam vs p rest → has_name ps p.name ≡ false → (has_default ps ≡ true → is_bound p.default ≡ true)
      → IsSomeParams ts (ps ++ p ∷ []) rest

-- [Param {',' Param} [',']]
pub data IsParams : List Lex → List Pa → List Lex → Type 0 where
  no_params : {ts : List Lex} → IsParams ts [] ts
  params : {ts us rest : List Lex} {ps : List Pa} → IsSomeParams ts ps us → IsCommaOrNone us rest → IsParams ts ps rest

abbrev pub in_def : Within
in_def = record { in_def = true; in_for = false }

-- Def = 'def' NAME '(' [Param {',' Param} [',']] ')' ':' Suite
pub data IsDef : List Lex → Fn → List Lex → Type 0 where
  function : {ts us vs ws xs ys zs rest : List Lex} {x : List ℕ} {ps : List Pa} {body : List St}
      → Is s.Def ts us → IsToken (name x) us vs → Is s.LeftParen vs ws → IsParams ws ps xs → Is s.RightParen xs ys → Is s.Colon ys zs → IsSuite in_def zs body rest
      → IsDef ts (record { line = line_at ts; name = x; params = ps; body = suite_of body }) rest

-- ---- loads

-- STRING, where it is a NAME
pub data IsNameString : List Lex → List ℕ → List Lex → Type 0 where
  name_string : {ts rest : List Lex} {written : List ℕ} → IsToken (string written) ts rest → is_name_text written ≡ true → IsNameString ts (unescaped written) rest

-- Item = STRING | NAME '=' STRING
pub data IsItem : List Lex → It → List Lex → Type 0 where
  same_name : {ts rest : List Lex} {x : List ℕ} → IsNameString ts x rest → IsItem ts (record { local = x; exported = x }) rest
  other_name : {ts us vs rest : List Lex} {x y : List ℕ}
      → IsToken (name x) ts us → Is s.Equal us vs → IsNameString vs y rest → IsItem ts (record { local = x; exported = y }) rest

-- Item {',' Item}
pub data IsSomeItems : List Lex → List It → List Lex → Type 0 where
  one_item : {ts rest : List Lex} {x : It} → IsItem ts x rest → IsSomeItems ts (x ∷ []) rest
  more_items : {ts us vs rest : List Lex} {xs : List It} {x : It}
      → IsSomeItems ts xs us → Is s.Comma us vs → IsItem vs x rest → IsSomeItems ts (xs ++ x ∷ []) rest

-- Load NEWLINE, where Load = 'load' '(' STRING ',' Item {',' Item} [','] ')'
pub data IsLoad : List Lex → Ld → List Lex → Type 0 where
  load : {ts us vs ws xs ys zs end rest : List Lex} {written : List ℕ} {items : List It}
      → Is s.Load ts us → Is s.LeftParen us vs → IsToken (string written) vs ws → Is s.Comma ws xs
      → IsSomeItems xs items ys → IsCommaOrNone ys zs → Is s.RightParen zs end → Is s.NewLine end rest
      → IsLoad ts (record { line = line_at ts; label = unescaped written; items = items }) rest

-- {Load NEWLINE}
pub data IsLoads : List Lex → List Ld → List Lex → Type 0 where
  no_loads : {ts : List Lex} → IsLoads ts [] ts
  more_loads : {ts us rest : List Lex} {ls : List Ld} {l : Ld} → IsLoads ts ls us → IsLoad us l rest → IsLoads ts (ls ++ l ∷ []) rest

-- ---- files

abbrev pub at_top : Within
at_top = record { in_def = false; in_for = false }

-- Top = Small NEWLINE | Def (in a Bzl file only)
pub data IsTop : FileKind → List Lex → Tp → List Lex → Type 0 where
  top_small : {kind : FileKind} {ts rest : List Lex} {x : St} → IsSimple at_top ts x rest → IsTop kind ts (t.stmt x) rest
  top_def : {ts rest : List Lex} {f : Fn} → IsDef ts f rest → IsTop kinds.Bzl ts (t.def f) rest

-- {Top}
pub data IsTops : FileKind → List Lex → List Tp → List Lex → Type 0 where
  no_tops : {kind : FileKind} {ts : List Lex} → IsTops kind ts [] ts
  more_tops : {kind : FileKind} {ts us rest : List Lex} {xs : List Tp} {x : Tp} → IsTops kind ts xs us → IsTop kind us x rest → IsTops kind ts (xs ++ x ∷ []) rest

-- [STRING NEWLINE], with its line: a first statement that is one STRING alone is the leading string
pub data IsLeading : List Lex → Option ℕ → List Lex → Type 0 where
  leading : {ts us rest : List Lex} {written : List ℕ} → IsToken (string written) ts us → Is s.NewLine us rest → IsLeading ts (Some (line_at ts)) rest
  no_leading : {ts : List Lex} → ((written : List ℕ) (us rest : List Lex) → IsToken (string written) ts us → Is s.NewLine us rest → ⊥) → IsLeading ts None ts

-- File = [STRING NEWLINE] {Load NEWLINE} {Top}, which takes all the tokens
pub data IsFile : FileKind → List Lex → Fi → Type 0 where
  file : {kind : FileKind} {ts us vs : List Lex} {l : Option ℕ} {ls : List Ld} {xs : List Tp}
      → IsLeading ts l us → IsLoads us ls vs → IsTops kind vs xs [] → IsFile kind ts (record { leading = l; loads = ls; tops = xs })
