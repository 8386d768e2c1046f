-- Symbols are distinguished by their numbers, and how an expression begins.
use Rattle.std.proofs.Common.{◌≡◌, ◌∙◌, ℕ, List, [], ◌∷◌, true, false, Some, refl, sym, ap, arith, get_or}
use Rattle.std.proofs.lemmas.Bool.{false≢true}
use Rattle.std.proofs.lemmas.Bool.Decides.{nat_tests}
use Rattle.syntax_tokens.specs.declared.symbol.Symbol.{Symbol}
use Rattle.syntax_tokens.specs.declared.symbol.Symbol.TheVariants as s
use Rattle.syntax_tokens.specs.Token.{Tok, name, int, string, symbol, Lex}
use Rattle.syntax_tree.specs.Tree.{Ex, St, Br}
use Rattle.syntax_grammar.specs.declared.kind.Within.{Within}
use Rattle.syntax_grammar.specs.Front.{code, same, is_tok, is_at, tail, name_in, name_at, text_in, text_at}
use Rattle.syntax_grammar.specs.Grammar as g
use Rattle.syntax_grammar.specs.Grammar.{IsToken, Is, IsTest, IsOr, IsAnd, IsNot, IsCmp, IsSum, IsTerm, IsUnary, IsPostfix, IsAtom, IsTests, IsSomeEntries, IsTargets, IsSomeTargets, IsTarget, IsExprs, IsSmall, IsSimple, IsStmt, IsBranches}
use Rattle.syntax_grammar.proofs.Stops.{front}

-- ---- symbols

abbrev symbols : List Symbol
symbols =
    s.NewLine ∷ s.Indent ∷ s.Dedent ∷ s.And ∷ s.Break ∷ s.Continue ∷ s.Def ∷ s.Elif ∷ s.Else ∷ s.For ∷ s.If ∷ s.In ∷ s.Load ∷ s.Not ∷ s.Or ∷ s.Pass
    ∷ s.Return ∷ s.NoneValue ∷ s.TrueValue ∷ s.FalseValue ∷ s.Plus ∷ s.Minus ∷ s.Star ∷ s.SlashSlash ∷ s.Percent ∷ s.Equal ∷ s.PlusEqual ∷ s.MinusEqual ∷ s.StarEqual ∷ s.SlashSlashEqual ∷ s.PercentEqual ∷ s.EqualEqual
    ∷ s.NotEqual ∷ s.Less ∷ s.LessEqual ∷ s.Greater ∷ s.GreaterEqual ∷ s.Dot ∷ s.Comma ∷ s.Colon ∷ s.LeftParen ∷ s.RightParen ∷ s.LeftBracket ∷ s.RightBracket ∷ s.LeftBrace ∷ s.RightBrace ∷ []

by_code : (a : Symbol) → get_or symbols (code a) s.NewLine ≡ a
by_code s.NewLine = refl
by_code s.Indent = refl
by_code s.Dedent = refl
by_code s.And = refl
by_code s.Break = refl
by_code s.Continue = refl
by_code s.Def = refl
by_code s.Elif = refl
by_code s.Else = refl
by_code s.For = refl
by_code s.If = refl
by_code s.In = refl
by_code s.Load = refl
by_code s.Not = refl
by_code s.Or = refl
by_code s.Pass = refl
by_code s.Return = refl
by_code s.NoneValue = refl
by_code s.TrueValue = refl
by_code s.FalseValue = refl
by_code s.Plus = refl
by_code s.Minus = refl
by_code s.Star = refl
by_code s.SlashSlash = refl
by_code s.Percent = refl
by_code s.Equal = refl
by_code s.PlusEqual = refl
by_code s.MinusEqual = refl
by_code s.StarEqual = refl
by_code s.SlashSlashEqual = refl
by_code s.PercentEqual = refl
by_code s.EqualEqual = refl
by_code s.NotEqual = refl
by_code s.Less = refl
by_code s.LessEqual = refl
by_code s.Greater = refl
by_code s.GreaterEqual = refl
by_code s.Dot = refl
by_code s.Comma = refl
by_code s.Colon = refl
by_code s.LeftParen = refl
by_code s.RightParen = refl
by_code s.LeftBracket = refl
by_code s.RightBracket = refl
by_code s.LeftBrace = refl
by_code s.RightBrace = refl

pub same_is : (a b : Symbol) → same a b ≡ true → a ≡ b
unfolding same
same_is a b h = let e : code a ≡ code b = grind (arith, nat_tests) in sym (by_code a) ∙ ap (λ n. get_or symbols n s.NewLine) e ∙ by_code b

tok_is : (wanted : Symbol) (found : Tok) → is_tok wanted found ≡ true → found ≡ symbol wanted
tok_is wanted (name x) h = absurd (false≢true h)
tok_is wanted (int n) h = absurd (false≢true h)
tok_is wanted (string x) h = absurd (false≢true h)
tok_is wanted (symbol found) h = ap symbol (same_is found wanted h)

-- the symbol that is next
pub is_next : (wanted : Symbol) (ts : List Lex) → is_at wanted ts ≡ true → Is wanted ts (tail ts)
unfolding is_at tail
is_next wanted [] h = absurd (false≢true h)
is_next wanted (x ∷ ts) h = (x.line, ap (λ found. record { token = found; line = x.line } ∷ ts) (tok_is wanted x.token h))

name_found : (found : Tok) (x : List ℕ) → name_in found ≡ Some x → found ≡ name x
name_found (name y) x h = cc
name_found (int n) x h = cc
name_found (string y) x h = cc
name_found (symbol m) x h = cc

pub name_next : (x : List ℕ) (ts : List Lex) → name_at ts ≡ Some x → IsToken (name x) ts (tail ts)
unfolding name_at tail
name_next x [] h = cc
name_next x (y ∷ ts) h = (y.line, ap (λ found. record { token = found; line = y.line } ∷ ts) (name_found y.token x h))

text_found : (found : Tok) (x : List ℕ) → text_in found ≡ Some x → found ≡ string x
text_found (name y) x h = cc
text_found (int n) x h = cc
text_found (string y) x h = cc
text_found (symbol m) x h = cc

pub text_next : (x : List ℕ) (ts : List Lex) → text_at ts ≡ Some x → IsToken (string x) ts (tail ts)
unfolding text_at tail
text_next x [] h = cc
text_next x (y ∷ ts) h = (y.line, ap (λ found. record { token = found; line = y.line } ∷ ts) (text_found y.token x h))

-- ---- how an expression begins

-- not by one of these
abbrev pub Starts : List Lex → Type 0
Starts ts = (is_at s.RightParen ts ≡ false) × (is_at s.RightBracket ts ≡ false) × (is_at s.RightBrace ts ≡ false) × (is_at s.Colon ts ≡ false) × (is_at s.NewLine ts ≡ false) × (is_at s.Dedent ts ≡ false) × (is_at s.Pass ts ≡ false) × (is_at s.Break ts ≡ false) × (is_at s.Continue ts ≡ false) × (is_at s.Return ts ≡ false) × (is_at s.If ts ≡ false) × (is_at s.For ts ≡ false) × (is_at s.Def ts ≡ false) × (is_at s.Load ts ≡ false) × (is_at s.Elif ts ≡ false) × (is_at s.Else ts ≡ false)

-- of a statement
abbrev pub StartsSmall : List Lex → Type 0
StartsSmall ts = (is_at s.NewLine ts ≡ false) × (is_at s.Dedent ts ≡ false) × (is_at s.If ts ≡ false) × (is_at s.For ts ≡ false) × (is_at s.Def ts ≡ false) × (is_at s.Load ts ≡ false) × (is_at s.Elif ts ≡ false) × (is_at s.Else ts ≡ false)

starts_small : (ts : List Lex) → Starts ts → StartsSmall ts
starts_small ts x = (x.4, x.5, x.10, x.11, x.12, x.13, x.14, x.15)

abbrev pub StartsCmp : List Lex → Type 0
StartsCmp ts = Starts ts × (is_at s.Not ts ≡ false)

abbrev pub StartsPostfix : List Lex → Type 0
StartsPostfix ts = StartsCmp ts × (is_at s.Plus ts ≡ false) × (is_at s.Minus ts ≡ false)

atom_starts : {ts rest : List Lex} {e : Ex} → IsAtom ts e rest → StartsPostfix ts
unfolding is_at same
atom_starts (g.a_name is) = front StartsPostfix is (λ line. (((refl, refl, refl, refl, refl, refl, refl, refl, refl, refl, refl, refl, refl, refl, refl, refl), refl), refl, refl))
atom_starts (g.an_int is) = front StartsPostfix is (λ line. (((refl, refl, refl, refl, refl, refl, refl, refl, refl, refl, refl, refl, refl, refl, refl, refl), refl), refl, refl))
atom_starts (g.a_string is) = front StartsPostfix is (λ line. (((refl, refl, refl, refl, refl, refl, refl, refl, refl, refl, refl, refl, refl, refl, refl, refl), refl), refl, refl))
atom_starts (g.none is) = front StartsPostfix is (λ line. (((refl, refl, refl, refl, refl, refl, refl, refl, refl, refl, refl, refl, refl, refl, refl, refl), refl), refl, refl))
atom_starts (g.yes is) = front StartsPostfix is (λ line. (((refl, refl, refl, refl, refl, refl, refl, refl, refl, refl, refl, refl, refl, refl, refl, refl), refl), refl, refl))
atom_starts (g.no is) = front StartsPostfix is (λ line. (((refl, refl, refl, refl, refl, refl, refl, refl, refl, refl, refl, refl, refl, refl, refl, refl), refl), refl, refl))
atom_starts (g.empty_tuple is x) = front StartsPostfix is (λ line. (((refl, refl, refl, refl, refl, refl, refl, refl, refl, refl, refl, refl, refl, refl, refl, refl), refl), refl, refl))
atom_starts (g.parens is d x) = front StartsPostfix is (λ line. (((refl, refl, refl, refl, refl, refl, refl, refl, refl, refl, refl, refl, refl, refl, refl, refl), refl), refl, refl))
atom_starts (g.tuple is d x es y) = front StartsPostfix is (λ line. (((refl, refl, refl, refl, refl, refl, refl, refl, refl, refl, refl, refl, refl, refl, refl, refl), refl), refl, refl))
atom_starts (g.list is es x) = front StartsPostfix is (λ line. (((refl, refl, refl, refl, refl, refl, refl, refl, refl, refl, refl, refl, refl, refl, refl, refl), refl), refl, refl))
atom_starts (g.list_of is d cs x) = front StartsPostfix is (λ line. (((refl, refl, refl, refl, refl, refl, refl, refl, refl, refl, refl, refl, refl, refl, refl, refl), refl), refl, refl))
atom_starts (g.dict is es x) = front StartsPostfix is (λ line. (((refl, refl, refl, refl, refl, refl, refl, refl, refl, refl, refl, refl, refl, refl, refl, refl), refl), refl, refl))
atom_starts (g.dict_of is d x e cs y) = front StartsPostfix is (λ line. (((refl, refl, refl, refl, refl, refl, refl, refl, refl, refl, refl, refl, refl, refl, refl, refl), refl), refl, refl))

pub postfix_starts : {ts rest : List Lex} {e : Ex} → IsPostfix ts e rest → StartsPostfix ts
postfix_starts (g.postfix_atom d) = atom_starts d
postfix_starts (g.method d dot is open_is found close_is) = postfix_starts d
postfix_starts (g.call d open_is found close_is) = postfix_starts d
postfix_starts (g.index d open_is e close_is) = postfix_starts d
postfix_starts (g.slice d open_is from colon to close_is) = postfix_starts d

pub unary_starts : {ts rest : List Lex} {e : Ex} → IsUnary ts e rest → StartsCmp ts
unfolding is_at same
unary_starts (g.unary_plus is d) = front StartsCmp is (λ line. ((refl, refl, refl, refl, refl, refl, refl, refl, refl, refl, refl, refl, refl, refl, refl, refl), refl))
unary_starts (g.unary_minus is d) = front StartsCmp is (λ line. ((refl, refl, refl, refl, refl, refl, refl, refl, refl, refl, refl, refl, refl, refl, refl, refl), refl))
unary_starts (g.unary_postfix d) = (postfix_starts d).0

term_starts : {ts rest : List Lex} {e : Ex} → IsTerm ts e rest → StartsCmp ts
term_starts (g.term_unary d) = unary_starts d
term_starts (g.term_more d op e) = term_starts d

sum_starts : {ts rest : List Lex} {e : Ex} → IsSum ts e rest → StartsCmp ts
sum_starts (g.sum_term d) = term_starts d
sum_starts (g.sum_more d op e) = sum_starts d

pub cmp_starts : {ts rest : List Lex} {e : Ex} → IsCmp ts e rest → StartsCmp ts
cmp_starts (g.cmp_sum d) = sum_starts d
cmp_starts (g.cmp d op e) = sum_starts d

not_starts : {ts rest : List Lex} {e : Ex} → IsNot ts e rest → Starts ts
unfolding is_at same
not_starts (g.not_not is d) = front Starts is (λ line. (refl, refl, refl, refl, refl, refl, refl, refl, refl, refl, refl, refl, refl, refl, refl, refl))
not_starts (g.not_cmp d) = (cmp_starts d).0

and_starts : {ts rest : List Lex} {e : Ex} → IsAnd ts e rest → Starts ts
and_starts (g.and_not d) = not_starts d
and_starts (g.and_more d op e) = and_starts d

or_starts : {ts rest : List Lex} {e : Ex} → IsOr ts e rest → Starts ts
or_starts (g.or_and d) = and_starts d
or_starts (g.or_more d op e) = or_starts d

pub test_starts : {ts rest : List Lex} {e : Ex} → IsTest ts e rest → Starts ts
test_starts (g.test_or d) = or_starts d
test_starts (g.choice d if_is c else_is other) = or_starts d

pub tests_start : {ts rest : List Lex} {es : List Ex} → IsTests ts es rest → Starts ts
tests_start (g.one_test d) = test_starts d
tests_start (g.more_tests d is e) = tests_start d

pub entries_start : {ts rest : List Lex} {keys values : List Ex} → IsSomeEntries ts keys values rest → Starts ts
entries_start (g.one_entry key colon value) = test_starts key
entries_start (g.more_entries d is key colon value) = entries_start d

pub exprs_start : {ts rest : List Lex} {e : Ex} → IsExprs ts e rest → Starts ts
exprs_start (g.one_expr d) = test_starts d
exprs_start (g.exprs d is e) = tests_start d

pub target_starts : {ts rest : List Lex} {e : Ex} → IsTarget ts e rest → Starts ts
target_starts (g.target d h) = (postfix_starts d).0.0

some_targets_start : {ts rest : List Lex} {es : List Ex} → IsSomeTargets ts es rest → Starts ts
some_targets_start (g.first_target d) = target_starts d
some_targets_start (g.more_targets d is e) = some_targets_start d

pub targets_start : {ts rest : List Lex} {e : Ex} → IsTargets ts e rest → Starts ts
targets_start (g.one_target d) = target_starts d
targets_start (g.targets d is e) = some_targets_start d

-- ---- how a statement begins

pub small_starts : {c : Within} {ts rest : List Lex} {x : St} → IsSmall c ts x rest → StartsSmall ts
unfolding is_at same
small_starts (g.pass is) = front StartsSmall is (λ line. (refl, refl, refl, refl, refl, refl, refl, refl))
small_starts (g.break h is) = front StartsSmall is (λ line. (refl, refl, refl, refl, refl, refl, refl, refl))
small_starts (g.continue h is) = front StartsSmall is (λ line. (refl, refl, refl, refl, refl, refl, refl, refl))
small_starts (g.return_nothing h is) = front StartsSmall is (λ line. (refl, refl, refl, refl, refl, refl, refl, refl))
small_starts (g.return h is e) = front StartsSmall is (λ line. (refl, refl, refl, refl, refl, refl, refl, refl))
small_starts {ts = ts} (g.assign d is e) = starts_small ts (targets_start d)
small_starts {ts = ts} (g.augment d h is e) = starts_small ts (target_starts d)
small_starts {ts = ts} (g.eval d) = starts_small ts (exprs_start d)

pub simple_starts : {c : Within} {ts rest : List Lex} {x : St} → IsSimple c ts x rest → StartsSmall ts
simple_starts (g.simple d is) = small_starts d

-- and any statement does not begin so
abbrev pub StartsStmt : List Lex → Type 0
StartsStmt ts = (is_at s.Dedent ts ≡ false) × (is_at s.Elif ts ≡ false) × (is_at s.Else ts ≡ false)

branches_start : {c : Within} {ts rest : List Lex} {bs : List Br} → IsBranches c ts bs rest → StartsStmt ts
unfolding is_at same
branches_start (g.if_branch is e colon d) = front StartsStmt is (λ line. (refl, refl, refl))
branches_start (g.elif_branch d is e colon body) = branches_start d

pub stmt_starts : {c : Within} {ts rest : List Lex} {x : St} → IsStmt c ts x rest → StartsStmt ts
unfolding is_at same
stmt_starts (g.small d) = let x = simple_starts d in (x.1, x.6, x.7)
stmt_starts (g.if_else d e) = branches_start d
stmt_starts (g.for_each is target in_is e colon d) = front StartsStmt is (λ line. (refl, refl, refl))
