-- The targets of assignments, one rule for each alternative of their production:
--
-- Target = NAME | Postfix '[' Test ']' | '(' Target ')' | '(' Target ',' [Target {',' Target} [',']] ')'
--        | '[' Target {',' Target} [','] ']'
use Rattle.std.specs.Prelude.{ℕ, List, [], ◌∷◌, ◌++◌, ◌↔◌}
use Rattle.syntax_tokens.specs.declared.symbol.Symbol.TheVariants as s
use Rattle.syntax_tokens.specs.Token.{name, Lex}
use Rattle.syntax_tree.specs.Tree as t
use Rattle.syntax_tree.specs.Tree.{Ex}
use Rattle.syntax_tree.specs.View.{exs_of}
use Rattle.syntax_grammar.specs.Grammar.{IsToken, Is, IsCommaOrNone, IsTest, IsPostfix, IsTarget}

mutual
  pub data IsAssignable : List Lex → Ex → List Lex → Type 0 where
    name_target : {ts rest : List Lex} {x : List ℕ} → IsToken (name x) ts rest → IsAssignable ts (t.name x) rest
    index_target : {ts us vs ws rest : List Lex} {e at : Ex}
        → IsPostfix ts e us → Is s.LeftBracket us vs → IsTest vs at ws → Is s.RightBracket ws rest → IsAssignable ts (t.index e at) rest
    parens_target : {ts us vs rest : List Lex} {e : Ex} → Is s.LeftParen ts us → IsAssignable us e vs → Is s.RightParen vs rest → IsAssignable ts e rest
    tuple_target : {ts us vs ws xs rest : List Lex} {e : Ex} {es : List Ex}
        → Is s.LeftParen ts us → IsAssignable us e vs → Is s.Comma vs ws → AreMoreAssignable ws es xs → Is s.RightParen xs rest
        → IsAssignable ts (t.tuple (exs_of (e ∷ es))) rest
    list_target : {ts us vs ws rest : List Lex} {es : List Ex}
        → Is s.LeftBracket ts us → AreAssignable us es vs → IsCommaOrNone vs ws → Is s.RightBracket ws rest → IsAssignable ts (t.list (exs_of es)) rest

  -- [Target {',' Target} [',']]
  pub data AreMoreAssignable : List Lex → List Ex → List Lex → Type 0 where
    no_more : {ts : List Lex} → AreMoreAssignable ts [] ts
    some_more : {ts us rest : List Lex} {es : List Ex} → AreAssignable ts es us → IsCommaOrNone us rest → AreMoreAssignable ts es rest

  -- Target {',' Target}
  pub data AreAssignable : List Lex → List Ex → List Lex → Type 0 where
    one_assignable : {ts rest : List Lex} {e : Ex} → IsAssignable ts e rest → AreAssignable ts (e ∷ []) rest
    more_assignable : {ts us vs rest : List Lex} {es : List Ex} {e : Ex}
        → AreAssignable ts es us → Is s.Comma us vs → IsAssignable vs e rest → AreAssignable ts (es ++ e ∷ []) rest

-- The rules relate exactly the trees of the postfix expressions that can be assigned to.
abbrev pub TargetsAreByTheirRules : Type 0
TargetsAreByTheirRules = (ts : List Lex) (e : Ex) (rest : List Lex) → IsTarget ts e rest ↔ IsAssignable ts e rest
