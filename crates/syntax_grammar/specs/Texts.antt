-- The tree of a text, and what refuses a text.
use Rattle.std.specs.Prelude.{◌≡◌, ℕ, List, Ok, Err}
use Rattle.values_semantics.specs.declared.faults.TheConstants.{SYNTAX}
use Rattle.syntax_tokens.specs.Token.{Lex}
use Rattle.syntax_tokens.specs.Reading.{Fault, tokens_of}
use Rattle.syntax_tree.specs.Tree.{Fi}
use Rattle.syntax_grammar.specs.declared.kind.FileKind.{FileKind}
use Rattle.syntax_grammar.specs.Grammar.{IsFile}

-- a text with that tree: its tokens are not malformed and not nested too deep, and the grammar relates them to it
pub record IsTree (kind : FileKind) (bytes : List ℕ) (tree : Fi) : Type 0 where
  pub tokens : List Lex
  pub are : tokens_of bytes ≡ Ok tokens
  pub is : IsFile kind tokens tree

-- A text is refused by the fault of its tokens, which comes first; else, if the grammar relates its tokens to no tree,
-- by the fault of the syntax.
pub data IsRefused (kind : FileKind) (bytes : List ℕ) : Fault → Type 0 where
  by_tokens : {e : Fault} → tokens_of bytes ≡ Err e → IsRefused kind bytes e
  by_grammar : {tokens : List Lex} → tokens_of bytes ≡ Ok tokens → ((tree : Fi) → IsFile kind tokens tree → ⊥) → IsRefused kind bytes (record { code = SYNTAX; line = 0 })

-- no text has two trees
abbrev pub NoTextHasTwoTrees : Type 0
NoTextHasTwoTrees = (kind : FileKind) (bytes : List ℕ) (a b : Fi) → IsTree kind bytes a → IsTree kind bytes b → a ≡ b

-- no text that has a tree is refused
abbrev pub NoTreeIsRefused : Type 0
NoTreeIsRefused = (kind : FileKind) (bytes : List ℕ) (a : Fi) (e : Fault) → IsTree kind bytes a → IsRefused kind bytes e → ⊥
