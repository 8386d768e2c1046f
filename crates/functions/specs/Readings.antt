-- The reading of a text that the definitions of nodes use, and the grammar, are one.
use Rattle.std.specs.Prelude.{◌≡◌, ◌↔◌, ℕ, List, Ok, Err}
use Rattle.syntax_tokens.specs.Reading.{Fault}
use Rattle.syntax_tree.specs.Tree.{Fi}
use Rattle.syntax_grammar.specs.declared.kind.FileKind.{FileKind}
use Rattle.syntax_grammar.specs.Files.{parse_of}
use Rattle.syntax_grammar.specs.Texts.{IsTree, IsRefused}

-- a text is read as a tree exactly where the grammar relates it to that tree
abbrev pub TreesAreByTheGrammar : Type 0
TreesAreByTheGrammar = (kind : FileKind) (bytes : List ℕ) (tree : Fi) → (parse_of kind bytes ≡ Ok tree) ↔ IsTree kind bytes tree

-- a text has a fault exactly where the grammar refuses it
abbrev pub FaultsAreByTheGrammar : Type 0
FaultsAreByTheGrammar = (kind : FileKind) (bytes : List ℕ) (fault : Fault) → (parse_of kind bytes ≡ Err fault) ↔ IsRefused kind bytes fault
