-- What a text is parsed to.
use Rattle.std.specs.Prelude.{◌≡◌, ℕ, List, Result, Ok, Err}
use Rattle.syntax_tokens.specs.declared.refusal.Refused.{Refused}
use Rattle.syntax_tokens.specs.declared.refusal.Refused.TheVariants as r
use Rattle.syntax_tokens.specs.Reading.{Fault, Refuses}
use Rattle.syntax_tree.specs.Tree.{Fi}
use Rattle.syntax_tree.specs.declared.def.File.{File}
use Rattle.syntax_tree.specs.Statements.{file_of}
use Rattle.syntax_grammar.specs.declared.kind.FileKind.{FileKind}
use Rattle.syntax_grammar.specs.Texts.{IsTree, IsRefused}

-- the tree that the grammar relates to the text; or the fault that refuses it; or an allocation failed
abbrev pub Parses : FileKind → List ℕ → Result File Refused → Type 0
Parses kind bytes (Ok f) = IsTree kind bytes (file_of f)
Parses kind bytes (Err (r.Syntax code line)) = IsRefused kind bytes (record { code = code; line = line })
Parses kind bytes (Err (r.Memory _)) = Unit {0}

-- what a function returned is what the definition gives, unless an allocation failed
abbrev pub Gives : Result Fi Fault → Result File Refused → Type 0
Gives expected (Ok f) = expected ≡ Ok (file_of f)
Gives expected (Err refused) = Refuses expected refused
