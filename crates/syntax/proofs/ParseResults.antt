-- What is parsed is what the grammar relates.
use Rattle.std.proofs.Common.{ℕ, List, Result, Ok, Err}
use Rattle.syntax_tokens.specs.declared.refusal.Refused.{Refused}
use Rattle.syntax_tokens.specs.declared.refusal.Refused.TheVariants as r
use Rattle.syntax_tree.specs.declared.def.File.{File}
use Rattle.syntax_tree.specs.Statements.{file_of}
use Rattle.syntax_grammar.specs.declared.kind.FileKind.{FileKind}
use Rattle.syntax_grammar.specs.Files.{parse_of}
use Rattle.syntax_grammar.proofs.Laws.{parse_tree, parse_refused}
use Rattle.syntax.specs.Answers.{Gives, Parses}

refused_by : (kind : FileKind) (bytes : List ℕ) (e : Refused) → Gives (parse_of kind bytes) (Err e) → Parses kind bytes (Err e)
refused_by kind bytes (r.Syntax code line) h = parse_refused kind bytes (record { code = code; line = line }) h
refused_by kind bytes (r.Memory _) h = tt

pub is_parsed : (kind : FileKind) (bytes : List ℕ) (found : Result File Refused) → Gives (parse_of kind bytes) found → Parses kind bytes found
is_parsed kind bytes (Ok f) h = parse_tree kind bytes (file_of f) h
is_parsed kind bytes (Err e) h = refused_by kind bytes e h
