use Rattle.std.proofs.Common.{◌≡◌, Err, ◌∙◌, ap, sym, subst}
use Rattle.syntax.specs.Answers.{Parses}
use Rattle.syntax_tree.specs.Statements.{file_of}
use Rattle.syntax_grammar.specs.Files.{parse_of}
use Rattle.functions.specs.Sources.{fault_at}
use Rattle.functions.proofs.Parses.{tree_is, fault_is}
use Rattle.functions.proofs.file_node.read_tree.Goals as goal

pub returns-in-Ok : goal.returns-in-Ok
returns-in-Ok c =
    ap (parse_of c.args.source.now.kind) (sym (c.as_bytes.ensures.value ∙ c.as_str.ensures)) ∙ tree_is c.args.source.now.kind c.as_bytes.result.now (file_of c.in-Ok.file) c.in-Ok.ensures

pub returns-in_ok-fault_at-in-Err-Syntax : goal.returns-in_ok-fault_at-in-Err-Syntax
returns-in_ok-fault_at-in-Err-Syntax c =
    let made : c.in_ok-fault_at-in-Err-Syntax.field-0 ≡ fault_at c.in-Err-Syntax.code c.args.source.now.path c.in-Err-Syntax.line = c.in_ok-fault_at-in-Err-Syntax.ensures in (
      made ∙ sym (λ i. fault_at (made i).code c.args.source.now.path (made i).line),
      ap (parse_of c.args.source.now.kind) (sym (c.as_bytes.ensures.value ∙ c.as_str.ensures))
          ∙ fault_is c.args.source.now.kind c.as_bytes.result.now (record { code = c.in-Err-Syntax.code; line = c.in-Err-Syntax.line }) (subst (λ r. Parses c.args.source.now.kind c.as_bytes.result.now (Err r)) c.in-Err-Syntax.field-0-is c.in-Err-Syntax.ensures)
          ∙ sym (λ i. Err (record { code = (made i).code; line = (made i).line })),
    )
