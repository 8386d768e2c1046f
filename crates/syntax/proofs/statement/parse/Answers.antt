use Rattle.syntax.proofs.ParseResults.{is_parsed}
use Rattle.syntax.proofs.statement.parse.Goals as goal

pub returns : goal.returns
returns c = is_parsed c.args.kind c.args.text.now c.parse_tokens.result c.parse_tokens.ensures
