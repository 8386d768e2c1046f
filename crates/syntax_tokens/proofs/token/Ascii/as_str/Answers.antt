use Rattle.std.proofs.lemmas.Str.{IsUtf8-from_ascii}
use Rattle.syntax_tokens.proofs.token.Ascii.as_str.Goals as goal

pub unreachable-requires : goal.unreachable-requires
unreachable-requires c = c.in-Err.ensures.cases.0 (IsUtf8-from_ascii c.args.self.bytes.now c.args.self.ascii)
