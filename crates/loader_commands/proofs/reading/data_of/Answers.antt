use Rattle.std.proofs.Common.{rules}
use Rattle.serde_json.specs.View.{view}
use Rattle.loader_commands.proofs.CommandLines.{read_valid, read_none}
use Rattle.loader_commands.proofs.reading.data_of.Goals as goal

pub returns-in-Ok : goal.returns-in-Ok
returns-in-Ok c = let ok = c.in-Ok.ensures.ok in read_valid c.args.line.now (view c.in-Ok.value) ok.0 ok.1

pub returns-else-is_memory : goal.returns-else-is_memory
returns-else-is_memory c = let e = c.in-Err.ensures.err in let m = c.is_memory.ensures in let no = c.if-is_memory.false in
    read_none c.args.line.now (λ u. e (λ h. let y = c.if-is_memory.ensures.1 h in search rules) u)
