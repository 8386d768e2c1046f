use Rattle.std.proofs.Common.{◌∙◌, ap, subst}
use Rattle.std.specs.Io.KnownBytes.{Appends, Consumes}
use Rattle.base_lines.specs.Devices.{EndsWithNothing}
use Rattle.loader.proofs.Programs.{answers_part}
use Rattle.loader.proofs.program.run_program.Goals as goal

pub returns-clause-stopped : goal.returns-clause-stopped
returns-clause-stopped g c = λ status.
    let reader = c.command-status.new.reader in
    let writer = c.command-status.new.writer in
    let left = g.R.Read.remaining c.into_inner-reader.result in
    let holds = g.W.Write.contents c.into_inner-writer.result in
    let read_first = c.command-status.ensures.devices.0 ∙ ap g.R.Read.remaining c.new-input.ensures.first in
    let written_first = c.command-status.ensures.devices.1 ∙ ap g.W.Write.contents c.new-output.ensures.first in
    answers_part (g.R.Read.remaining c.args.reader) left (g.W.Write.contents c.args.writer) holds
    c.new-input.result.told reader.told c.new-output.result.held writer.held c.new-input.result.ends reader.ends
    c.new-input.ensures.told c.new-output.ensures.held c.new-input.ensures.ends
    (subst (λ first. Consumes first left reader.told) read_first c.into_inner-reader.ensures.bytes)
    (subst (λ first. EndsWithNothing reader.ends first left) read_first c.into_inner-reader.ensures.ended)
    (subst (λ first. Appends first holds writer.held) written_first c.into_inner-writer.ensures)
    (c.command-status.ensures.stopped status)
