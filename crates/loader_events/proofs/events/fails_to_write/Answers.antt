use Rattle.std.proofs.Common.{◌∙◌, ap, sym, ◌++◌, take, drop}
use Rattle.std.proofs.lemmas.List.{take-append-drop}
use Rattle.loader_events.proofs.events.fails_to_write.Goals as goal

pub returns-in-Err : goal.returns-in-Err
returns-in-Err g c =
    let failed = c.in-Err.ensures.err in (
      take failed.0 c.args.text.now,
      (drop failed.0 c.args.text.now, sym (take-append-drop failed.0 c.args.text.now)),
      failed.1 ∙ ap (λ bytes. g.W.Output.held c.args.output.now ++ take failed.0 bytes) c.as_bytes.ensures.value,
    )
