use Rattle.std.proofs.Common.{◌∙◌, ap, ◌∷◌, ◌++◌, []}
use Rattle.loader_replies.specs.Tokens.{tokens_of}
use Rattle.loader_events.specs.Lines.{line_data}
use Rattle.loader_events.proofs.line_json.line_text.Goals as goal

pub returns : goal.returns
returns c =
    let told = line_data c.args.graph.now c.args.last.now.runs.entries c.args.number c.args.facts.now c.args.runs.now in
    c.in_ok-end_line.ensures ∙ ap (λ bytes. bytes ++ 10 ∷ []) (c.into_text-text.ensures.value told (c.in_ok-write_line.ensures ∙ ap (λ ts. ts ++ tokens_of told) c.new-out.ensures))
