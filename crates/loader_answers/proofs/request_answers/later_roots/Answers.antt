use Rattle.std.proofs.Common.{◌∙◌, ap, sym, Some, List}
use Rattle.keys.specs.declared.key.Key.{Key}
use Rattle.loader_commands.specs.View.{request_seen}
use Rattle.loader_commands.specs.declared.command.Request.{Request}
use Rattle.loader_answers.specs.Effects.{package_roots, request_roots, later_roots}
use Rattle.loader_answers.proofs.Requests.{names_told}
use Rattle.loader_answers.proofs.request_answers.later_roots.Goals as goal

pub returns-in_ok-keys-in-Under : goal.returns-in_ok-keys-in-Under
returns-in_ok-keys-in-Under c = λ files good only held.
    let named = names_told files c.in-Under.field-0.now c.args.roots.now c.args.graph.now c.names_held.result.now good c.names_held.ensures (only ∙ ap (λ (r : Request). request_roots (request_seen r)) c.in-Under.is) held in
    ap (λ (ks : List Key). Some ks) (c.in_ok-keys-in-Under.ensures ∙ ap package_roots named) ∙ sym (ap (λ (r : Request). later_roots (request_seen r) files) c.in-Under.is)
