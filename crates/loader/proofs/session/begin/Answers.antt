use Rattle.std.proofs.Common.{◌∙◌, ap, sym, subst}
use Rattle.std.specs.Prelude.{Option, option_map, option_and_then}
use Rattle.loader_commands.specs.Commands as commands
use Rattle.loader_commands.specs.View.{command_seen}
use Rattle.loader_commands.specs.declared.command.Command.{Command}
use Rattle.serde_json.specs.View.{view}
use Rattle.serde_json.specs.declared.value.Value.{Value}
use Rattle.loader.specs.LineAnswers.{Begins}
use Rattle.loader.proofs.session.begin.Goals as goal

pub returns-in_default-clause-begins : goal.returns-in_default-clause-begins
returns-in_default-clause-begins c =
    subst (λ (o : Option commands.Command). Begins o c.args.session.now c.args.session.now c.in_ok-begin_refused.field-0)
    (sym (ap (λ (v : Option Value). option_and_then commands.command_of (option_map view v)) c.in_default.is)) (c.in_ok-begin_refused.ensures c.args.session.now)

pub returns-in_ok-begin_refused-in-None-clause-begins : goal.returns-in_ok-begin_refused-in-None-clause-begins
returns-in_ok-begin_refused-in-None-clause-begins c =
    subst (λ (o : Option commands.Command). Begins o c.args.session.now c.args.session.now c.in_ok-begin_refused-in-None.field-0)
    (sym (ap (λ (v : Option Value). option_and_then commands.command_of (option_map view v)) c.in-Some.is ∙ (sym c.in_ok-command_of.ensures ∙ ap (λ (o : Option Command). option_map command_seen o) c.in-None.is))) (c.in_ok-begin_refused-in-None.ensures c.args.session.now)
