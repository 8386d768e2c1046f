-- A command of the code, as the definitions see it.
use Rattle.std.specs.Prelude.{ℕ, List, map}
use Rattle.std.specs.Borrow.{Bor}
use Rattle.filetree.specs.ChangeView.{changes_seen}
use Rattle.loader_commands.specs.Commands as commands
use Rattle.loader_commands.specs.declared.command.Edit.{Edit}
use Rattle.loader_commands.specs.declared.command.Edit.TheVariants.{Put, Del, Batch}
use Rattle.loader_commands.specs.declared.command.Request.{Request}
use Rattle.loader_commands.specs.declared.command.Request.TheVariants.{Find, Load, Module, Under}
use Rattle.loader_commands.specs.declared.command.Command.{Command}
use Rattle.loader_commands.specs.declared.command.Command.TheVariants.{Change, Ask}

abbrev pub edit_seen : Edit → commands.Edit
edit_seen (Put path text) = commands.one (commands.put path.now text.now)
edit_seen (Del path) = commands.one (commands.del path.now)
edit_seen (Batch changes) = commands.batch (changes_seen changes.items)

-- the texts that references point to
abbrev pub texts_seen : List (Bor (List ℕ)) → List (List ℕ)
texts_seen = map (λ t. t.now)

abbrev pub request_seen : Request → commands.Request
request_seen (Find name) = commands.find name.now
request_seen (Load names) = commands.load (texts_seen names.items)
request_seen (Module label) = commands.module_of label.now
request_seen (Under directory) = commands.under directory.now

abbrev pub command_seen : Command → commands.Command
command_seen (Change edit) = commands.change (edit_seen edit)
command_seen (Ask request) = commands.ask (request_seen request)
