-- What a turn ends with, without its state.
use Rattle.std.specs.Prelude.{◌≡◌}
use Rattle.engine_semantics.specs.Reply.{Reply, Ask, Done}
use Rattle.keys.specs.declared.key.Key.{Key}
use Rattle.keys.specs.declared.value.Value.{Value}
use Rattle.functions_directories.specs.declared.reply.DirectoryTurn as made
use Rattle.functions_directories.specs.declared.reply.DirectoryTurn.TheVariants as reply

abbrev pub IsReply : Reply Key Value → made.DirectoryTurn → Type 0
IsReply next (reply.Ask group) = next ≡ Ask group.items
IsReply next (reply.Done v) = next ≡ Done v
