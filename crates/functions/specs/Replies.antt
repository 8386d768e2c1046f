-- What a turn ends with, without its state, where nothing waits.
use Rattle.std.specs.Prelude.{◌≡◌}
use Rattle.engine_semantics.specs.Reply.{Reply, Ask, Done}
use Rattle.keys.specs.declared.key.Key.{Key}
use Rattle.keys.specs.declared.value.Value.{Value}
use Rattle.functions.specs.declared.reply.FileTurn as made
use Rattle.functions.specs.declared.reply.FileTurn.TheVariants as reply

abbrev pub IsReply : Reply Key Value → made.FileTurn → Type 0
IsReply next (reply.Ask group) = next ≡ Ask group.items
IsReply next (reply.Wait group held) = ⊥
IsReply next (reply.Done v) = next ≡ Done v
