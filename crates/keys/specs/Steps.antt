-- What a turn that was made leads to.
use Rattle.std.specs.Prelude.{◌≡◌, List}
use Rattle.engine_semantics.specs.Reply.{Reply, Ask, Done}
use Rattle.keys.specs.Jobs.{JobView}
use Rattle.keys.specs.declared.key.Key.{Key}
use Rattle.keys.specs.declared.value.Value.{Value}
use Rattle.keys.specs.declared.turned.TurnEnd.{TurnEnd}
use Rattle.keys.specs.declared.turned.TurnEnd.TheVariants as step

-- it waits for the group that `next` gives for the job, or ends with the value that `next` gives
abbrev pub IsStep : {R S : Type 0} → (Key → List Value → Reply Key Value) → JobView → TurnEnd R S → Type 0
IsStep next asked (step.Paused w group) = (w.key ≡ asked.key) × (w.answers ≡ asked.answers) × (next asked.key asked.answers ≡ Ask group.items)
IsStep next asked (step.Done key v) = (key ≡ asked.key) × (next asked.key asked.answers ≡ Done v)
