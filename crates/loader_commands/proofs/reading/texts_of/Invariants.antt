use Rattle.std.proofs.Common.{◌≡◌, drop, option_map, ◌++◌}
use Rattle.serde_json.specs.View.{items_view}
use Rattle.loader_commands.specs.Commands.{texts_of}
use Rattle.loader_commands.specs.View.{texts_seen}
use Rattle.loader_commands.proofs.reading.texts_of.Given as goal

abbrev pub invariant-loop-item : goal.invariant-loop-item
invariant-loop-item l = option_map (λ more. texts_seen l.all.items ++ more) (texts_of (items_view (drop l.item-index l.items))) ≡ texts_of (items_view l.items)
