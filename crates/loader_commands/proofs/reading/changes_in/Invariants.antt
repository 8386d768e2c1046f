use Rattle.std.proofs.Common.{◌≡◌, drop, option_map, ◌++◌}
use Rattle.serde_json.specs.View.{items_view}
use Rattle.filetree.specs.ChangeView.{changes_seen}
use Rattle.loader_commands.specs.Commands.{changes_in}
use Rattle.loader_commands.proofs.reading.changes_in.Given as goal

abbrev pub invariant-loop-item : goal.invariant-loop-item
invariant-loop-item l = option_map (λ more. changes_seen l.all.items ++ more) (changes_in (items_view (drop l.item-index l.items))) ≡ changes_in (items_view l.items)
