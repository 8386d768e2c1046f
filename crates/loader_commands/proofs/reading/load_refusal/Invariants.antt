use Rattle.std.proofs.Common.{◌≡◌, drop}
use Rattle.std.specs.List.{list_all}
use Rattle.labels.specs.Paths.{is_package_name}
use Rattle.loader_commands.specs.View.{texts_seen}
use Rattle.loader_commands.proofs.reading.load_refusal.Given as goal

abbrev pub invariant-loop-name : goal.invariant-loop-name
invariant-loop-name l = list_all is_package_name (texts_seen (drop l.name-index l.names)) ≡ list_all is_package_name (texts_seen l.names)
