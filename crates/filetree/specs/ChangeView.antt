-- A change of the code, as the definitions see it.
use Rattle.std.specs.Prelude.{List, map}
use Rattle.filetree.specs.Changes as changes
use Rattle.filetree.specs.declared.change.Change.{Change}
use Rattle.filetree.specs.declared.change.Change.TheVariants.{Put, Del}

abbrev pub change_seen : Change → changes.Change
change_seen (Put path text) = changes.put path.now text.now
change_seen (Del path) = changes.del path.now

abbrev pub changes_seen : List Change → List changes.Change
changes_seen = map change_seen
