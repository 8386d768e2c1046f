use Rattle.filetree.proofs.NameMaps.{mapped_cloned}
use Rattle.filetree.proofs.name_map.copy_map.Goals as goal

pub returns : goal.returns
returns g c = mapped_cloned c.args.map.now.entries c.in_ok-copy.copy.entries c.in_ok-copy.ensures.cases
