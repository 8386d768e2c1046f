use Rattle.std.proofs.Common.{◌∙◌, ap}
use Rattle.node_table.specs.Flats.{items_of, groups_in}
use Rattle.node_table.proofs.Flats.{groups_back}
use Rattle.node_table.proofs.groups.NodeIdGroups.of.Goals as goal

pub returns-in-Some-clause-keys : goal.returns-in-Some-clause-keys
returns-in-Some-clause-keys g c =
    ap (groups_in c.args.table.now) c.in-Some.ensures ∙ groups_back c.args.table.now c.len-keys.ensures.distinct (items_of c.args.groups.now) c.requires

pub returns-clause-keys : goal.returns-clause-keys
returns-clause-keys g c =
    ap (groups_in c.args.table.now) (c.in_ok-new.ensures.ok ∙ c.in_ok-flat.ensures) ∙ groups_back c.args.table.now c.len-keys.ensures.distinct (items_of c.args.groups.now) c.requires
