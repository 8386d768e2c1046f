use Rattle.std.proofs.Common.{◌∙◌, ap, drop, length, arith, length-append}
use Rattle.std.specs.List.{concat}
use Rattle.std.proofs.lemmas.List.{drop_at}
use Rattle.node_table.specs.Flats.{ends}
use Rattle.node_table.proofs.Flats.{length_ends}
use Rattle.node_table.proofs.flat.FlatGroups.members.Goals as goal

pub split_at-requires : goal.split_at-requires
split_at-requires c = omega (arith, ap length c.rest.ensures, length-append (ends 0 c.args.self.now) (concat c.args.self.now), length_ends 0 c.args.self.now, c.len.ensures)

pub returns : goal.returns
returns c = c.split_at.ensures.back ∙ (λ i. drop (c.len.ensures i) (c.rest.ensures i)) ∙ drop_at (ends 0 c.args.self.now) (concat c.args.self.now) (length c.args.self.now) (length_ends 0 c.args.self.now)
