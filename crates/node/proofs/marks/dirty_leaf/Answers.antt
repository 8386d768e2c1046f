use Rattle.std.proofs.Common.{◌∙◌, refl, sym, inl}
use Rattle.node_table.proofs.Numbers.{none_without_number, number_iff}
use Rattle.node.proofs.Lists.{none_some}
use Rattle.node.proofs.marks.dirty_leaf.Goals as goal

pub returns-in_default-clause-ok : goal.returns-in_default-clause-ok
returns-in_default-clause-ok c =
    inl (refl, refl, λ e h. absurd (none_some (sym (none_without_number c.args.records.now c.args.leaf.now (sym c.id_of.ensures.number ∙ c.in_default.is)) ∙ h)))

pub returns-clause-ok : goal.returns-clause-ok
returns-clause-ok c = c.in_ok-dirty_if_clean.ensures.ok c.args.leaf.now ((number_iff c.args.records.now c.in-Some.ensures.distinct c.args.leaf.now c.in-Some.number).0 (sym c.in-Some.ensures.number))
