use Rattle.std.proofs.Common.{rules, ap, sym, ◌∙◌, ◌==◌, not, filter}
use Rattle.std.proofs.lemmas.Fn.{filter_same}
use Rattle.node_table.specs.Lists.{in_order}
use Rattle.node_table.proofs.list.NodeIdList.remove.Goals as goal

pub returns-in-Many : goal.returns-in-Many
returns-in-Many c =
    let had = ap (λ v. v.items) c.deref_mut.ensures.value ∙ ap in_order (sym c.in-Many.is) ∙ c.self.view_is in
    filter_same _ (λ n. not (n == c.args.id)) _ (λ x b f' k. search rules) _ _ c.retain.ensures.filtered ∙ ap (filter (λ n. not (n == c.args.id))) had
