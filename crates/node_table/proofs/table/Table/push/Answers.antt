use Rattle.std.proofs.Common.{◌≡◌, ◌∙◌, ◌++◌, [], ◌∷◌, None, sym, ap, subst}
use Rattle.node_table.specs.Tables.{value_of}
use Rattle.node_table.proofs.Numbers.{pushed_last}
use Rattle.node_table.proofs.table.Table.push.Goals as goal

pub returns-clause-ok : goal.returns-clause-ok
returns-clause-ok g c =
    c.in_ok-insert.ensures.entries ∙ pushed_last c.self.inside.entries.entries c.args.key c.args.value (subst (λ es. value_of es c.args.key ≡ None) (sym c.self.view_is) c.requires) ∙ ap (λ es. es ++ (c.args.key, c.args.value) ∷ []) c.self.view_is
