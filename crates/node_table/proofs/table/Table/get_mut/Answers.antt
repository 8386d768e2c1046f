use Rattle.std.proofs.Common.{refl, ap, subst, ◌∙◌}
use Rattle.node_table.specs.Tables.{AreDistinct, value_of}
use Rattle.node_table.proofs.Numbers.{through}
use Rattle.node_table.proofs.table.Table.get_mut.Goals as goal

pub returns : goal.returns
returns g c =
    let f = c.get_mut.follows in (
      (
        refl,
        λ w. through c.self.inside.entries (f.lender w) c.args.self.now c.self.view_is c.args.key.now w (f.holds w),
        ap (λ m. m.entries) f.holds-at-none ∙ c.self.view_is,
      ),
      record {
        writes_back = tt;
        value = c.get_mut.ensures.value ∙ ap (λ es. value_of es c.args.key.now) c.self.view_is;
        distinct = subst (λ es. AreDistinct es) c.self.view_is c.self.invariant.distinct;
      },
    )
