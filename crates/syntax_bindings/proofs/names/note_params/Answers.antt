use Rattle.std.proofs.Common.{◌≡◌, ◌∷◌, ◌++◌, List, suc, drop, drop-cons, add-one, ap, sym, subst, ◌∙◌}
use Rattle.syntax_tree.specs.declared.def.Param.{Param}
use Rattle.syntax_bindings.specs.NameSets.{names_of, SameNames, names_of_params}
use Rattle.syntax_bindings.proofs.Finds.{params_more}
use Rattle.syntax_bindings.proofs.names.note_params.Goals as goal

pub loop-param-preserved : goal.loop-param-preserved
loop-param-preserved c =
    let ps = c.args.params.now in let i = c.loop-param.param-index in let p = c.param-item.result in
    let first : drop i ps ≡ p ∷ drop (suc i) ps = drop-cons ps i p c.loop-param-test.true ∙ ap (λ (q : Param). q ∷ drop (suc i) ps) (sym c.param-item.is) in
    let all = names_of_params ps ++ names_of c.args.found.now in
    record {
      names = rw add-one (params_more p.name (names_of_params (drop (suc i) ps)) (names_of c.loop-param.found) (names_of c.insert_unlisted.new.found) all
          (subst (λ (l : List Param). SameNames (names_of_params l ++ names_of c.loop-param.found) all) first c.loop-param.invariant.names) c.in_ok-insert_unlisted.ensures.names);
      kept = c.insert_unlisted.ensures.kept ∙ c.loop-param.invariant.kept;
    }
