use Rattle.std.proofs.Common.{◌≡◌, map, ap, sym, ◌∙◌}
use Rattle.std.specs.List.{list_all}
use Rattle.std.proofs.lemmas.List.{drop-map, take_rest}
use Rattle.syntax_tree.specs.Requirements.{AreRequired, has_value}
use Rattle.syntax_tree.specs.Statements.{param_of}
use Rattle.syntax_tree.specs.Tree.{Pa}
use Rattle.syntax_bindings.proofs.parameters.required.Goals as goal

pub returns-then-have_defaults : goal.returns-then-have_defaults
returns-then-have_defaults c =
    let ps = c.args.params.now in
    let n = c.leading-number.result in
    record {
      plain = c.leading-number.ensures.plain;
      others = ap (list_all (λ (p : Pa). has_value p.default)) (drop-map param_of n ps ∙ ap (map param_of) (sym (take_rest ps n))) ∙ sym c.if-have_defaults.ensures;
    }
