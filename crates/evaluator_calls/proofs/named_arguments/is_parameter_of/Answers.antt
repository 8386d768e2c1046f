use Rattle.std.proofs.Common.{rules, ◌≡◌, length, map, ap, sym, ◌∙◌}
use Rattle.std.specs.Prelude.{nat_lt}
use Rattle.std.proofs.lemmas.List.{length-map}
use Rattle.syntax_tree.specs.Statements.{param_of}
use Rattle.evaluator_calls.proofs.ParameterPlaces.{parameter_at, no_parameter}
use Rattle.evaluator_calls.proofs.named_arguments.is_parameter_of.Goals as goal

pub returns-in-Some : goal.returns-in-Some
returns-in-Some c =
    let d = c.args.def.now in
    let place = c.in-Some.place in
    let counted : c.len.result ≡ length d.params.items = search rules in
    ap (λ n. nat_lt place n) (counted ∙ sym (length-map d.params.items param_of))
    ∙ parameter_at c.args.x.now (map param_of d.params.items) _ c.args.index.now.keys place (c.requires ∙ d.bound) (sym c.get_index_of.ensures.index ∙ c.in-Some.is)

pub returns-in-None : goal.returns-in-None
returns-in-None c =
    let d = c.args.def.now in
    sym (no_parameter c.args.x.now (map param_of d.params.items) _ c.args.index.now.keys (c.requires ∙ d.bound) (sym c.get_index_of.ensures.index ∙ c.in-None.is))
