use Rattle.std.proofs.Common.{ap, ◌∙◌, Vec, Global}
use Rattle.base_types.specs.declared.text.Text.{Text}
use Rattle.syntax_tree.specs.Statements.{stmts_of}
use Rattle.syntax_tree.specs.Bindings.{suite_names}
use Rattle.syntax_bindings.specs.NameSets.{names_of, names_of_params}
use Rattle.syntax_bindings.proofs.Finds.{kept_at_last, only_these}
use Rattle.syntax_bindings.proofs.names.function_names.Goals as goal

pub returns : goal.returns
returns c =
    let f = c.empty-found.result in let g = c.note_params.new.found in let own = names_of_params c.args.params.now in
    ap (λ (v : Vec Text Global). v.items) c.into_names.ensures
    ∙ kept_at_last g c.find_suite.new.found (suite_names (stmts_of c.args.body.now)) own own
    (only_these (names_of g) own (names_of f) c.in_ok-note_params.ensures.names c.empty-found.ensures.names)
    (ap (λ (v : Vec Text Global). v.items) (c.note_params.ensures.kept ∙ c.empty-found.ensures.kept) ∙ c.in_ok-names_of.ensures) c.in_ok-find_suite.ensures
