use Rattle.std.proofs.Common.{[], ap, ◌∙◌, Vec, Global}
use Rattle.base_types.specs.declared.text.Text.{Text}
use Rattle.syntax_tree.specs.View.{clause_trees}
use Rattle.syntax_tree.specs.Bindings.{clause_names}
use Rattle.syntax_bindings.proofs.Finds.{kept_at_last, none_seen}
use Rattle.syntax_bindings.proofs.names.clause_names.Goals as goal

pub returns : goal.returns
returns c =
    let f = c.empty-found.result in
    ap (λ (v : Vec Text Global). v.items) c.into_names.ensures
    ∙ kept_at_last f c.find_clauses.new.found (clause_names (clause_trees c.args.clauses.now)) [] [] (none_seen f c.empty-found.ensures.names)
    (ap (λ (v : Vec Text Global). v.items) c.empty-found.ensures.kept ∙ c.new.ensures.items) c.in_ok-find_clauses.ensures
