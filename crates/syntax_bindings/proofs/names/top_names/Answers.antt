use Rattle.std.proofs.Common.{[], ap, ◌∙◌, Vec, Global, map}
use Rattle.base_types.specs.declared.text.Text.{Text}
use Rattle.syntax_tree.specs.Statements.{top_of}
use Rattle.syntax_tree.specs.Bindings.{top_names}
use Rattle.syntax_bindings.proofs.Finds.{kept_at_last, none_seen}
use Rattle.syntax_bindings.proofs.names.top_names.Goals as goal

pub returns : goal.returns
returns c =
    let f = c.empty-found.result in
    ap (λ (v : Vec Text Global). v.items) c.into_names.ensures
    ∙ kept_at_last f c.find_tops.new.found (top_names (map top_of c.args.tops.now)) [] [] (none_seen f c.empty-found.ensures.names)
    (ap (λ (v : Vec Text Global). v.items) c.empty-found.ensures.kept ∙ c.new.ensures.items) c.in_ok-find_tops.ensures
