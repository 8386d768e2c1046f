use Rattle.std.proofs.Common.{[], ◌++◌, map, ap, ◌∙◌, Vec, Global}
use Rattle.base_types.specs.declared.text.Text.{Text}
use Rattle.syntax_tree.specs.Statements.{load_of, top_of}
use Rattle.syntax_tree.specs.Bindings.{load_names, top_names}
use Rattle.syntax_bindings.proofs.Finds.{kept_at_last, none_seen, finds_both}
use Rattle.syntax_bindings.proofs.names.file_names.Goals as goal

pub returns : goal.returns
returns c =
    let f = c.empty-found.result in let h = c.find_tops.new.found in
    let loads = load_names (map load_of c.args.file.now.loads.items) in let tops = top_names (map top_of c.args.file.now.tops.items) in
    ap (λ (v : Vec Text Global). v.items) c.into_names.ensures
    ∙ kept_at_last f h (loads ++ tops) [] [] (none_seen f c.empty-found.ensures.names)
    (ap (λ (v : Vec Text Global). v.items) c.empty-found.ensures.kept ∙ c.new.ensures.items)
    (finds_both f c.find_loads.new.found h loads tops (rw c.as_slice.ensures.value at c.in_ok-find_loads.ensures) (rw c.as_slice-2.ensures.value at c.in_ok-find_tops.ensures))
