use Rattle.std.proofs.Common.{◌∷◌, ◌++◌, [], Vec, Global, ap, sym, ◌∙◌}
use Rattle.base_types.specs.declared.text.Text.{Text}
use Rattle.syntax_bindings.proofs.Finds.{finds_again, finds_new}
use Rattle.syntax_bindings.proofs.finding.find.Goals as goal

pub returns-then-is_found : goal.returns-then-is_found
returns-then-is_found c = finds_again c.args.found.now c.args.x.now (sym c.if-is_found.ensures)

pub returns : goal.returns
returns c =
    let f = c.args.found.now in
    finds_new f (record c.insert_unlisted.new.found { kept = c.push.new.self }) c.args.x.now (sym c.if-is_found.ensures) c.in_ok-insert_unlisted.ensures.names
    (c.in_ok-push.ensures.items ∙ ap (λ (v : Vec Text Global). v.items ++ c.in_ok-share.field-0 ∷ []) c.insert_unlisted.ensures.kept ∙ ap (λ y. f.kept.items ++ y ∷ []) c.in_ok-share.ensures)
