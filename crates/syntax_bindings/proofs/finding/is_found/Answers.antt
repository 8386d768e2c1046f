use Rattle.std.proofs.Common.{◌∙◌, ap, sym, true, cond}
use Rattle.syntax_tree.specs.Bindings.{has_name}
use Rattle.syntax_bindings.proofs.Finds.{has-append, has_any}
use Rattle.syntax_bindings.proofs.finding.is_found.Goals as goal

pub returns-then-is_among : goal.returns-then-is_among
returns-then-is_among c =
    let x = c.args.x.now in let f = c.args.found.now in
    c.if-is_among.true ∙ sym (has-append x f.few.items f.more.keys ∙ ap (λ b. cond b true (has_name x f.more.keys)) (sym (c.if-is_among.ensures ∙ ap (λ l. has_name x l) c.as_slice.ensures.value)))

pub returns-else-is_among : goal.returns-else-is_among
returns-else-is_among c =
    let x = c.args.x.now in let f = c.args.found.now in
    c.contains.ensures ∙ has_any x f.more.keys ∙ sym (has-append x f.few.items f.more.keys ∙ ap (λ b. cond b true (has_name x f.more.keys)) (sym (c.if-is_among.ensures ∙ ap (λ l. has_name x l) c.as_slice.ensures.value)))
