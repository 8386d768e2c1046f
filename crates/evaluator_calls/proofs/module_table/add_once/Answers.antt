use Rattle.std.proofs.Common.{◌≡◌, Bool, true, false, not, cond, ◌++◌, ◌∷◌, [], ap, sym, refl, ◌∙◌}
use Rattle.std.specs.Prelude.{nat_eq}
use Rattle.std.specs.List.{list_any}
use Rattle.std.specs.Cmp.Lexicographic.{pointwise}
use Rattle.values_modules.specs.Values.{Body}
use Rattle.evaluator_calls.proofs.Each.{any_labels}
use Rattle.evaluator_calls.proofs.module_table.add_once.Goals as goal

is_absent : (has : Bool) → true ≡ not has → has ≡ false
is_absent true e = cc
is_absent false e = refl

is_there : (has : Bool) → false ≡ not has → has ≡ true
is_there true e = refl
is_there false e = cc

pub returns-in_ok-push-clause-once : goal.returns-in_ok-push-clause-once
returns-in_ok-push-clause-once c =
    let m = c.args.m.now in let all = c.args.all.now.items in
    let any = sym (any_labels m.label all) ∙ ap (λ ks. list_any (pointwise nat_eq m.label) ks) (sym c.requires) ∙ ap (λ x. list_any (pointwise nat_eq x) c.args.labels.now.keys) (sym (c.in_ok-share.ensures ∙ c.label.ensures)) ∙ is_absent (list_any (pointwise nat_eq c.in_ok-share.field-0) c.args.labels.now.keys) (sym c.if-is_new.true ∙ c.in_ok-is_new.ensures.added) in
    c.in_ok-push.ensures.items ∙ ap (λ (x : Body). all ++ x ∷ []) c.in_ok-share-2.ensures ∙ sym (ap (λ b. cond b all (all ++ m ∷ [])) any)

pub returns-else-is_new-clause-once : goal.returns-else-is_new-clause-once
returns-else-is_new-clause-once c =
    let m = c.args.m.now in let all = c.args.all.now.items in
    let any = sym (any_labels m.label all) ∙ ap (λ ks. list_any (pointwise nat_eq m.label) ks) (sym c.requires) ∙ ap (λ x. list_any (pointwise nat_eq x) c.args.labels.now.keys) (sym (c.in_ok-share.ensures ∙ c.label.ensures)) ∙ is_there (list_any (pointwise nat_eq c.in_ok-share.field-0) c.args.labels.now.keys) (sym c.if-is_new.false ∙ c.in_ok-is_new.ensures.added) in
    sym (ap (λ b. cond b all (all ++ m ∷ [])) any)
