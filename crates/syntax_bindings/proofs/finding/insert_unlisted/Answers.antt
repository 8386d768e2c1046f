use Rattle.std.proofs.Common.{◌∷◌, ◌++◌, ℕ, List, ap, sym, ◌∙◌, subst, []}
use Rattle.std.specs.Prelude.{nat_eq}
use Rattle.std.specs.Cmp.Lexicographic.{pointwise}
use Rattle.indexmap.specs.IndexSet.{insert_key}
use Rattle.syntax_bindings.specs.NameSets.{SameNames}
use Rattle.syntax_bindings.proofs.Finds.{same_front, same_inserted}
use Rattle.syntax_bindings.proofs.finding.insert_unlisted.Goals as goal

pub returns-in_ok-push-clause-names : goal.returns-in_ok-push-clause-names
returns-in_ok-push-clause-names c =
    let x = c.args.x.now in let f = c.args.found.now in
    subst (λ (l : List (List ℕ)). SameNames (l ++ f.more.keys) (x ∷ (f.few.items ++ f.more.keys))) (sym (c.in_ok-push.ensures.items ∙ ap (λ y. f.few.items ++ y ∷ []) c.in_ok-x.ensures)) (same_front x f.few.items f.more.keys)

pub returns-in_ok-insert-clause-names : goal.returns-in_ok-insert-clause-names
returns-in_ok-insert-clause-names c =
    let x = c.args.x.now in let f = c.args.found.now in
    subst (λ (l : List (List ℕ)). SameNames (f.few.items ++ l) (x ∷ (f.few.items ++ f.more.keys))) (sym (c.in_ok-insert.ensures.keys ∙ ap (λ y. insert_key (pointwise nat_eq) f.more.keys y) c.in_ok-x.ensures)) (same_inserted x f.few.items f.more.keys)
