-- One item more of a list of which each may be faulty, and what comes after a group.
use Rattle.std.proofs.Common.{◌≡◌, ℕ, ◌+◌, ◌-◌, ◌<◌, ◌≤◌, List, [], ◌∷◌, ◌++◌, length, take, drop, get_or, true, false, cond, not, Result, Ok, Err, IfOk, subst, refl, sym, ◌∙◌, ap, arith}
use Rattle.std.specs.Prelude.{nat_lt}
use Rattle.std.specs.Arc.{arc_value}
use Rattle.std.specs.declared.sync.Arc.{Arc}
use Rattle.std.specs.declared.alloc.Global.{Global}
use Rattle.std.proofs.lemmas.Bool.{le-ltb}
use Rattle.std.proofs.lemmas.List.{append_assoc, append-nil, length-map, length-drop, drop-map, take-map, take_all}
use Rattle.keys.specs.Turns.{values}
use Rattle.keys.specs.declared.value.Value.{Value}
use Rattle.labels.specs.Labels.{Target, label_file}
use Rattle.functions.specs.Modules.{is_in_package, is_crossed, source_of, after_lookups}
use Rattle.functions.specs.Sources.{faulty, by_file}

-- ---- groups

-- those after a group, as a slice takes them
pub rest_values : (answers : List (Arc Value Global)) (n : ℕ) → drop n (values answers) ≡ values (take (length answers - n) (drop n answers))
rest_values answers n = drop-map (λ (x : Arc Value Global). arc_value x) n answers ∙ ap values (sym (take_all (length answers - n) (drop n answers) (omega (arith, length-drop n answers))))

-- what comes in a package that the label does not leave
pub after_lookups_is : (t : Target) (looks answers : List Value) → is_in_package looks ≡ true → is_crossed looks ≡ false → after_lookups t looks answers ≡ by_file (source_of t) answers
after_lookups_is t looks answers inside crossed =
    let leaves = faulty 17 (label_file t) 0 in
    ap (λ b. cond (not b) (faulty 1 t.package_name 0) (cond (is_crossed looks) leaves (by_file (source_of t) answers))) inside
    ∙ ap (λ b. cond b leaves (by_file (source_of t) answers)) crossed

-- a fact of what is returned, from another
pub weaken : {A E : Type 0} (P Q : A → Type 0) (r : Result A E) → ((x : A) → P x → Q x) → IfOk r P → IfOk r Q
weaken P Q (Ok x) h p = h x p
weaken P Q (Err e) h p = tt
