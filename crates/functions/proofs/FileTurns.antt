-- What a file, a module and a package come to after the answers that they have taken.
use Rattle.std.proofs.Common.{◌≡◌, ℕ, ◌-◌, ◌≤◌, List, ◌∷◌, ◌++◌, length, take, drop, cond, None, Ok, Result, IfOk, ◌∙◌, ap, sym, subst, arith, length-append}
use Rattle.std.specs.Arc.{arc_value}
use Rattle.std.specs.declared.sync.Arc.{Arc}
use Rattle.std.specs.declared.alloc.Global.{Global}
use Rattle.std.proofs.lemmas.Bool.{le-ltb}
use Rattle.std.proofs.lemmas.List.{drop-append-le, length-map, take-append-le, take-map}
use Rattle.labels.specs.Labels.{Target}
use Rattle.syntax_tree.specs.Tree.{Fi}
use Rattle.values_modules.specs.Values.{ModuleValue}
use Rattle.engine_semantics.specs.Reply.{Reply, Ask, Done}
use Rattle.keys.specs.Turns.{values}
use Rattle.keys.specs.declared.key.Key.{Key}
use Rattle.keys.specs.declared.value.Value.{Value}
use Rattle.keys.specs.declared.value.Value.TheVariants as value
use Rattle.functions.specs.declared.source.Source.{Source}
use Rattle.functions.specs.Goes.{Follows}
use Rattle.functions.specs.Modules.{lookups, after_lookups, by_lookups}
use Rattle.functions.specs.Once.{once}
use Rattle.functions.specs.Packages as packages
use Rattle.functions.specs.Sources.{fault_at, all_modules, after_modules, after_loads}
use Rattle.functions.specs.declared.reply.FileTurn as made
use Rattle.functions.specs.declared.reply.FileTurn.TheVariants as reply
use Rattle.functions.proofs.Further.{modules_more}
use Rattle.functions.proofs.SourceSteps.{rest_values}

abbrev asking : List Key → Reply Key Value
asking group = Ask group

-- after the modules of the loads comes the evaluation
loads_on : (source : Source) (file : Fi) (keys : List Key) (loads : List ModuleValue) (answers more : List Value) → length (once keys) ≤ length answers → all_modules source.path (once keys) keys answers ≡ Ok loads
    → after_loads source file (Ok keys) (answers ++ more) ≡ after_modules source file (Ok loads) (drop (length (once keys)) answers ++ more)
loads_on source file keys loads answers more h found =
    let all = answers ++ more in
    let there : length (once keys) ≤ length all = omega (arith, h, length-append answers more) in
    ap (λ b. cond b (asking (once keys)) (after_modules source file (all_modules source.path (once keys) keys all) (drop (length (once keys)) all))) (le-ltb (length all) (length (once keys)) there)
    ∙ (λ i. after_modules source file (modules_more source.path (once keys) keys answers more h i) (drop-append-le (length (once keys)) answers more h i))
    ∙ ap (λ r. after_modules source file r (drop (length (once keys)) answers ++ more)) found

pub after_loads_on : (source : Source) (file : Fi) (keys group : List Key) (answers : List (Arc Value Global)) (loads : List ModuleValue) (n : ℕ) → group ≡ once keys → n ≡ length group → n ≤ length answers
    → all_modules source.path group keys (values answers) ≡ Ok loads
    → Follows (after_loads source file (Ok keys)) (values answers) (after_modules source file (Ok loads)) (values (take (length answers - n) (drop n answers)))
after_loads_on source file keys group answers loads n g e h found = λ more.
    let size : n ≡ length (once keys) = e ∙ ap length g in
    let many : length (values answers) ≡ length answers = length-map answers (λ (x : Arc Value Global). arc_value x) in
    loads_on source file keys loads (values answers) more (omega (arith, size, many, h)) (ap (λ j. all_modules source.path j keys (values answers)) (sym g) ∙ found)
    ∙ ap (λ l. after_modules source file (Ok loads) (l ++ more)) (ap (λ m. drop m (values answers)) (sym size) ∙ rest_values answers n)

-- a package that the look-up does not find is none
pub no_package : (name : List ℕ) (answers rest : List (Arc Value Global)) (look : Arc Value Global) → answers ≡ look ∷ rest → packages.build_in (arc_value look) ≡ None
    → packages.next name (values answers) ≡ Done (value.Fault (fault_at 1 name 0))
no_package name answers rest look e found = ap (λ l. packages.next name (values l)) e ∙ ap (λ b. packages.after_lookup name b (values rest)) found

-- ---- modules

-- after the look-ups of a module comes its file
taken_on : (t : Target) (answers more : List Value) → length (lookups t) ≤ length answers
    → by_lookups t (answers ++ more) ≡ after_lookups t (take (length (lookups t)) answers) (drop (length (lookups t)) answers ++ more)
taken_on t answers more h =
    let all = answers ++ more in
    let n = length (lookups t) in
    let there : n ≤ length all = omega (arith, h, length-append answers more) in
    ap (λ b. cond b (asking (lookups t)) (after_lookups t (take n all) (drop n all))) (le-ltb (length all) n there)
    ∙ (λ i. after_lookups t (take-append-le n answers more h i) (drop-append-le n answers more h i))

pub lookups_on : (t : Target) (group : List Key) (answers : List (Arc Value Global)) (n : ℕ) → group ≡ lookups t → n ≡ length group → n ≤ length answers
    → Follows (by_lookups t) (values answers) (after_lookups t (values (take n answers))) (values (take (length answers - n) (drop n answers)))
lookups_on t group answers n g e h = λ more.
    let size : n ≡ length (lookups t) = e ∙ ap length g in
    let many : length (values answers) ≡ length answers = length-map answers (λ (x : Arc Value Global). arc_value x) in
    taken_on t (values answers) more (omega (arith, size, many, h))
    ∙ ap (λ m. after_lookups t (take m (values answers)) (drop m (values answers) ++ more)) (sym size)
    ∙ (λ i. after_lookups t (take-map (λ (x : Arc Value Global). arc_value x) n answers i) (rest_values answers n i ++ more))

-- ---- faults
