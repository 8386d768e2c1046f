-- The groups of .bzl files and BUILD files have no key twice, and they end with no cycle.
use Rattle.std.proofs.Common.{◌≡◌, ◌≢◌, inl, inr, ℕ, zero, suc, List, [], ◌∷◌, ◌++◌, map, take, drop, length, Bool, true, false, cond, not, ◌||◌, ◌&&◌, ◌==◌, Option, Some, None, Result, Ok, Err, refl, ap, sym, subst, ◌∙◌}
use Rattle.std.specs.Prelude.{nat_lt}
use Rattle.std.specs.List.{AllByRecursion}
use Rattle.std.specs.Cmp.{unsigned_Decides}
use Rattle.std.specs.Cmp.Lexicographic.{pointwise}
use Rattle.std.proofs.lemmas.Bool.{or_cases, false≢true}
use Rattle.values_semantics.specs.declared.faults.TheConstants.{BAD_LABEL, BOUNDARY_CROSSED, NO_MODULE, NO_PACKAGE}
use lib.Pointwise.{pointwise_decides}
use Rattle.engine_semantics.specs.Reply.{Reply, Ask, Done}
use Rattle.engine_semantics.specs.Value.{AllDiffer}
use Rattle.labels.specs.Labels.{Target, label_of, label_file, boundaries}
use Rattle.syntax_tree.specs.Tree.{Fi}
use Rattle.syntax_tokens.specs.Reading as tokens
use Rattle.syntax_grammar.specs.Files.{parse_of}
use Rattle.values_modules.specs.Values.{ModuleValue}
use Rattle.evaluator_semantics.specs.Environment.{Env}
use Rattle.evaluator_semantics.specs.Files.{Outcome, a_module, a_package, a_need, a_fault, evaluate}
use Rattle.keys.specs.Keys.{key_eq, kind, name_of, pattern_of, scope}
use Rattle.keys.specs.declared.key.Key.{Key}
use Rattle.keys.specs.declared.key.Key.TheVariants as key
use Rattle.keys.specs.declared.value.BuildName.{BuildName}
use Rattle.keys.specs.declared.value.Fault.{Fault}
use Rattle.keys.specs.declared.value.Value.{Value}
use Rattle.keys.specs.declared.value.Value.TheVariants as value
use Rattle.keys.specs.Turns.{NoCycle}
use Rattle.functions.specs.declared.source.Source.{Source}
use Rattle.functions.specs.Once.{has_key, once_behind, once}
use Rattle.functions.specs.Sources.{fault_at, load_key, each_or_fault, all_modules, glob_group, with_paths, value_or_group, goes_on, rounds, env_of, after_modules, after_loads, after_parse, text_in, after_text, by_file}
use Rattle.functions.specs.Modules as modules
use Rattle.functions.specs.Packages as packages

-- ---- members once

own_key : (k : Key) → key_eq k k ≡ true
own_key k =
    join ((unsigned_Decides (kind k) (kind k)).1 refl)
    (join ((pointwise_decides unsigned_Decides (name_of k) (name_of k)).1 refl)
    (join ((pointwise_decides unsigned_Decides (pattern_of k) (pattern_of k)).1 refl) ((unsigned_Decides (scope k) (scope k)).1 refl)))
  where
    join : {p q : Bool} → p ≡ true → q ≡ true → p && q ≡ true
    join {p} {q} h g = ap (λ x. x && q) h ∙ g

either_left : (a b : Bool) → a ≡ true → a || b ≡ true
either_left a b h = ap (λ x. x || b) h

either_right : (a b : Bool) → b ≡ true → a || b ≡ true
either_right true b h = refl
either_right false b h = h

has_more : (k : Key) (done more : List Key) → has_key k done ≡ true → has_key k (done ++ more) ≡ true
has_more k [] more h = absurd (false≢true h)
has_more k (j ∷ done) more h =
    elim (or_cases (key_eq k j) (has_key k done) h) [
      | inl here ↦ either_left (key_eq k j) (has_key k (done ++ more)) here
      | inr there ↦ either_right (key_eq k j) (has_key k (done ++ more)) (has_more k done more there)
    ]

has_last : (k : Key) (done : List Key) → has_key k (done ++ k ∷ []) ≡ true
has_last k [] = either_left (key_eq k k) false (own_key k)
has_last k (j ∷ done) = either_right (key_eq k j) (has_key k (done ++ k ∷ [])) (has_last k done)

fresh : (k : Key) (keys done : List Key) → has_key k done ≡ true → AllByRecursion (λ j. k ≢ j) (once_behind done keys)
fresh k [] done h = tt
fresh k (j ∷ keys) done h = go (has_key j done) refl (fresh k keys done h) (fresh k keys (done ++ j ∷ []) (has_more k done (j ∷ []) h))
  where
    go : (t : Bool) → has_key j done ≡ t → AllByRecursion (λ i. k ≢ i) (once_behind done keys) → AllByRecursion (λ i. k ≢ i) (once_behind (done ++ j ∷ []) keys)
        → AllByRecursion (λ i. k ≢ i) (cond t (once_behind done keys) (j ∷ once_behind (done ++ j ∷ []) keys))
    go true e same later = same
    go false e same later = ((λ q. false≢true (sym e ∙ ap (λ i. has_key i done) (sym q) ∙ h)), later)

once_differ : (keys done : List Key) → AllDiffer (once_behind done keys)
once_differ [] done = tt
once_differ (k ∷ keys) done = go (has_key k done) (once_differ keys done) (once_differ keys (done ++ k ∷ [])) (fresh k keys (done ++ k ∷ []) (has_last k done))
  where
    go : (t : Bool) → AllDiffer (once_behind done keys) → AllDiffer (once_behind (done ++ k ∷ []) keys) → AllByRecursion (λ i. k ≢ i) (once_behind (done ++ k ∷ []) keys)
        → AllDiffer (cond t (once_behind done keys) (k ∷ once_behind (done ++ k ∷ []) keys))
    go true same later apart = same
    go false same later apart = (apart, later)

-- ---- turns

abbrev asking : List Key → Reply Key Value
asking group = Ask group

abbrev ending : Value → Reply Key Value
ending v = Done v

-- a turn asks for no key twice, and ends with no cycle
pub record IsGood (r : Reply Key Value) : Type 0 where
  pub differ : (group : List Key) → r ≡ Ask group → AllDiffer group
  pub plain : (v : Value) → r ≡ Done v → NoCycle v

good_group : (g : List Key) → AllDiffer g → IsGood (Ask g)
good_group g d = record {
  differ = λ group e. let h : g ≡ group = same g group e in subst AllDiffer h d;
  plain = λ v e. absurd (never g v e);
}
  where
    same : (g group : List Key) → asking g ≡ Ask group → g ≡ group
    same g group e = cc

    never : (g : List Key) (v : Value) → asking g ≡ Done v → ⊥
    never g v e = cc

good_end : (u : Value) → NoCycle u → IsGood (Done u)
good_end u p = record {
  differ = λ group e. absurd (never u group e);
  plain = λ v e. subst NoCycle (same u v e) p;
}
  where
    same : (u v : Value) → ending u ≡ Done v → u ≡ v
    same u v e = cc

    never : (u : Value) (group : List Key) → ending u ≡ Ask group → ⊥
    never u group e = cc

good_if : (t : Bool) (r s : Reply Key Value) → IsGood r → IsGood s → IsGood (cond t r s)
good_if true r s g h = g
good_if false r s g h = h

good_fault : (code : ℕ) (path : List ℕ) (line : ℕ) → IsGood (Done (value.Fault (fault_at code path line)))
good_fault code path line = good_end (value.Fault (fault_at code path line)) tt

good_once : (keys : List Key) → IsGood (Ask (once keys))
good_once keys = good_group (once keys) (once_differ keys [])

good_one : (k : Key) → IsGood (Ask (k ∷ []))
good_one k = good_group (k ∷ []) (tt, tt)

good_outcome : (env : Env) (o : Outcome) → IsGood (value_or_group env o)
good_outcome env (a_module loaded) = good_end (value.Module loaded) tt
good_outcome env (a_package targets) = good_end (value.Package targets) tt
good_outcome env (a_need patterns) = good_once (Rattle.functions.specs.Sources.glob_keys env.package_name patterns)
good_outcome env (a_fault code site) = good_fault code site.path site.line

good_going : (more : Env → List Value → Reply Key Value) → ((e : Env) (a : List Value) → IsGood (more e a)) → (env : Env) (o : Outcome) (answers : List Value) → IsGood (goes_on more env o answers)
good_going more h env (a_module loaded) answers = good_end (value.Module loaded) tt
good_going more h env (a_package targets) answers = good_end (value.Package targets) tt
good_going more h env (a_fault code site) answers = good_fault code site.path site.line
good_going more h env (a_need patterns) answers =
    let group = glob_group env.package_name patterns in
    good_if (nat_lt (length answers) (length group)) (Ask group) (more (with_paths env patterns answers) (drop (length group) answers))
    (good_once (Rattle.functions.specs.Sources.glob_keys env.package_name patterns)) (h (with_paths env patterns answers) (drop (length group) answers))

good_rounds : (n : ℕ) (env : Env) (answers : List Value) → IsGood (rounds n env answers)
good_rounds zero env answers = good_outcome env (evaluate env)
good_rounds (suc n) env answers = good_going (λ e a. rounds n e a) (good_rounds n) env (evaluate env) answers

good_modules : (source : Source) (file : Fi) (found : Result (List ModuleValue) Fault) (answers : List Value) → IsGood (after_modules source file found answers)
good_modules source file (Err f) answers = good_end (value.Fault f) tt
good_modules source file (Ok loads) answers = good_rounds (length answers) (env_of source file loads) answers

good_loads : (source : Source) (file : Fi) (found : Result (List Key) Fault) (answers : List Value) → IsGood (after_loads source file found answers)
good_loads source file (Err f) answers = good_end (value.Fault f) tt
good_loads source file (Ok keys) answers =
    good_if (nat_lt (length answers) (length (once keys))) (Ask (once keys)) (after_modules source file (all_modules source.path (once keys) keys answers) (drop (length (once keys)) answers))
    (good_once keys) (good_modules source file (all_modules source.path (once keys) keys answers) (drop (length (once keys)) answers))

good_parse : (source : Source) (found : Result Fi tokens.Fault) (answers : List Value) → IsGood (after_parse source found answers)
good_parse source (Err f) answers = good_fault f.code source.path f.line
good_parse source (Ok file) answers = good_loads source file (each_or_fault (load_key source) file.loads) answers

good_text : (source : Source) (text : Option (List ℕ)) (answers : List Value) → IsGood (after_text source text answers)
good_text source None answers = good_fault NO_MODULE source.path 0
good_text source (Some text) answers = good_parse source (parse_of source.kind text) answers

good_file : (source : Source) (answers : List Value) → IsGood (by_file source answers)
good_file source [] = good_one (key.File source.path)
good_file source (file ∷ answers) = good_text source (text_in file) answers

good_looks : (t : Target) (looks answers : List Value) → IsGood (modules.after_lookups t looks answers)
good_looks t looks answers =
    good_if (not (modules.is_in_package looks)) (Done (value.Fault (fault_at NO_PACKAGE t.package_name 0))) (cond (modules.is_crossed looks) (Done (value.Fault (fault_at BOUNDARY_CROSSED (label_file t) 0))) (by_file (modules.source_of t) answers))
    (good_fault NO_PACKAGE t.package_name 0)
    (good_if (modules.is_crossed looks) (Done (value.Fault (fault_at BOUNDARY_CROSSED (label_file t) 0))) (by_file (modules.source_of t) answers) (good_fault BOUNDARY_CROSSED (label_file t) 0) (good_file (modules.source_of t) answers))

good_target : (label : List ℕ) (t : Option Target) (answers : List Value) → IsGood (modules.of_label label t answers)
good_target label None answers = good_fault BAD_LABEL label 0
good_target label (Some t) answers =
    let group = modules.lookups t in
    good_if (nat_lt (length answers) (length group)) (Ask group) (modules.after_lookups t (take (length group) answers) (drop (length group) answers))
    (good_once (key.Lookup t.package_name ∷ map (λ name. key.Lookup name) (boundaries t))) (good_looks t (take (length group) answers) (drop (length group) answers))

pub good_module : (label : List ℕ) (answers : List Value) → IsGood (modules.next label answers)
good_module label answers = good_target label (label_of label []) answers

good_build : (name : List ℕ) (build : Option BuildName) (answers : List Value) → IsGood (packages.after_lookup name build answers)
good_build name None answers = good_fault NO_PACKAGE name 0
good_build name (Some build) answers = good_file (packages.source_of name build) answers

pub good_package : (name : List ℕ) (answers : List Value) → IsGood (packages.next name answers)
good_package name [] = good_one (key.Lookup name)
good_package name (look ∷ answers) = good_build name (packages.build_in look) answers
