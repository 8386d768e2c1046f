-- The nodes of modules hold the modules that the files mean, and those of packages the packages.
use Rattle.std.proofs.Common.{◌≡◌, ◌≢◌, ◌<◌, ◌+◌, ◌-◌, ℕ, zero, suc, List, [], ◌∷◌, ◌++◌, zip, take, drop, length, Bool, true, false, cond, not, Option, Some, None, Result, Ok, Err, refl, sym, ap, subst, ◌∙◌, arith, length-append}
use Rattle.std.specs.FinMap as map_of
use Rattle.std.specs.List.{AllByRecursion, list_any}
use Rattle.std.proofs.lemmas.Bool.{lt-ltb}
use Rattle.std.proofs.lemmas.List.{append_assoc, append-nil}
use lib.Pointwise.{bytes_decides}
use Rattle.values_semantics.specs.Comparing.{same_text}
use Rattle.engine_semantics.specs.Reply.{Reply, Ask, Done}
use Rattle.engine_semantics.specs.Value.{Grounded}
use Rattle.engine_semantics.proofs.Unique.{same_value}
use Rattle.labels.specs.Paths.{is_package_name}
use Rattle.labels.specs.Labels.{Target, label_of, label_text, label_file, boundaries}
use Rattle.labels.proofs.Segments.{reads_back}
use Rattle.filetree.specs.Files.{Files}
use Rattle.filetree.specs.Lawful.{HasPaths}
use Rattle.pattern.specs.Globs.{is_package, answer_below}
use Rattle.syntax_grammar.specs.declared.kind.FileKind.{FileKind}
use Rattle.syntax_grammar.specs.declared.kind.FileKind.TheVariants as k
use Rattle.values_modules.specs.Values.{ModuleValue, Target as Made}
use Rattle.evaluator_semantics.specs.Environment.{Env, Answers}
use Rattle.evaluator_semantics.specs.Globs.{answer_to}
use Rattle.evaluator_semantics.specs.World.{Here, Ends, ended, failed, waits, then_runs, pure}
use Rattle.evaluator_semantics.specs.Files.{Outcome, a_module, a_package, a_need, a_fault, evaluate, frozen_module, leaves, statements, file_level, start, all_steps, outcome_of}
use Rattle.evaluator_semantics.specs.Laws.{AreRight, with_answers, IsFinished}
use Rattle.evaluator_semantics.proofs.MoreStatements.{modules_finish, needs_asked}
use Rattle.keys.specs.Keys.{key_eq}
use Rattle.functions_directories.specs.Globs.{glob_key}
use Rattle.keys.specs.declared.key.Key.{Key}
use Rattle.keys.specs.declared.key.Key.TheVariants as key
use Rattle.keys.specs.declared.value.BuildName.{BuildName}
use Rattle.keys.specs.declared.value.Fault.{Fault}
use Rattle.keys.specs.declared.value.Value.{Value}
use Rattle.keys.specs.declared.value.Value.TheVariants as value
use Rattle.functions_directories.specs.Lookups.{build_of}
use Rattle.functions.specs.Next.{next}
use Rattle.keys.specs.Leaves.{read}
use Rattle.functions.specs.Once.{has_key, answer_at}
use Rattle.functions.specs.Sources.{fault_at, env_of, glob_keys, glob_group, paths_or_none, paths_by, with_paths, value_or_group, goes_on, rounds, by_file}
use Rattle.functions.specs.Modules as modules
use Rattle.functions.specs.Packages as packages
use Rattle.functions.specs.Loads.{of_module, of_package, File, file_of, build_file}
use Rattle.functions.specs.FilePackages.{Module, Package, IsModule, IsPackage, of_file, of_load, evaluated, module_env, package_env, LeavesModule, LeavesPackage, a_value, faulty}
use Rattle.functions.proofs.WalkValues.{lookup_value, glob_grounded}
use Rattle.functions_directories.proofs.GlobTexts.{name_no_space}
use Rattle.functions.proofs.Runs as runs
use Rattle.functions.proofs.Runs.{AllOf, all_first, Runs, shifted, run_ended, run_asked, same_length, enough, rest_of, taken, all_hold}
use Rattle.functions.proofs.GroupKeys.{module_value, own_key, asked_once, answered, same_answer, either_left, either_right}
use Rattle.functions.proofs.Boundaries.{lookups_are}
use Rattle.functions.proofs.Lookups.{Looked, all_looked}
use Rattle.functions.proofs.NodeLoads.{IsValid, names_of, package_value, IsOfFiles, IsHeld, found_file, evaluation, Comes, to_fault, to_load, to_run, file_runs}

-- ---- the kind of a file tells what its evaluation leaves

left_module : (e : Ends (Unit {0})) (env : Env) (h : Here) (ts : List Made) → outcome_of (then_runs e (λ _. leaves k.Bzl env h)) ≡ a_package ts → ⊥
left_module (ended x w) env h ts e = go (frozen_module env h w) e
  where
    go : (m : Ends ModuleValue) → outcome_of (then_runs m (λ m. pure (a_module m))) ≡ a_package ts → ⊥
    go (ended m u) e = absurd cc
    go (failed code site) e = absurd cc
    go (waits patterns) e = absurd cc
left_module (failed code site) env h ts e = absurd cc
left_module (waits patterns) env h ts e = absurd cc

left_package : (e : Ends (Unit {0})) (env : Env) (h : Here) (m : ModuleValue) → outcome_of (then_runs e (λ _. leaves k.Build env h)) ≡ a_module m → ⊥
left_package (ended x w) env h m e = absurd cc
left_package (failed code site) env h m e = absurd cc
left_package (waits patterns) env h m e = absurd cc

pub no_package : (env : Env) (ts : List Made) → env.kind ≡ k.Bzl → evaluate env ≡ a_package ts → ⊥
unfolding evaluate
no_package env ts kind e =
    left_module (statements env (file_level env) (start all_steps env)) env (file_level env) ts (ap (λ (f : FileKind). outcome_of (then_runs (statements env (file_level env) (start all_steps env)) (λ _. leaves f env (file_level env)))) (sym kind) ∙ e)

pub no_module : (env : Env) (m : ModuleValue) → env.kind ≡ k.Build → evaluate env ≡ a_module m → ⊥
unfolding evaluate
no_module env m kind e =
    left_package (statements env (file_level env) (start all_steps env)) env (file_level env) m (ap (λ (f : FileKind). outcome_of (then_runs (statements env (file_level env) (start all_steps env)) (λ _. leaves f env (file_level env)))) (sym kind) ∙ e)

-- ---- modules

module _ (files : Files) (good : HasPaths files) where
  abbrev ModuleOf : Target → Value → Type 0
  ModuleOf t v = (m : Module) × IsModule files t m × (v ≡ module_value m)

  module _ (t : Target) (v : Value) where
    -- the evaluation of a module's file
    module_left : (f : File) (ms : List ModuleValue) (n : ℕ) (found : (m : Module) → LeavesModule (evaluate (module_env t f ms)) m → IsModule files t m)
        → f.path ≡ label_file t → Runs (IsHeld files) (evaluation files (modules.source_of t) f.tree ms) [] n v → ModuleOf t v
    module_left f ms n found at run = go (evaluate env) refl
      where
        env : Env
        env = env_of (modules.source_of t) f.tree ms

        same : module_env t f ms ≡ env
        same = ap (λ (path : List ℕ). record { kind = k.Bzl; label = label_text t; path = path; package_name = t.package_name; file = f.tree; loads = ms; globs = [] }) at

        go : (o : Outcome) → evaluate env ≡ o → ModuleOf t v
        go (a_module m) e = (Ok m, found (Ok m) (subst (λ (o : Outcome). LeavesModule o (Ok m)) (sym (ap evaluate same ∙ e)) a_value), run_ended (value.Module m) (ap (λ (o : Outcome). value_or_group env o) e) run)
        go (a_fault code site) e =
            let fault = fault_at code site.path site.line in
            (Err fault, found (Err fault) (subst (λ (o : Outcome). LeavesModule o (Err fault)) (sym (ap evaluate same ∙ e)) faulty), run_ended (value.Fault fault) (ap (λ (o : Outcome). value_or_group env o) e) run)
        go (a_package ts) e = absurd (no_package env ts refl e)
        go (a_need patterns) e = absurd (subst (λ (o : Outcome). IsFinished o) e (modules_finish env refl))

    module_comes : (n : ℕ) → file_of files (of_module t) ≡ found_file files (modules.source_of t) → Comes files (modules.source_of t) v → ModuleOf t v
    module_comes n same (to_fault fault found e) = (Err fault, of_file (same ∙ found), e)
    module_comes n same (to_load f modules fault found are faults e) = (Err fault, of_load (same ∙ found) are faults, e)
    module_comes n same (to_run f modules ms m found at are all run) = module_left f ms m (λ m leaves. evaluated (same ∙ found) are all leaves) at run

    looked_runs : (n : ℕ) (looks : List Value) → Looked files t looks → Runs (IsHeld files) (modules.after_lookups t looks) [] n v → ModuleOf t v
    looked_runs n looks are run = go (is_package files t.package_name) refl
      where
        a : Bool → Bool → List Value → Reply Key Value
        a inside crossed answers = cond (not inside) (Done (value.Fault (fault_at 1 t.package_name 0))) (cond crossed (Done (value.Fault (fault_at 17 (label_file t) 0))) (by_file (modules.source_of t) answers))

        file : Bool → Bool → Result File Fault
        file inside crossed = cond inside (cond crossed (Err (fault_at 17 (label_file t) 0)) (found_file files (modules.source_of t))) (Err (fault_at 1 t.package_name 0))

        at : (inside crossed : Bool) → is_package files t.package_name ≡ inside → list_any (is_package files) (boundaries t) ≡ crossed → Runs (IsHeld files) (a inside crossed) [] n v
        at inside crossed p q = shifted [] [] [] refl (λ rest. (λ i. a ((are.inside ∙ p) i) ((are.crossed ∙ q) i) rest)) run

        whole : (inside crossed : Bool) → is_package files t.package_name ≡ inside → list_any (is_package files) (boundaries t) ≡ crossed → file_of files (of_module t) ≡ file inside crossed
        whole inside crossed p q = λ i. file (p i) (q i)

        crossing : (crossed : Bool) → list_any (is_package files) (boundaries t) ≡ crossed → is_package files t.package_name ≡ true → ModuleOf t v
        crossing true q p = (Err (fault_at 17 (label_file t) 0), of_file (whole true true p q), run_ended (value.Fault (fault_at 17 (label_file t) 0)) refl (at true true p q))
        crossing false q p = module_comes n (whole true false p q) (file_runs files (modules.source_of t) v n (shifted [] [] [] refl (λ rest. refl) (at true false p q)))

        go : (inside : Bool) → is_package files t.package_name ≡ inside → ModuleOf t v
        go true p = crossing (list_any (is_package files) (boundaries t)) refl p
        go false p =
            let crossed = list_any (is_package files) (boundaries t) in
            (Err (fault_at 1 t.package_name 0), of_file (whole false crossed p refl), run_ended (value.Fault (fault_at 1 t.package_name 0)) refl (at false crossed p refl))

    pub module_runs : IsValid t → (n : ℕ) → Runs (IsHeld files) (next (key.Module (label_text t))) [] n v → ModuleOf t v
    module_runs valid n run =
        let group = modules.lookups t in
        let names : label_of (label_text t) [] ≡ Some t = reads_back t [] valid.target in
        let own : Runs (IsHeld files) (modules.by_lookups t) [] n v = shifted [] [] [] refl (λ rest. ap (λ (o : Option Target). modules.of_label (label_text t) o rest) names) run in
        let first : modules.by_lookups t [] ≡ Ask group = ap (λ b. cond b (Ask group) (modules.after_lookups t (take (length group) []) (drop (length group) []))) (lt-ltb 0 (length group) (omega arith)) in
        let asked = run_asked group first own in
        let size = same_length asked.are in
        let behind : (rest : List Value) → modules.by_lookups t (asked.values ++ rest) ≡ modules.after_lookups t asked.values rest =
        λ rest.
        ap (λ b. cond b (Ask group) (modules.after_lookups t (take (length group) (asked.values ++ rest)) (drop (length group) (asked.values ++ rest)))) (enough group asked.values rest size)
        ∙ (λ i. modules.after_lookups t (taken group asked.values rest size i) (rest_of group asked.values rest size i)) in
        looked_runs asked.fewer asked.values (all_looked files good t asked.values (subst (λ (ks : List Key). AllOf (Grounded next (read files)) ks asked.values) (lookups_are t (names_of t valid.target).1) (all_first asked.are)))
        (shifted asked.values [] asked.values (sym (append-nil asked.values)) behind asked.run)

-- ---- answers of globs

answer_first : (a b : Answers) (p : List ℕ) (found : List (List ℕ)) → answer_to p a ≡ Some found → answer_to p (a ++ b) ≡ Some found
answer_first [] b p found e = absurd cc
answer_first (x ∷ a) b p found e = go (same_text p x.0) refl (answer_first a b p found)
  where
    go : (t : Bool) → same_text p x.0 ≡ t → (answer_to p a ≡ Some found → answer_to p (a ++ b) ≡ Some found) → answer_to p (x ∷ a ++ b) ≡ Some found
    go true h later = ap (λ t. cond t (Some x.1) (answer_to p (a ++ b))) h ∙ ap (λ t. cond t (Some x.1) (answer_to p a)) (sym h) ∙ e
    go false h later = ap (λ t. cond t (Some x.1) (answer_to p (a ++ b))) h ∙ later (ap (λ t. cond t (Some x.1) (answer_to p a)) (sym h) ∙ e)

pub answer_last : (a b : Answers) (p : List ℕ) → answer_to p a ≡ None → answer_to p (a ++ b) ≡ answer_to p b
answer_last [] b p e = refl
answer_last (x ∷ a) b p e = go (same_text p x.0) refl (answer_last a b p)
  where
    go : (t : Bool) → same_text p x.0 ≡ t → (answer_to p a ≡ None → answer_to p (a ++ b) ≡ answer_to p b) → answer_to p (x ∷ a ++ b) ≡ answer_to p b
    go true h later = let wrong : Some x.1 ≡ None = ap (λ t. cond t (Some x.1) (answer_to p a)) (sym h) ∙ e in absurd cc
    go false h later = ap (λ t. cond t (Some x.1) (answer_to p (a ++ b))) h ∙ later (ap (λ t. cond t (Some x.1) (answer_to p a)) (sym h) ∙ e)

-- the same answers of a group, whatever is after them
same_paths : (group keys : List Key) (values rest : List Value) → length values ≡ length group → paths_by group keys (values ++ rest) ≡ paths_by group keys values
same_paths group [] values rest e = refl
same_paths group (k ∷ keys) values rest e = λ i. paths_or_none (same_answer k group values rest e i) ∷ same_paths group keys values rest e i

some_asked : (name : List ℕ) (patterns : List (List ℕ)) → patterns ≢ [] → 0 < length (glob_group name patterns)
some_asked name [] some = absurd (some refl)
some_asked name (p ∷ ps) some = omega arith

module _ (files : Files) (good : HasPaths files) (name : List ℕ) (is_name : is_package_name name ≡ true) where
  abbrev found_by : List ℕ → List (List ℕ)
  found_by p = answer_below (is_package files) (map_of.keys files) name p

  abbrev Right : Answers → Type 0
  Right answers = AreRight answers (is_package files) (map_of.keys files) name

  right_of_two : (a b : Answers) → Right a → Right b → Right (a ++ b)
  right_of_two a b ra rb p below e = go (answer_to p a) refl
    where
      go : (o : Option (List (List ℕ))) → answer_to p a ≡ o → below ≡ found_by p
      go (Some found) h = let same : Some found ≡ Some below = sym (answer_first a b p found h) ∙ e in let one : found ≡ below = cc in sym one ∙ ra p found h
      go None h = rb p below (sym (answer_last a b p h) ∙ e)

  right_pair : (p : List ℕ) (paths : List (List ℕ)) → paths ≡ found_by p → (a : Answers) → Right a → Right ((p, paths) ∷ a)
  right_pair p paths is a ra q below e = go (same_text q p) refl e
    where
      go : (t : Bool) → same_text q p ≡ t → cond (same_text q p) (Some paths) (answer_to q a) ≡ Some below → below ≡ found_by q
      go true h e =
          let one : q ≡ p = (bytes_decides q p).0 h in
          let same : Some paths ≡ Some below = ap (λ t. cond t (Some paths) (answer_to q a)) (sym h) ∙ e in
          let two : paths ≡ below = cc in sym two ∙ is ∙ ap found_by (sym one)
      go false h e = ra q below (ap (λ t. cond t (Some paths) (answer_to q a)) (sym h) ∙ e)

  right_zip : (group : List Key) (values : List Value) (ps : List (List ℕ)) → AllOf (IsHeld files) group values → AllByRecursion (λ p. has_key (glob_key name p) group ≡ true) ps
      → Right (zip ps (paths_by group (glob_keys name ps) values))
  right_zip group values [] all asked = λ p below e. absurd cc
  right_zip group values (p ∷ ps) all asked =
      let answer = answered (glob_key name p) asked.0 all in
      let held : answer.answer ≡ value.Paths (found_by p) = same_value next (read files) answer.holds.0 (glob_grounded files good name p (name_no_space name is_name)) refl in
      right_pair p (paths_or_none (answer_at (glob_key name p) group values)) (ap (λ (o : Option Value). paths_or_none o) (answer.found ∙ ap (λ (w : Value). Some w) held)) (zip ps (paths_by group (glob_keys name ps) values)) (right_zip group values ps all asked.1)

  all_asked : (ps qs : List (List ℕ)) → AllByRecursion (λ p. has_key (glob_key name p) (glob_keys name qs) ≡ true) ps → AllByRecursion (λ p. has_key (glob_key name p) (glob_group name qs) ≡ true) ps
  all_asked [] qs h = tt
  all_asked (p ∷ ps) qs h = (asked_once (glob_key name p) (glob_keys name qs) h.0, all_asked ps qs h.1)

  among : (ps before : List (List ℕ)) → AllByRecursion (λ p. has_key (glob_key name p) (glob_keys name (before ++ ps)) ≡ true) ps
  among [] before = tt
  among (p ∷ ps) before =
      (at before, subst (λ (qs : List (List ℕ)). AllByRecursion (λ q. has_key (glob_key name q) (glob_keys name qs) ≡ true) ps) (append_assoc before (p ∷ []) ps) (among ps (before ++ p ∷ [])))
    where
      at : (before : List (List ℕ)) → has_key (glob_key name p) (glob_keys name (before ++ p ∷ ps)) ≡ true
      at [] = either_left (key_eq (glob_key name p) (glob_key name p)) (has_key (glob_key name p) (glob_keys name ps)) (own_key (glob_key name p))
      at (q ∷ before) = either_right (key_eq (glob_key name p) (glob_key name q)) (has_key (glob_key name p) (glob_keys name (before ++ p ∷ ps))) (at before)

  -- how an evaluation that asks for globs ends, by right answers
  record Evaluated (env : Env) (v : Value) : Type 0 where
    answers : Answers
    right : Right answers
    made : Package
    leaves : LeavesPackage (evaluate (with_answers answers env)) made
    same : v ≡ package_value made

  abbrev from : ℕ → Env → List Value → Reply Key Value
  from j env answers = rounds (j + length answers) env answers

  -- a turn without further answers
  without : (n : ℕ) (env : Env) (o : Outcome) → evaluate env ≡ o → ((patterns : List (List ℕ)) → o ≡ a_need patterns → 0 < length (glob_group env.package_name patterns)) → rounds n env [] ≡ value_or_group env o
  without zero env o e some = ap (λ (o : Outcome). value_or_group env o) e
  without (suc n) env o e some = ap (λ (o : Outcome). goes_on (λ e a. rounds n e a) env o []) e ∙ go o some
    where
      go : (o : Outcome) → ((patterns : List (List ℕ)) → o ≡ a_need patterns → 0 < length (glob_group env.package_name patterns)) → goes_on (λ e a. rounds n e a) env o [] ≡ value_or_group env o
      go (a_module m) some = refl
      go (a_package ts) some = refl
      go (a_fault code site) some = refl
      go (a_need patterns) some =
          ap (λ b. cond b (Ask (glob_group env.package_name patterns)) (rounds n (with_paths env patterns []) (drop (length (glob_group env.package_name patterns)) [])))
          (lt-ltb 0 (length (glob_group env.package_name patterns)) (some patterns refl))

  -- a turn with the answers of the globs that it needs, and others after them
  behind : (n : ℕ) (env : Env) (patterns : List (List ℕ)) (values rest : List Value) → evaluate env ≡ a_need patterns → length values ≡ length (glob_group env.package_name patterns)
      → rounds (suc n) env (values ++ rest) ≡ rounds n (with_paths env patterns values) rest
  behind n env patterns values rest e size =
      let group = glob_group env.package_name patterns in
      ap (λ (o : Outcome). goes_on (λ e a. rounds n e a) env o (values ++ rest)) e
      ∙ ap (λ b. cond b (Ask group) (rounds n (with_paths env patterns (values ++ rest)) (drop (length group) (values ++ rest)))) (enough group values rest size)
      ∙ (λ i. rounds n (with_answers (env.globs ++ zip patterns (same_paths group (glob_keys env.package_name patterns) values rest size i)) env) (rest_of group values rest size i))

  needs_some : (env : Env) (patterns : List (List ℕ)) → evaluate env ≡ a_need patterns → 0 < length (glob_group env.package_name patterns)
  needs_some env patterns e = some_asked env.package_name patterns (needs_asked env patterns e).some

  abbrev Later : ℕ → Type 0
  Later n = (j : ℕ) (env : Env) (v : Value) → env.kind ≡ k.Build → env.package_name ≡ name → Right env.globs → Runs (IsHeld files) (from j env) [] n v → Evaluated env v

  -- the globs that a stop needs have right answers
  right_paths : (env : Env) (patterns : List (List ℕ)) (values : List Value) → env.package_name ≡ name → Right env.globs → AllOf (IsHeld files) (glob_group env.package_name patterns) values → Right (with_paths env patterns values).globs
  right_paths env patterns values named right all =
      subst (λ (p : List ℕ). Right (env.globs ++ zip patterns (paths_by (glob_group p patterns) (glob_keys p patterns) values))) (sym named)
      (right_of_two env.globs (zip patterns (paths_by (glob_group name patterns) (glob_keys name patterns) values)) right
      (right_zip (glob_group name patterns) values patterns (subst (λ (p : List ℕ). AllOf (IsHeld files) (glob_group p patterns) values) named all) (all_asked patterns patterns (among patterns []))))

  module _ (j : ℕ) (env : Env) (v : Value) (kind : env.kind ≡ k.Build) (named : env.package_name ≡ name) (right : Right env.globs) where
    first : (o : Outcome) → evaluate env ≡ o → from j env [] ≡ value_or_group env o
    first o e = without (j + 0) env o e (λ patterns h. needs_some env patterns (e ∙ h))

    needed : (patterns : List (List ℕ)) (n : ℕ) → evaluate env ≡ a_need patterns → runs.Asked (IsHeld files) (from j env) [] (glob_group env.package_name patterns) n v
        → ((m : ℕ) → n ≡ suc m → Later m) → Evaluated env v
    needed patterns n e asked later =
        let values = asked.values in
        let group = glob_group env.package_name patterns in
        let size : length values ≡ length group = same_length asked.are in
        let i = j + (length values - 1) in
        let count : (rest : List Value) → j + length (values ++ rest) ≡ suc (i + length rest) = λ rest. omega (arith, length-append values rest, size, needs_some env patterns e) in
        let moved : (rest : List Value) → from j env (values ++ rest) ≡ from i (with_paths env patterns values) rest =
        λ rest. ap (λ m. rounds m env (values ++ rest)) (count rest) ∙ behind (i + length rest) env patterns values rest e size in
        let run = shifted values [] values (sym (append-nil values)) moved asked.run in
        let more = later asked.fewer asked.left i (with_paths env patterns values) v kind named (right_paths env patterns values named right asked.are) run in
        record { answers = more.answers; right = more.right; made = more.made; leaves = more.leaves; same = more.same }

    ended_run : (o : Outcome) → evaluate env ≡ o → (n : ℕ) → Runs (IsHeld files) (from j env) [] n v → ((m : ℕ) → n ≡ suc m → Later m) → Evaluated env v
    ended_run (a_module m) e n run later = absurd (no_module env m kind e)
    ended_run (a_package ts) e n run later =
        record { answers = env.globs; right = right; made = Ok ts; leaves = subst (λ (o : Outcome). LeavesPackage o (Ok ts)) (sym e) a_value; same = run_ended (value.Package ts) (first (a_package ts) e) run }
    ended_run (a_fault code site) e n run later =
        let fault = fault_at code site.path site.line in
        record { answers = env.globs; right = right; made = Err fault; leaves = subst (λ (o : Outcome). LeavesPackage o (Err fault)) (sym e) faulty; same = run_ended (value.Fault fault) (first (a_fault code site) e) run }
    ended_run (a_need patterns) e n run later = needed patterns n e (run_asked (glob_group env.package_name patterns) (first (a_need patterns) e) run) later

  globs_run : (n : ℕ) → Later n
  globs_run zero = λ j env v kind named right run. ended_run j env v kind named right (evaluate env) refl zero run (λ m h. absurd cc)
  globs_run (suc n) = λ j env v kind named right run. ended_run j env v kind named right (evaluate env) refl (suc n) run (λ m h. subst Later (let same : n ≡ m = cc in same) (globs_run n))

  -- ---- packages

  abbrev PackageOf : Value → Type 0
  PackageOf v = (p : Package) × IsPackage files name p × (v ≡ package_value p)

  module _ (v : Value) where
    package_left : (build : BuildName) (f : File) (modules : List Module) (ms : List ModuleValue) (n : ℕ) → f.path ≡ (packages.source_of name build).path
        → ((answers : Answers) (p : Package) → Right answers → LeavesPackage (evaluate (package_env name f ms answers)) p → IsPackage files name p)
        → Runs (IsHeld files) (evaluation files (packages.source_of name build) f.tree ms) [] n v → PackageOf v
    package_left build f modules ms n at found run =
        let env = env_of (packages.source_of name build) f.tree ms in
        let ran = globs_run n 0 env v refl refl (λ p below e. absurd cc) (shifted [] [] [] refl (λ rest. ap (λ m. rounds m env rest) (omega arith)) run) in
        (ran.made, found ran.answers ran.made ran.right (subst (λ (path : List ℕ). LeavesPackage (evaluate (record { kind = k.Build; label = []; path = path; package_name = name; file = f.tree; loads = ms; globs = ran.answers })) ran.made) (sym at) ran.leaves), ran.same)

    package_comes : (build : BuildName) → file_of files (of_package name) ≡ found_file files (packages.source_of name build) → Comes files (packages.source_of name build) v → PackageOf v
    package_comes b same (to_fault fault found e) = (Err fault, of_file (same ∙ found), e)
    package_comes b same (to_load f modules fault found are faults e) = (Err fault, of_load (same ∙ found) are faults, e)
    package_comes b same (to_run f modules ms n found at are all run) = package_left b f modules ms n at (λ answers p right leaves. evaluated answers (same ∙ found) are all right leaves) run

    pub package_runs : (n : ℕ) → Runs (IsHeld files) (next (key.Package name)) [] n v → PackageOf v
    package_runs n run =
        let asked = run_asked (key.Lookup name ∷ []) refl run in
        looked_up asked.values asked.fewer asked.are asked.run
      where
        by_build : (o : Option BuildName) (n : ℕ) → build_of files name ≡ o → Runs (IsHeld files) (packages.after_lookup name o) [] n v → PackageOf v
        by_build None n e run = (Err (fault_at 1 name 0), of_file (ap (λ (o : Option BuildName). build_file files name o) e), run_ended (value.Fault (fault_at 1 name 0)) refl run)
        by_build (Some b) n e run = package_comes b (ap (λ (o : Option BuildName). build_file files name o) e) (file_runs files (packages.source_of name b) v n run)

        looked_up : (values : List Value) (n : ℕ) → AllOf (IsHeld files) (key.Lookup name ∷ []) values → Runs (IsHeld files) (next (key.Package name)) values n v → PackageOf v
        looked_up values n (runs.one {v = look} h runs.none) run =
            let is : look ≡ value.Lookup (build_of files name) = lookup_value files name look h.0 in
            by_build (build_of files name) n refl (shifted (look ∷ []) [] (look ∷ []) refl (λ rest. ap (λ (w : Value). packages.after_lookup name (packages.build_in w) rest) is) run)

-- ---- all nodes that are grounded

module _ (files : Files) (good : HasPaths files) where
  read_leaf : (j : Key) (v : Value) → read files j ≡ Some v → IsOfFiles files j v
  read_leaf (key.File path) v e = tt
  read_leaf (key.Listing name) v e = tt
  read_leaf (key.Lookup name) v e = tt
  read_leaf (key.Glob directory pattern directories) v e = tt
  read_leaf (key.Module label) v e = absurd cc
  read_leaf (key.Package name) v e = absurd cc
  read_leaf (key.Under directory) v e = absurd cc

  ran : (j : Key) (v : Value) (n : ℕ) → read files j ≡ None → Runs (IsHeld files) (next j) [] n v → IsOfFiles files j v
  ran (key.File path) v n e run = tt
  ran (key.Listing name) v n e run = tt
  ran (key.Lookup name) v n e run = tt
  ran (key.Glob directory pattern directories) v n e run = tt
  ran (key.Module label) v n e run = λ t same valid. module_runs files good t v valid n (subst (λ (l : List ℕ). Runs (IsHeld files) (next (key.Module l)) [] n v) same run)
  ran (key.Package name) v n e run = λ is_name. package_runs files good name is_name v n run
  ran (key.Under directory) v n e run = tt

  -- each node that is grounded holds what the files mean
  pub grounded_means : {j : Key} {v : Value} → Grounded next (read files) j v → IsOfFiles files j v
  grounded_means g = all_hold next (read files) (IsOfFiles files) read_leaf ran g

  pub module_means : (t : Target) (v : Value) → IsValid t → Grounded next (read files) (key.Module (label_text t)) v → (m : Module) × IsModule files t m × (v ≡ module_value m)
  module_means t v valid g = grounded_means g t refl valid

  pub package_means : (name : List ℕ) (v : Value) → is_package_name name ≡ true → Grounded next (read files) (key.Package name) v → (p : Package) × IsPackage files name p × (v ≡ package_value p)
  package_means name v is_name g = grounded_means g is_name
