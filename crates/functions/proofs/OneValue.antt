-- A label has one module at most, and a name one package.
use Rattle.std.proofs.Common.{◌≡◌, ℕ, List, ◌∷◌, ◌++◌, Option, Some, None, Result, Ok, Err, refl, sym, ap, subst, ◌∙◌}
use Rattle.std.specs.FinMap as map_of
use Rattle.labels.specs.Labels.{Target}
use Rattle.filetree.specs.Files.{Files}
use Rattle.pattern.specs.Globs.{is_package}
use Rattle.values_modules.specs.Values.{ModuleValue}
use Rattle.evaluator_semantics.specs.Environment.{Answers}
use Rattle.evaluator_semantics.specs.Globs.{answer_to}
use Rattle.evaluator_semantics.specs.Files.{Outcome, evaluate}
use Rattle.evaluator_semantics.specs.Laws.{AreRight, KnowsMore, IsFinished}
use Rattle.evaluator_semantics.proofs.MoreAnswers.{answer_stays}
use Rattle.evaluator_semantics.proofs.MoreStatements.{finished_stays}
use Rattle.keys.specs.declared.value.Fault.{Fault}
use Rattle.functions.specs.Loads.{of_module, File, file_of}
use Rattle.functions.specs.FilePackages.{Module, Package, IsModule, IsPackage, AreModules, none, one, of_file, of_load, evaluated, all_loaded, module_env, package_env, LeavesModule, LeavesPackage, a_value, faulty}
use Rattle.functions.specs.PackageLaws.{OneModule, OnePackage}
use Rattle.functions.proofs.NodesHold.{answer_last}

-- ---- what an evaluation leaves

one_left : {o q : Outcome} {m n : Module} → LeavesModule o m → LeavesModule q n → o ≡ q → m ≡ n
one_left a_value a_value e = cc
one_left a_value faulty e = cc
one_left faulty a_value e = cc
one_left faulty faulty e = cc

one_package_left : {o q : Outcome} {p r : Package} → LeavesPackage o p → LeavesPackage q r → o ≡ q → p ≡ r
one_package_left a_value a_value e = cc
one_package_left a_value faulty e = cc
one_package_left faulty a_value e = cc
one_package_left faulty faulty e = cc

finished : {o : Outcome} {p : Package} → LeavesPackage o p → IsFinished o
finished a_value = tt
finished faulty = tt

-- ---- one file, one fault, one list of modules

same_fault : {A : Type 0} {r s : Result A Fault} {f g : Fault} → r ≡ s → r ≡ Err f → s ≡ Err g → f ≡ g
same_fault h e d = cc

same_found : {A : Type 0} {r s : Result A Fault} {x y : A} → r ≡ s → r ≡ Ok x → s ≡ Ok y → x ≡ y
same_found h e d = cc

not_both : {A : Type 0} {r s : Result A Fault} {x : A} {f : Fault} → r ≡ s → r ≡ Ok x → s ≡ Err f → ⊥
not_both h e d = absurd cc

pair_of : {m n : Module} {ms ns : List Module} → m ≡ n → ms ≡ ns → m ∷ ms ≡ n ∷ ns
pair_of e d = cc

heads : {t u : Target} {ts us : List Target} → t ∷ ts ≡ u ∷ us → (t ≡ u) × (ts ≡ us)
heads e = (cc, cc)

module _ (files : Files) where
  mutual
    one_module : {t u : Target} {m n : Module} → IsModule files t m → IsModule files u n → t ≡ u → m ≡ n
    one_module (of_file {fault = f} e) (of_file {fault = g} d) h = ap (λ (x : Fault). Err x) (same_fault (ap (λ (t : Target). file_of files (of_module t)) h) e d)
    one_module (of_file e) (of_load d are faults) h = absurd (not_both (ap (λ (t : Target). file_of files (of_module t)) (sym h)) d e)
    one_module (of_file e) (evaluated d are all leaves) h = absurd (not_both (ap (λ (t : Target). file_of files (of_module t)) (sym h)) d e)
    one_module (of_load e are faults) (of_file d) h = absurd (not_both (ap (λ (t : Target). file_of files (of_module t)) h) e d)
    one_module (of_load e are faults) (of_load d ares faulted) h =
        let file = same_found (ap (λ (t : Target). file_of files (of_module t)) h) e d in
        let same = one_list are ares (ap (λ (f : File). f.loads) file) in
        ap (λ (x : Fault). Err x) (same_fault (ap all_loaded same) faults faulted)
    one_module (of_load e are faults) (evaluated d ares all leaves) h =
        let file = same_found (ap (λ (t : Target). file_of files (of_module t)) h) e d in
        let same = one_list are ares (ap (λ (f : File). f.loads) file) in
        absurd (not_both (ap all_loaded (sym same)) all faults)
    one_module (evaluated e are all leaves) (of_file d) h = absurd (not_both (ap (λ (t : Target). file_of files (of_module t)) h) e d)
    one_module (evaluated e are all leaves) (of_load d ares faults) h =
        let file = same_found (ap (λ (t : Target). file_of files (of_module t)) h) e d in
        let same = one_list are ares (ap (λ (f : File). f.loads) file) in
        absurd (not_both (ap all_loaded same) all faults)
    one_module (evaluated e are all leaves) (evaluated d ares each left) h =
        let file = same_found (ap (λ (t : Target). file_of files (of_module t)) h) e d in
        let same = one_list are ares (ap (λ (f : File). f.loads) file) in
        let loaded = same_found (ap all_loaded same) all each in
        one_left leaves left (λ i. evaluate (module_env (h i) (file i) (loaded i)))

    one_list : {ts us : List Target} {ms ns : List Module} → AreModules files ts ms → AreModules files us ns → ts ≡ us → ms ≡ ns
    one_list none none h = refl
    one_list none (one is more) h = absurd cc
    one_list (one is more) none h = absurd cc
    one_list (one is more) (one its rest) h = let same = heads h in pair_of (one_module is its same.0) (one_list more rest same.1)

  -- ---- an evaluation by two lists of right answers

  module _ (name : List ℕ) where
    abbrev Right : Answers → Type 0
    Right answers = AreRight answers (is_package files) (map_of.keys files) name

    -- right answers are known after others
    known : (a b : Answers) → Right a → Right b → KnowsMore b (a ++ b)
    known a b ra rb p paths e = go (answer_to p a) refl
      where
        go : (o : Option (List (List ℕ))) → answer_to p a ≡ o → answer_to p (a ++ b) ≡ Some paths
        go (Some found) h = answer_stays a b p found h ∙ ap (λ (x : List (List ℕ)). Some x) (ra p found h ∙ sym (rb p paths e))
        go None h = answer_last a b p h ∙ e

    same_outcome : (f : File) (ms : List ModuleValue) (a b : Answers) → Right a → Right b → IsFinished (evaluate (package_env name f ms a)) → IsFinished (evaluate (package_env name f ms b))
        → evaluate (package_env name f ms a) ≡ evaluate (package_env name f ms b)
    same_outcome f ms a b ra rb first second =
        sym (finished_stays (package_env name f ms a) (a ++ b) (answer_stays a b) first) ∙ finished_stays (package_env name f ms b) (a ++ b) (known a b ra rb) second

    same_evaluated : (a b : Answers) (f g : File) (ms ns : List ModuleValue) (p q : Package) → f ≡ g → ms ≡ ns → Right a → Right b
        → LeavesPackage (evaluate (package_env name f ms a)) p → LeavesPackage (evaluate (package_env name g ns b)) q → p ≡ q
    same_evaluated a b f g ms ns p q file loaded ra rb leaves left =
        let own : LeavesPackage (evaluate (package_env name f ms b)) q = subst (λ (o : Outcome). LeavesPackage o q) (λ i. evaluate (package_env name (sym file i) (sym loaded i) b)) left in
        one_package_left leaves own (same_outcome f ms a b ra rb (finished leaves) (finished own))

  one_package : (name : List ℕ) {p q : Package} → IsPackage files name p → IsPackage files name q → p ≡ q
  one_package name (of_file e) (of_file d) = ap (λ (x : Fault). Err x) (same_fault refl e d)
  one_package name (of_file e) (of_load d are faults) = absurd (not_both refl d e)
  one_package name (of_file e) (evaluated b d are all right leaves) = absurd (not_both refl d e)
  one_package name (of_load e are faults) (of_file d) = absurd (not_both refl e d)
  one_package name (of_load e are faults) (of_load d ares faulted) =
      let same = one_list are ares (ap (λ (f : File). f.loads) (same_found refl e d)) in ap (λ (x : Fault). Err x) (same_fault (ap all_loaded same) faults faulted)
  one_package name (of_load e are faults) (evaluated b d ares all right leaves) =
      let same = one_list are ares (ap (λ (f : File). f.loads) (same_found refl e d)) in absurd (not_both (ap all_loaded (sym same)) all faults)
  one_package name (evaluated a e are all right leaves) (of_file d) = absurd (not_both refl e d)
  one_package name (evaluated a e are all right leaves) (of_load d ares faults) =
      let same = one_list are ares (ap (λ (f : File). f.loads) (same_found refl e d)) in absurd (not_both (ap all_loaded same) all faults)
  one_package name (evaluated a {f = f} {ms = ms} {p = p} e are all right leaves) (evaluated b {f = g} {ms = ns} {p = q} d ares each its left) =
      let file = same_found refl e d in
      let same = one_list are ares (ap (λ (f : File). f.loads) file) in
      same_evaluated name a b f g ms ns p q file (same_found (ap all_loaded same) all each) right its leaves left

pub each_module_once : OneModule
each_module_once files t m n is its = one_module files is its refl

pub each_package_once : OnePackage
each_package_once files name p q is its = one_package files name is its
