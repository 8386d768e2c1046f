-- Each label has a module or a cycle, and each name a package or a cycle.
use Rattle.std.proofs.Common.{◌≡◌, ℕ, List, [], inl, inr, Result, Ok, Err, refl, sym, subst}
use Rattle.std.specs.FinMap as map_of
use Rattle.labels.specs.Labels.{Target}
use Rattle.filetree.specs.Files.{Files}
use Rattle.pattern.specs.Globs.{is_package, answer_below}
use Rattle.values_modules.specs.Values.{ModuleValue}
use Rattle.evaluator_semantics.specs.Files.{Outcome, a_module, a_package, a_need, a_fault, evaluate}
use Rattle.evaluator_semantics.specs.Laws.{IsFinished}
use Rattle.keys.specs.declared.value.Fault.{Fault}
use Rattle.keys.specs.declared.value.Value.{Value}
use Rattle.keys.specs.declared.value.Value.TheVariants as value
use Rattle.functions.specs.Sources.{fault_at}
use Rattle.functions.specs.Loads.{of_module, of_package, File, file_of}
use Rattle.functions.specs.FilePackages.{Module, Package, IsModule, AreModules, IsPackage, of_file, of_load, evaluated, all_loaded, package_env, LeavesPackage, a_value, faulty, HoldsModule, HoldsPackage}
use Rattle.functions.specs.PackageLaws.{SomeModuleHeld, SomePackageHeld}
use Rattle.functions.proofs.NoValue.{is_member}
use Rattle.functions.proofs.NodesHold.{no_module}
use Rattle.functions.proofs.FileAnswers.{Answered, all_answered}
use Rattle.functions.proofs.Deciding.{decided, loads_decided, loads_of, reach, reaching}
use Rattle.functions.proofs.Following.{cycle_of}

module_held : (files : Files) (t : Target) (m : Module) → IsModule files t m → (v : Value) × HoldsModule files t v
module_held files t (Ok m) is = (value.Module m, is)
module_held files t (Err fault) is = (value.Fault fault, is)

pub some_module_held : SomeModuleHeld
some_module_held files t = elim (decided files t) [
  | inl m ↦ module_held files t m.0 m.1
  | inr c ↦ let shown = cycle_of files (of_module t) c in (value.Cycle shown.0, shown.1)
]

module _ (files : Files) (name : List ℕ) where
  abbrev Held : Type 0
  Held = (v : Value) × HoldsPackage files name v

  package_held : (p : Package) → IsPackage files name p → Held
  package_held (Ok targets) is = (value.Package targets, is)
  package_held (Err fault) is = (value.Fault fault, is)

  -- what a question finds
  abbrev found : List ℕ → List (List ℕ)
  found p = answer_below (is_package files) (map_of.keys files) name p

  -- a name whose loads have modules has a package
  package_of : (f : File) (modules : List Module) → file_of files (of_package name) ≡ Ok f → AreModules files f.loads modules → Held
  package_of f modules is are = go (all_loaded modules) refl
    where
      left : (ms : List ModuleValue) → all_loaded modules ≡ Ok ms → Held
      left ms e = ended (evaluate (package_env name f ms enough.answers)) refl
        where
          enough : Answered found (package_env name f ms [])
          enough = all_answered found (package_env name f ms [])

          ended : (o : Outcome) → evaluate (package_env name f ms enough.answers) ≡ o → Held
          ended (a_package targets) d = package_held (Ok targets) (evaluated enough.answers is are e enough.right (subst (λ (o : Outcome). LeavesPackage o (Ok targets)) (sym d) a_value))
          ended (a_fault code site) d =
              let fault = fault_at code site.path site.line in
              package_held (Err fault) (evaluated enough.answers is are e enough.right (subst (λ (o : Outcome). LeavesPackage o (Err fault)) (sym d) faulty))
          ended (a_module m) d = absurd (no_module (package_env name f ms enough.answers) m refl d)
          ended (a_need patterns) d = absurd (subst (λ (o : Outcome). IsFinished o) d enough.finished)

      go : (r : Result (List ModuleValue) Fault) → all_loaded modules ≡ r → Held
      go (Err fault) e = package_held (Err fault) (of_load is are e)
      go (Ok ms) e = left ms e

  one_package : Held
  one_package = go (file_of files (of_package name)) refl
    where
      go : (r : Result File Fault) → file_of files (of_package name) ≡ r → Held
      go (Err fault) e = package_held (Err fault) (of_file e)
      go (Ok f) e = elim (loads_decided files f.loads) [
        | inl r ↦ package_of f r.0 e r.1
        | inr r ↦ let shown = cycle_of files (of_package name) (reach files (loads_of files (of_package name) e (is_member files r.1)) (reaching files r.1)) in (value.Cycle shown.0, shown.1)
      ]

pub some_package_held : SomePackageHeld
some_package_held files name = one_package files name
