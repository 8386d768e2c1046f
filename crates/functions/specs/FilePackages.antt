-- What the modules and the packages of a tree of files are, from the files alone.
use Rattle.std.specs.Prelude.{◌≡◌, ℕ, List, [], ◌∷◌, true, Result, Ok, Err}
use Rattle.std.specs.FinMap as map_of
use Rattle.labels.specs.Labels.{Target, label_text, is_target, is_module}
use Rattle.labels.specs.Paths.{is_package_name}
use Rattle.filetree.specs.Files.{Files}
use Rattle.filetree.specs.Lawful.{HasPaths}
use Rattle.pattern.specs.Globs.{is_package}
use Rattle.syntax_grammar.specs.declared.kind.FileKind.TheVariants as k
use Rattle.values_modules.specs.Values as v
use Rattle.evaluator_semantics.specs.Environment.{Env, Answers}
use Rattle.evaluator_semantics.specs.Files.{Outcome, a_module, a_package, a_fault, evaluate}
use Rattle.evaluator_semantics.specs.Laws.{AreRight}
use Rattle.evaluator_semantics.specs.World.{Site}
use Rattle.engine_semantics.specs.Value.{HasValue}
use Rattle.keys.specs.declared.key.Key.TheVariants as key
use Rattle.keys.specs.declared.value.Fault.{Fault}
use Rattle.keys.specs.declared.value.Value.{Value}
use Rattle.keys.specs.declared.value.Value.TheVariants as value
use Rattle.keys.specs.Cycles.{cycle}
use Rattle.functions.specs.Next.{next}
use Rattle.keys.specs.Leaves.{read}
use Rattle.functions.specs.Sources.{fault_at, each_or_fault}
use Rattle.functions.specs.Loads.{of_module, of_package, File, file_of, ShowsCycle}

abbrev pub Module : Type 0
Module = Result v.ModuleValue Fault

abbrev pub Package : Type 0
Package = Result (List v.Target) Fault

-- all modules that are loaded, or the first fault in the order of the loads
abbrev pub all_loaded : List Module → Result (List v.ModuleValue) Fault
all_loaded modules = each_or_fault (λ m. m) modules

-- the environment of the evaluation of a module's file, which asks for no globs
abbrev pub module_env : Target → File → List v.ModuleValue → Env
module_env t f ms = record { kind = k.Bzl; label = label_text t; path = f.path; package_name = t.package_name; file = f.tree; loads = ms; globs = [] }

-- the environment of the evaluation of a BUILD file
abbrev pub package_env : List ℕ → File → List v.ModuleValue → Answers → Env
package_env name f ms globs = record { kind = k.Build; label = []; path = f.path; package_name = name; file = f.tree; loads = ms; globs = globs }

-- what an evaluation leaves
pub data LeavesModule : Outcome → Module → Type 0 where
  a_value : {m : v.ModuleValue} → LeavesModule (a_module m) (Ok m)
  faulty : {code : ℕ} {site : Site} → LeavesModule (a_fault code site) (Err (fault_at code site.path site.line))

pub data LeavesPackage : Outcome → Package → Type 0 where
  a_value : {ts : List v.Target} → LeavesPackage (a_package ts) (Ok ts)
  faulty : {code : ℕ} {site : Site} → LeavesPackage (a_fault code site) (Err (fault_at code site.path site.line))

module _ (files : Files) where
  -- The module of a label: the first fault of its file; else that of the first of its loads that has one; else what its
  -- evaluation leaves.
  mutual
    pub data IsModule : Target → Module → Type 0 where
      of_file : {t : Target} {fault : Fault} → file_of files (of_module t) ≡ Err fault → IsModule t (Err fault)
      of_load : {t : Target} {f : File} {modules : List Module} {fault : Fault}
          → file_of files (of_module t) ≡ Ok f → AreModules f.loads modules → all_loaded modules ≡ Err fault → IsModule t (Err fault)
      evaluated : {t : Target} {f : File} {modules : List Module} {ms : List v.ModuleValue} {m : Module}
          → file_of files (of_module t) ≡ Ok f → AreModules f.loads modules → all_loaded modules ≡ Ok ms → LeavesModule (evaluate (module_env t f ms)) m → IsModule t m

    pub data AreModules : List Target → List Module → Type 0 where
      none : AreModules [] []
      one : {t : Target} {m : Module} {ts : List Target} {modules : List Module} → IsModule t m → AreModules ts modules → AreModules (t ∷ ts) (m ∷ modules)

  -- The package with a name, likewise. What a glob finds is defined by all paths of the files: the answers are right
  -- for the package, and the evaluation asks for no further one.
  pub data IsPackage : List ℕ → Package → Type 0 where
    of_file : {name : List ℕ} {fault : Fault} → file_of files (of_package name) ≡ Err fault → IsPackage name (Err fault)
    of_load : {name : List ℕ} {f : File} {modules : List Module} {fault : Fault}
        → file_of files (of_package name) ≡ Ok f → AreModules f.loads modules → all_loaded modules ≡ Err fault → IsPackage name (Err fault)
    evaluated : (answers : Answers) {name : List ℕ} {f : File} {modules : List Module} {ms : List v.ModuleValue} {p : Package}
        → file_of files (of_package name) ≡ Ok f → AreModules f.loads modules → all_loaded modules ≡ Ok ms
        → AreRight answers (is_package files) (map_of.keys files) name → LeavesPackage (evaluate (package_env name f ms answers)) p
        → IsPackage name p

  -- the value of a module's node: the module, its fault, or the cycle to which its loads lead
  abbrev pub HoldsModule : Target → Value → Type 0
  HoldsModule t (value.File text) = ⊥
  HoldsModule t (value.Listing names) = ⊥
  HoldsModule t (value.Lookup build) = ⊥
  HoldsModule t (value.Paths paths) = ⊥
  HoldsModule t (value.Module m) = IsModule t (Ok m)
  HoldsModule t (value.Package targets) = ⊥
  HoldsModule t (value.Fault fault) = IsModule t (Err fault)
  HoldsModule t (value.Cycle labels) = ShowsCycle files (of_module t) labels

  -- the value of a package's node
  abbrev pub HoldsPackage : List ℕ → Value → Type 0
  HoldsPackage name (value.File text) = ⊥
  HoldsPackage name (value.Listing names) = ⊥
  HoldsPackage name (value.Lookup build) = ⊥
  HoldsPackage name (value.Paths paths) = ⊥
  HoldsPackage name (value.Module m) = ⊥
  HoldsPackage name (value.Package targets) = IsPackage name (Ok targets)
  HoldsPackage name (value.Fault fault) = IsPackage name (Err fault)
  HoldsPackage name (value.Cycle labels) = ShowsCycle files (of_package name) labels

-- the value of a module's node is the module that the files mean
abbrev pub ModulesHold : Type 0
ModulesHold = (files : Files) (t : Target) (v : Value) → HasPaths files → is_target t ≡ true → is_module t ≡ true
    → HasValue next (read files) cycle (key.Module (label_text t)) v → HoldsModule files t v

-- the value of a package's node is the package that the files mean
abbrev pub PackagesHold : Type 0
PackagesHold = (files : Files) (name : List ℕ) (v : Value) → HasPaths files → is_package_name name ≡ true
    → HasValue next (read files) cycle (key.Package name) v → HoldsPackage files name v
