-- What a node holds: a value by its turns, or the cycle at which its walk ends.
use Rattle.std.proofs.Common.{◌≡◌, ℕ, List, true, Some, None, Ok, Err, refl, sym, ap, subst, ◌∙◌}
use Rattle.engine_semantics.specs.Value.{Grounded, has_run, Cyclic, Settles, leaf, run, closed}
use Rattle.labels.specs.Paths.{is_package_name}
use Rattle.labels.specs.Labels.{Target, label_text}
use Rattle.filetree.specs.Files.{Files}
use Rattle.filetree.specs.Lawful.{HasPaths}
use Rattle.keys.specs.Cycles.{cycle}
use Rattle.keys.specs.declared.key.Key.{Key}
use Rattle.keys.specs.declared.key.Key.TheVariants as key
use Rattle.keys.specs.declared.value.Value.{Value}
use Rattle.functions.specs.Next.{next}
use Rattle.keys.specs.Leaves.{read}
use Rattle.functions.specs.FilePackages.{Module, Package, IsModule, IsPackage, HoldsModule, HoldsPackage, ModulesHold, PackagesHold}
use Rattle.functions.proofs.GroupKeys.{module_value}
use Rattle.functions.proofs.NodeLoads.{IsValid, package_value}
use Rattle.functions.proofs.NodesHold.{module_means, package_means}
use Rattle.functions.proofs.NodeCycles.{cycle_shown_module, cycle_shown_package}

module _ (files : Files) (good : HasPaths files) where
  a_module_held : (t : Target) (m : Module) → IsModule files t m → HoldsModule files t (module_value m)
  a_module_held t (Ok m) is = is
  a_module_held t (Err f) is = is

  a_package_held : (name : List ℕ) (p : Package) → IsPackage files name p → HoldsPackage files name (package_value p)
  a_package_held name (Ok ts) is = is
  a_package_held name (Err f) is = is

  no_module_leaf : (t : Target) (v : Value) (k : Key) → k ≡ key.Module (label_text t) → read files k ≡ Some v → ⊥
  no_module_leaf t v k same e = let wrong : None ≡ Some v = ap (λ (j : Key). read files j) (sym same) ∙ e in absurd cc

  no_package_leaf : (name : List ℕ) (v : Value) (k : Key) → k ≡ key.Package name → read files k ≡ Some v → ⊥
  no_package_leaf name v k same e = let wrong : None ≡ Some v = ap (λ (j : Key). read files j) (sym same) ∙ e in absurd cc

  module_held : (t : Target) (v : Value) → IsValid t → {k : Key} {groups : List (List Key)} → Settles next (read files) cycle k groups v → k ≡ key.Module (label_text t) → HoldsModule files t v
  module_held t v valid (leaf {k = k} e) same = absurd (no_module_leaf t v k same e)
  module_held t v valid (run e turns) same =
      let m = module_means files good t v valid (subst (λ (k : Key). Grounded next (read files) k v) same (has_run e turns)) in
      subst (λ (w : Value). HoldsModule files t w) (sym m.2) (a_module_held t m.0 m.1)
  module_held t v valid (closed e stops cyclic) same =
      let s = cycle_shown_module files good (module_means files good) t v valid (subst (λ (k : Key). Cyclic next (read files) cycle k v) same cyclic) in
      subst (λ (w : Value). HoldsModule files t w) (sym s.1) s.2

  package_held : (name : List ℕ) (v : Value) → is_package_name name ≡ true → {k : Key} {groups : List (List Key)} → Settles next (read files) cycle k groups v → k ≡ key.Package name → HoldsPackage files name v
  package_held name v is_name (leaf {k = k} e) same = absurd (no_package_leaf name v k same e)
  package_held name v is_name (run e turns) same =
      let p = package_means files good name v is_name (subst (λ (k : Key). Grounded next (read files) k v) same (has_run e turns)) in
      subst (λ (w : Value). HoldsPackage files name w) (sym p.2) (a_package_held name p.0 p.1)
  package_held name v is_name (closed e stops cyclic) same =
      let s = cycle_shown_package files good (module_means files good) name v is_name (subst (λ (k : Key). Cyclic next (read files) cycle k v) same cyclic) in
      subst (λ (w : Value). HoldsPackage files name w) (sym s.1) s.2

pub modules_hold : ModulesHold
modules_hold files t v good target ending has = module_held files good t v (record { target = target; ending = ending }) has.1 refl

pub packages_hold : PackagesHold
packages_hold files name v good is_name has = package_held files good name v is_name has.1 refl
