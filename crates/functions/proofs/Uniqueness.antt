-- The files determine what a node holds: one value, or one cycle.
use Rattle.std.proofs.Common.{◌≡◌, ℕ, List, ◌⊎◌, inl, inr, Ok, Err, refl, sym, ap, ◌∙◌}
use Rattle.labels.specs.Labels.{Target}
use Rattle.filetree.specs.Files.{Files}
use Rattle.keys.specs.declared.value.Value.{Value}
use Rattle.keys.specs.declared.value.Value.TheVariants as value
use Rattle.functions.specs.Loads.{of_module, of_package, ShowsCycle}
use Rattle.functions.specs.FilePackages.{Module, Package, IsModule, IsPackage, HoldsModule, HoldsPackage}
use Rattle.functions.specs.PackageLaws.{OneModuleHeld, OnePackageHeld}
use Rattle.functions.proofs.GroupKeys.{module_value}
use Rattle.functions.proofs.NodeLoads.{package_value}
use Rattle.functions.proofs.OneValue.{each_module_once, each_package_once}
use Rattle.functions.proofs.NoValue.{no_module_shown, no_package_shown}
use Rattle.functions.proofs.OneCycle.{one_cycle}

module _ (files : Files) where
  abbrev ModuleOrCycle : Target → Value → Type 0
  ModuleOrCycle t v = ((m : Module) × IsModule files t m × (v ≡ module_value m)) ⊎ ((labels : List (List ℕ)) × ShowsCycle files (of_module t) labels × (v ≡ value.Cycle labels))

  module_or_cycle : (t : Target) (v : Value) → HoldsModule files t v → ModuleOrCycle t v
  module_or_cycle t (value.File text) h = absurd h
  module_or_cycle t (value.Listing names) h = absurd h
  module_or_cycle t (value.Lookup build) h = absurd h
  module_or_cycle t (value.Paths paths) h = absurd h
  module_or_cycle t (value.Module m) h = inl (Ok m, h, refl)
  module_or_cycle t (value.Package targets) h = absurd h
  module_or_cycle t (value.Fault fault) h = inl (Err fault, h, refl)
  module_or_cycle t (value.Cycle labels) h = inr (labels, h, refl)

  abbrev PackageOrCycle : List ℕ → Value → Type 0
  PackageOrCycle name v = ((p : Package) × IsPackage files name p × (v ≡ package_value p)) ⊎ ((labels : List (List ℕ)) × ShowsCycle files (of_package name) labels × (v ≡ value.Cycle labels))

  package_or_cycle : (name : List ℕ) (v : Value) → HoldsPackage files name v → PackageOrCycle name v
  package_or_cycle name (value.File text) h = absurd h
  package_or_cycle name (value.Listing names) h = absurd h
  package_or_cycle name (value.Lookup build) h = absurd h
  package_or_cycle name (value.Paths paths) h = absurd h
  package_or_cycle name (value.Module m) h = absurd h
  package_or_cycle name (value.Package targets) h = inl (Ok targets, h, refl)
  package_or_cycle name (value.Fault fault) h = inl (Err fault, h, refl)
  package_or_cycle name (value.Cycle labels) h = inr (labels, h, refl)

pub one_module_held : OneModuleHeld
one_module_held files t v w holds held = elim (module_or_cycle files t v holds) [
  | inl m ↦ elim (module_or_cycle files t w held) [
    | inl n ↦ m.2 ∙ ap module_value (each_module_once files t m.0 n.0 m.1 n.1) ∙ sym n.2
    | inr d ↦ absurd (no_module_shown files t d.0 m.0 d.1 m.1)
  ]
  | inr c ↦ elim (module_or_cycle files t w held) [
    | inl n ↦ absurd (no_module_shown files t c.0 n.0 c.1 n.1)
    | inr d ↦ c.2 ∙ ap (λ (labels : List (List ℕ)). value.Cycle labels) (one_cycle files (of_module t) c.0 d.0 c.1 d.1) ∙ sym d.2
  ]
]

pub one_package_held : OnePackageHeld
one_package_held files name v w holds held = elim (package_or_cycle files name v holds) [
  | inl p ↦ elim (package_or_cycle files name w held) [
    | inl q ↦ p.2 ∙ ap package_value (each_package_once files name p.0 q.0 p.1 q.1) ∙ sym q.2
    | inr d ↦ absurd (no_package_shown files name d.0 p.0 d.1 p.1)
  ]
  | inr c ↦ elim (package_or_cycle files name w held) [
    | inl q ↦ absurd (no_package_shown files name c.0 q.0 c.1 q.1)
    | inr d ↦ c.2 ∙ ap (λ (labels : List (List ℕ)). value.Cycle labels) (one_cycle files (of_package name) c.0 d.0 c.1 d.1) ∙ sym d.2
  ]
]
