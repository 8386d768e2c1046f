-- What reaches a cycle of loads is shown one.
use Rattle.std.proofs.Common.{ℕ, List}
use Rattle.labels.specs.Labels.{Target}
use Rattle.filetree.specs.Files.{Files}
use Rattle.keys.specs.declared.value.Value.{Value}
use Rattle.keys.specs.declared.value.Value.TheVariants as value
use Rattle.functions.specs.Loads.{of_module, of_package, ReachesCycle, ShowsCycle}
use Rattle.functions.specs.FilePackages.{HoldsModule, HoldsPackage}
use Rattle.functions.specs.PackageLaws.{ModulesShowTheirCycles, PackagesShowTheirCycles}
use Rattle.functions.proofs.Existence.{some_module_held, some_package_held}
use Rattle.functions.proofs.NodeCycles.{acyclic}
use Rattle.functions.proofs.NoValue.{reaches, package_acyclic}

-- a module that reaches a cycle holds neither a module nor a fault, so it holds a cycle
module_cycle : (files : Files) (t : Target) (v : Value) → HoldsModule files t v → ReachesCycle files (of_module t) → (labels : List (List ℕ)) × ShowsCycle files (of_module t) labels
module_cycle files t (value.File text) holds cyclic = absurd holds
module_cycle files t (value.Listing names) holds cyclic = absurd holds
module_cycle files t (value.Lookup build) holds cyclic = absurd holds
module_cycle files t (value.Paths paths) holds cyclic = absurd holds
module_cycle files t (value.Module m) holds cyclic = absurd (acyclic files holds cyclic)
module_cycle files t (value.Package targets) holds cyclic = absurd holds
module_cycle files t (value.Fault fault) holds cyclic = absurd (acyclic files holds cyclic)
module_cycle files t (value.Cycle labels) holds cyclic = (labels, holds)

package_cycle : (files : Files) (name : List ℕ) (v : Value) → HoldsPackage files name v → ReachesCycle files (of_package name) → (labels : List (List ℕ)) × ShowsCycle files (of_package name) labels
package_cycle files name (value.File text) holds cyclic = absurd holds
package_cycle files name (value.Listing names) holds cyclic = absurd holds
package_cycle files name (value.Lookup build) holds cyclic = absurd holds
package_cycle files name (value.Paths paths) holds cyclic = absurd holds
package_cycle files name (value.Module m) holds cyclic = absurd holds
package_cycle files name (value.Package targets) holds cyclic = absurd (package_acyclic files holds cyclic)
package_cycle files name (value.Fault fault) holds cyclic = absurd (package_acyclic files holds cyclic)
package_cycle files name (value.Cycle labels) holds cyclic = (labels, holds)

pub modules_show : ModulesShowTheirCycles
modules_show files t = ((λ cyclic. let held = some_module_held files t in module_cycle files t held.0 held.1 cyclic), λ labels shown. reaches files shown)

pub packages_show : PackagesShowTheirCycles
packages_show files name = ((λ cyclic. let held = some_package_held files name in package_cycle files name held.0 held.1 cyclic), λ labels shown. reaches files shown)
