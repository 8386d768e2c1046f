-- Laws of what the modules and the packages of a tree of files are.
use Rattle.std.specs.Prelude.{◌≡◌, ℕ, List}
use Rattle.labels.specs.Labels.{Target}
use Rattle.filetree.specs.Files.{Files}
use Rattle.keys.specs.declared.value.Value.{Value}
use Rattle.functions.specs.Loads.{Node, of_module, of_package, ReachesCycle, ShowsCycle}
use Rattle.functions.specs.FilePackages.{Module, Package, IsModule, IsPackage, HoldsModule, HoldsPackage}

-- a label has at most one module
abbrev pub OneModule : Type 0
OneModule = (files : Files) (t : Target) (m n : Module) → IsModule files t m → IsModule files t n → m ≡ n

-- a name has at most one package, by whatever right answers its file is evaluated
abbrev pub OnePackage : Type 0
OnePackage = (files : Files) (name : List ℕ) (p q : Package) → IsPackage files name p → IsPackage files name q → p ≡ q

-- what shows a cycle is neither a module nor a package, faulty or not
abbrev pub CyclesHaveNoModule : Type 0
CyclesHaveNoModule = (files : Files) (t : Target) (labels : List (List ℕ)) (m : Module) → ShowsCycle files (of_module t) labels → ¬ IsModule files t m

abbrev pub CyclesHaveNoPackage : Type 0
CyclesHaveNoPackage = (files : Files) (name : List ℕ) (labels : List (List ℕ)) (p : Package) → ShowsCycle files (of_package name) labels → ¬ IsPackage files name p

-- a node shows at most one cycle
abbrev pub OneCycle : Type 0
OneCycle = (files : Files) (n : Node) (a b : List (List ℕ)) → ShowsCycle files n a → ShowsCycle files n b → a ≡ b

-- so the files determine the value of the node of a module, and that of a package
abbrev pub OneModuleHeld : Type 0
OneModuleHeld = (files : Files) (t : Target) (v w : Value) → HoldsModule files t v → HoldsModule files t w → v ≡ w

abbrev pub OnePackageHeld : Type 0
OnePackageHeld = (files : Files) (name : List ℕ) (v w : Value) → HoldsPackage files name v → HoldsPackage files name w → v ≡ w

-- A label has at least a module, a fault or a cycle, and a name has a package, a fault or a cycle.
abbrev pub SomeModuleHeld : Type 0
SomeModuleHeld = (files : Files) (t : Target) → (v : Value) × HoldsModule files t v

abbrev pub SomePackageHeld : Type 0
SomePackageHeld = (files : Files) (name : List ℕ) → (v : Value) × HoldsPackage files name v

-- what reaches a cycle of loads shows one, and what shows one reaches it
abbrev pub IsShownWhereReached : Files → Node → Type 0
IsShownWhereReached files n = (ReachesCycle files n → (labels : List (List ℕ)) × ShowsCycle files n labels) × ((labels : List (List ℕ)) → ShowsCycle files n labels → ReachesCycle files n)

abbrev pub ModulesShowTheirCycles : Type 0
ModulesShowTheirCycles = (files : Files) (t : Target) → IsShownWhereReached files (of_module t)

abbrev pub PackagesShowTheirCycles : Type 0
PackagesShowTheirCycles = (files : Files) (name : List ℕ) → IsShownWhereReached files (of_package name)
