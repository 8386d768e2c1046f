-- What is shown a cycle has no value.
use Rattle.std.proofs.Common.{ℕ, List, Result, ap, subst}
use Rattle.engine_semantics.specs.Value.{In, first, after}
use Rattle.labels.specs.Labels.{Target}
use Rattle.filetree.specs.Files.{Files}
use Rattle.keys.specs.declared.value.Fault.{Fault}
use Rattle.functions.specs.Loads.{Node, of_module, of_package, File, loads_in, Path, stay, load, ReachesCycle, FirstCyclic, at_head, further, Follows, once, more, ShowsCycle}
use Rattle.functions.specs.FilePackages.{Package, IsPackage, of_file, of_load, evaluated}
use Rattle.functions.specs.PackageLaws.{CyclesHaveNoModule, CyclesHaveNoPackage}
use Rattle.functions.proofs.NodeCycles.{nearer, no_member, acyclic, all_acyclic}

module _ (files : Files) where
  pub is_member : {ts : List Target} {u : Target} → FirstCyclic files ts u → In u ts
  is_member (at_head c) = first
  is_member (further none behind) = after (is_member behind)

  path_along : {n : Node} {ts : List Target} {u : Target} → Follows files n ts u → Path files n (of_module u)
  path_along (once c) = load (is_member c) stay
  path_along (more c follows) = load (is_member c) (path_along follows)

  -- a cycle of loads
  loop : {n : Node} {u : Target} {ts : List Target} → Path files n (of_module u) → Follows files (of_module u) ts u → ReachesCycle files n
  loop {u = u} comes (once c) = record { twice = u; next = u; comes = comes; loads_next = is_member c; returns = stay }
  loop {u = u} comes (more {t = t} c follows) = record { twice = u; next = t; comes = comes; loads_next = is_member c; returns = path_along follows }

  pub reaches : {n : Node} {labels : List (List ℕ)} → ShowsCycle files n labels → ReachesCycle files n
  reaches c = loop (path_along c.comes) c.returns

  pub package_acyclic : {name : List ℕ} {p : Package} → IsPackage files name p → ReachesCycle files (of_package name) → ⊥
  package_acyclic {name = name} (of_file e) c = let r = nearer files (of_package name) c in no_member files r.is_load (ap (λ (f : Result File Fault). loads_in f) e)
  package_acyclic {name = name} (of_load e are faults) c =
      let r = nearer files (of_package name) c in all_acyclic files are (subst (λ (ts : List Target). In r.loaded ts) (ap (λ (f : Result File Fault). loads_in f) e) r.is_load) r.reaches
  package_acyclic {name = name} (evaluated answers e are all right leaves) c =
      let r = nearer files (of_package name) c in all_acyclic files are (subst (λ (ts : List Target). In r.loaded ts) (ap (λ (f : Result File Fault). loads_in f) e) r.is_load) r.reaches

pub no_module_shown : CyclesHaveNoModule
no_module_shown files t labels m c is = acyclic files is (reaches files c)

pub no_package_shown : CyclesHaveNoPackage
no_package_shown files name labels p c is = package_acyclic files is (reaches files c)
