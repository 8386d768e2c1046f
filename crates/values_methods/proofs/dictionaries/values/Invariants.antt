use Rattle.std.proofs.Common.{◌≡◌, ◌++◌, drop, map}
use Rattle.values_methods.specs.Cases.{entry_list}
use Rattle.values_methods.proofs.dictionaries.values.Given as goal

abbrev pub invariant-loop-e : goal.invariant-loop-e
invariant-loop-e l = l.all.items ++ map (λ e. e.value) (drop l.e-index l.e-items) ≡ map (λ e. e.value) (entry_list l.entries)
