-- The value of a cycle does not depend on where it is entered.
use Rattle.std.proofs.Common.{◌≡◌, ℕ, List, [], ◌∷◌, ◌++◌, Some, ap}
use Rattle.engine_semantics.specs.Value.{AllDiffer}
use Rattle.engine_semantics.proofs.Rotating.{loop_labels_turned}
use Rattle.keys.specs.declared.key.Key.{Key}
use Rattle.keys.specs.declared.key.Key.TheVariants.{File, Listing, Lookup, Glob, Module, Package, Under}
use Rattle.keys.specs.declared.value.Value.TheVariants as value
use Rattle.keys.specs.Cycles.{label_of, cycle}

-- no two keys have one label
labels_injective : (j k : Key) (t : List ℕ) → label_of j ≡ Some t → label_of k ≡ Some t → j ≡ k
labels_injective (File p) k t e f = cc
labels_injective (Listing p) k t e f = cc
labels_injective (Lookup p) k t e f = cc
labels_injective (Glob p q w) k t e f = cc
labels_injective (Package p) k t e f = cc
labels_injective (Under p) k t e f = cc
labels_injective (Module p) (File q) t e f = cc
labels_injective (Module p) (Listing q) t e f = cc
labels_injective (Module p) (Lookup q) t e f = cc
labels_injective (Module p) (Glob q r w) t e f = cc
labels_injective (Module p) (Module q) t e f = cc
labels_injective (Module p) (Package q) t e f = cc
labels_injective (Module p) (Under q) t e f = cc

pub turned : (x : Key) (xs : List Key) → AllDiffer (x ∷ xs) → cycle (x ∷ xs) ≡ cycle (xs ++ x ∷ [])
turned x xs d = ap value.Cycle (loop_labels_turned label_of labels_injective x xs d)
