use Rattle.std.proofs.Common.{◌≡◌, ◌++◌, drop}
use Rattle.values_semantics.specs.Outcome.{and_then, gives}
use Rattle.values_semantics.specs.Methods.{makes_texts}
use Rattle.values_heap.specs.View.{store_of}
use Rattle.values_methods.specs.Texts.{shown}
use Rattle.values_methods.proofs.strings.make_copies.Given as goal

abbrev pub invariant-loop-part : goal.invariant-loop-part
invariant-loop-part l = and_then (makes_texts (shown (drop l.part-index l.parts)) (store_of l.heap)) (λ xs. gives (l.all.items ++ xs)) ≡ makes_texts (shown l.parts) (store_of l.fn.heap)
