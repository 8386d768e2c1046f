use Rattle.std.proofs.Common.{◌≡◌, ◌++◌, drop}
use Rattle.values_semantics.specs.Outcome.{and_then, gives}
use Rattle.values_semantics.specs.Methods.{makes_texts}
use Rattle.values_heap.specs.View.{store_of}
use Rattle.evaluator_package_calls.proofs.answering.make_texts.Given as goal

abbrev pub invariant-loop-text : goal.invariant-loop-text
invariant-loop-text l = and_then (makes_texts (drop l.text-index l.texts) (store_of l.heap)) (λ xs. gives (l.all.items ++ xs)) ≡ makes_texts l.texts (store_of l.fn.heap)
