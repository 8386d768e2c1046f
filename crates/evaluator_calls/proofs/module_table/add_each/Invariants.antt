use Rattle.std.proofs.Common.{◌≡◌, drop}
use Rattle.evaluator_semantics.specs.Modules.{each_once}
use Rattle.evaluator_calls.specs.Once.{labels_of}
use Rattle.evaluator_calls.proofs.module_table.add_each.Given as goal

abbrev pub invariant-loop-m : goal.invariant-loop-m
invariant-loop-m l = record {
  labelled : l.labels.keys ≡ labels_of l.all.items;
  once : each_once l.all.items (drop l.m-index l.modules) ≡ each_once l.fn.all.items l.modules;
}
