use Rattle.std.proofs.Common.{◌≡◌, [], drop}
use Rattle.evaluator_semantics.specs.Modules.{all_bodies, each_once}
use Rattle.evaluator_calls.specs.Once.{labels_of}
use Rattle.evaluator_calls.proofs.module_table.ModuleTable.of.Given as goal

abbrev pub invariant-loop-loaded : goal.invariant-loop-loaded
invariant-loop-loaded l = record {
  labelled : l.labels.keys ≡ labels_of l.all.items;
  once : each_once l.all.items (all_bodies (drop l.loaded-index l.loads)) ≡ each_once [] (all_bodies l.loads);
}
