use Rattle.std.proofs.Common.{◌≡◌, take}
use Rattle.evaluator_state.specs.FileLabels.{labels_in}
use Rattle.evaluator_state.proofs.files.index_of.Given as goal

abbrev pub invariant-loop-file : goal.invariant-loop-file
invariant-loop-file l = l.labels.keys ≡ labels_in (take l.file-index l.files)
