use Rattle.std.proofs.Common.{◌≡◌, ◌++◌, drop}
use Rattle.functions_directories.proofs.ordering.share_texts.Given as goal

abbrev pub invariant-loop-text : goal.invariant-loop-text
invariant-loop-text l = l.all.items ++ drop l.text-index l.texts ≡ l.texts
