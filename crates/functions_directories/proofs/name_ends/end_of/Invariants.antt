use Rattle.std.proofs.Common.{◌≡◌, cond, length}
use Rattle.std.specs.List.{list_any}
use Rattle.pattern.specs.Patterns.{is_star}
use Rattle.functions_directories.specs.Ends.{end_of}
use Rattle.functions_directories.proofs.name_ends.end_of.Given as goal

abbrev pub invariant-loop-first : goal.invariant-loop-first
invariant-loop-first l = end_of l.segment ≡ cond (list_any is_star l.rest) (end_of l.rest) l.end

abbrev pub decreases-loop-first : goal.decreases-loop-first
decreases-loop-first l = length l.rest
