use Rattle.std.proofs.Common.{◌≡◌, ◌++◌, drop}
use Rattle.std.specs.Prelude.{filter}
use Rattle.functions_directories.specs.SegmentMarks.{is_marked}
use Rattle.functions_directories.proofs.name_marks.marked_names.Given as goal

abbrev pub invariant-loop-i : goal.invariant-loop-i
invariant-loop-i l = l.all.items ++ filter (is_marked l.pattern) (drop l.i l.names) ≡ filter (is_marked l.pattern) l.names
