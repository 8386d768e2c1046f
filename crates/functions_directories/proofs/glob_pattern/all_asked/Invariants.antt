use Rattle.std.proofs.Common.{◌≡◌, ◌++◌, drop, ◌&&◌, ◌||◌, ℕ, List, Bool}
use Rattle.std.specs.Prelude.{filter}
use Rattle.functions_directories.specs.Globs.{enters, takes}
use Rattle.functions_directories.proofs.glob_pattern.all_asked.Given as goal

abbrev asks : Bool → List ℕ → List ℕ → Bool
asks directories pattern name = enters pattern name || directories && takes pattern name

abbrev pub invariant-loop-name : goal.invariant-loop-name
invariant-loop-name l = l.all.items ++ filter (asks l.search.directories l.search.pattern.now) (drop l.name-index l.names) ≡ filter (asks l.search.directories l.search.pattern.now) l.names
