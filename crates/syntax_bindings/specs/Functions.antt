-- A function as a plain tree, made of its parts.
use Rattle.std.specs.Prelude.{ℕ, List}
use Rattle.syntax_tree.specs.Tree.{Pa, Suite, Fn}

abbrev pub function : ℕ → List ℕ → List Pa → Suite → Fn
function line name params body = record { line = line; name = name; params = params; body = body }
