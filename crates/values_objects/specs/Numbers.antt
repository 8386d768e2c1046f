-- Numbers that are held by the first and how many there are.
use Rattle.std.specs.Prelude.{List, pos}
use Rattle.values_semantics.specs.declared.val.Val.{Val}
use Rattle.values_semantics.specs.Functions.{numbers}
use Rattle.values_objects.specs.declared.numbers.Numbers.{Numbers}

-- the list of them
abbrev pub shown : Numbers → List Val
shown n = numbers n.count n.first (pos 1)
