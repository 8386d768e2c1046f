use Rattle.std.proofs.Common.{◌≡◌, drop}
use Rattle.values_modules.specs.FunctionNames.{first_named}
use Rattle.values_modules.proofs.functions.first_named.Given as goal

abbrev pub invariant-loop-function : goal.invariant-loop-function
invariant-loop-function l = first_named l.name (drop l.function-index l.functions) ≡ first_named l.name l.functions
