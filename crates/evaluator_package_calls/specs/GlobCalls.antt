-- What a call of `glob` asks for, in memory.
use Rattle.evaluator_semantics.specs.Globs.{Glob}
use Rattle.evaluator_package_calls.specs.declared.globbing.GlobCall.{GlobCall}
use Rattle.evaluator_package_calls.specs.declared.globbing.GlobArguments.{GlobArguments}

abbrev pub asked_of : GlobCall → Glob
asked_of a = record { includes = a.includes.items; excludes = a.excludes.items; allow_empty = a.allow_empty; directories = a.directories }

abbrev pub written_of : GlobArguments → Glob
written_of a = record { includes = a.includes.items; excludes = a.excludes.items; allow_empty = a.allow_empty; directories = a.directories }
