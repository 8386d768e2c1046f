-- What a contract sees of an allocation that failed: that there was one.
use Rattle.std.specs.Prelude.{alloc_error}
use Rattle.base_types.specs.declared.memory.Memory.{Memory}

abbrev pub memory : Memory
memory = record { reason = alloc_error }
