use Rattle.std.proofs.Common.{◌≡◌, [], ◌∷◌, drop}
use Rattle.values_semantics.specs.Printing.{all_escaped}
use Rattle.values_builtins.specs.TextBuffers.{text_so_far, more}
use Rattle.values_builtins.proofs.quoting.write_quoted.Given as goal

-- what is kept, with what is left, is what was kept after a quote, with all of it
abbrev pub invariant-loop-byte : goal.invariant-loop-byte
invariant-loop-byte l = more (text_so_far l.out) (all_escaped (drop l.byte-index l.bytes)) ≡ more (more (text_so_far l.fn.out) (34 ∷ [])) (all_escaped l.bytes)
