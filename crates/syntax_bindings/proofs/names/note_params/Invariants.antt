use Rattle.std.proofs.Common.{◌≡◌, ◌++◌, drop}
use Rattle.syntax_bindings.specs.NameSets.{names_of, SameNames, names_of_params}
use Rattle.syntax_bindings.proofs.names.note_params.Given as goal

abbrev pub invariant-loop-param : goal.invariant-loop-param
invariant-loop-param l = record {
  names : SameNames (names_of_params (drop l.param-index l.params) ++ names_of l.found) (names_of_params l.params ++ names_of l.fn.found);
  kept : l.found.kept ≡ l.fn.found.kept;
}
