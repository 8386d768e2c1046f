use Rattle.std.proofs.Common.{rules}
use Rattle.std.specs.Ordering.{nat_cmp}
use Rattle.std.specs.Cmp.Lexicographic.{slice_cmp}
use Rattle.std.proofs.lemmas.Fn.{always_returns_same}
use Rattle.functions_directories.proofs.PossibleNames.{sought}
use Rattle.functions_directories.proofs.possible_names.find_name.Goals as goal

pub returns : goal.returns
returns c =
    let place = c.binary_search_by.ensures.position (λ other. slice_cmp nat_cmp other c.args.name.now) (always_returns_same _ _ _ (λ a r f k. search rules)) in
    sought c.args.names.now c.args.name.now c.binary_search_by.result c.requires c.binary_search_by.ensures.bound place
