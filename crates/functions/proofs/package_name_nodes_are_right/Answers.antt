use Rattle.std.proofs.Common.{refl}
use Rattle.engine_semantics.proofs.Unique.{same_value}
use Rattle.keys.specs.Leaves.{read}
use Rattle.functions.specs.Next.{next}
use Rattle.functions_directories.proofs.LookupValue.{lookup_grounded}
use Rattle.functions_directories.proofs.Grounds.{packages_held}
use Rattle.functions.proofs.package_name_nodes_are_right.Goals as goal

pub returns : goal.returns
returns c = λ files directory good.
    let held = packages_held next files (λ d answers. refl) (lookup_grounded next (λ d answers. refl) files) good directory in
    (held, λ w g. same_value next (read files) g held refl)
