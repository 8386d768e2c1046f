use Rattle.std.proofs.Common.{refl}
use Rattle.std.specs.FinMap as map
use Rattle.std.specs.Option.{option_map}
use Rattle.engine_semantics.specs.Value.{Grounded, is_leaf}
use Rattle.engine_semantics.proofs.Unique.{same_value}
use Rattle.filetree.specs.Listings.{listing}
use Rattle.keys.specs.declared.key.Key.TheVariants as key
use Rattle.keys.specs.declared.value.Value.TheVariants as value
use Rattle.functions.specs.Next.{next}
use Rattle.keys.specs.Leaves.{read, listed_of}
use Rattle.functions_directories.proofs.LookupValue.{lookup_grounded, lookup_value}
use Rattle.functions.proofs.leaf_and_lookup_nodes_are_right.Goals as goal

pub returns : goal.returns
returns c = λ files name.
    let file : Grounded next (read files) (key.File name) (value.File (map.get files name)) = is_leaf refl in
    let names : Grounded next (read files) (key.Listing name) (value.Listing (option_map listed_of (listing files name))) = is_leaf refl in (
      (file, λ w g. same_value next (read files) g file refl),
      (names, λ w g. same_value next (read files) g names refl),
      (lookup_grounded next (λ directory answers. refl) files name, lookup_value next (λ directory answers. refl) files name),
    )
