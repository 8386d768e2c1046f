-- By any table with these turns the value of the node is the packages at and below its directory.
use Rattle.std.proofs.Common.{◌≡◌, ◌∙◌, ap, sym, refl, arith, ℕ, zero, suc, ◌+◌, ◌-◌, ◌<◌, cond, List, [], ◌∷◌, ◌++◌, length, map}
use Rattle.std.specs.Prelude.{bytes_eq, flat_map}
use Rattle.std.specs.Option.{option_map}
use Rattle.std.specs.List.{list_any}
use Rattle.std.specs.FinMap as map_of
use Rattle.std.proofs.lemmas.Bool.{lt-ltb, le-ltb}
use Rattle.std.proofs.lemmas.List.{length-map}
use Rattle.engine_semantics.specs.Reply.{Reply, Ask, Done}
use Rattle.engine_semantics.specs.Value.{Grounded, is_leaf, has_run, Turns, ends, asks, AllGrounded, none, one}
use Rattle.filetree.specs.Files.{Files}
use Rattle.filetree.specs.Lawful.{HasPaths}
use Rattle.filetree.specs.Listings.{sorted_names, listing}
use Rattle.pattern.specs.Globs.{path_in}
use Rattle.pattern.proofs.Members.{In, own_bytes, or_left, or_right}
use Rattle.pattern.proofs.NameOrder.{in_sorted}
use Rattle.keys.specs.declared.key.Key.{Key}
use Rattle.keys.specs.declared.key.Key.TheVariants as key
use Rattle.keys.specs.declared.value.Value.{Value}
use Rattle.keys.specs.declared.value.Value.TheVariants as value
use Rattle.keys.specs.Leaves.{read, listed_of}
use Rattle.functions_directories.specs.Lookups.{build_of}
use Rattle.functions_directories.proofs.Builds.{built_there}
use Rattle.functions_directories.specs.Below.{packages_below}
use Rattle.functions_directories.specs.Turns.{subdirectories, keys_below, own_name, names_in}
use Rattle.functions_directories.specs.Finds.{HasTurns, LooksUp, HoldsPackages}
use Rattle.functions_directories.proofs.Directories.{held_in, sub_to, longer}
use Rattle.functions_directories.proofs.Steps.{found_by_step}

abbrev asking : List Key → Reply Key Value
asking group = Ask group

abbrev ending : Value → Reply Key Value
ending v = Done v

module _ (next : Key → List Value → Reply Key Value) (files : Files) (turns : HasTurns next) (looks : LooksUp next files) (good : HasPaths files) where
  abbrev held : List ℕ → Value
  held directory = value.Listing (option_map listed_of (listing files directory))

  abbrev look : List ℕ → Value
  look directory = value.Lookup (build_of files directory)

  abbrev packages : List ℕ → Value
  packages directory = value.Paths (packages_below files directory)

  module _ (directory : List ℕ) where
    abbrev names : List (List ℕ)
    names = subdirectories (held directory)

    abbrev below : List ℕ → Value
    below name = packages (path_in directory name)

    all_below : (names : List (List ℕ)) → ((name : List ℕ) → In name names → Grounded next (read files) (key.Under (path_in directory name)) (below name))
        → AllGrounded next (read files) (keys_below directory names) (map below names)
    all_below [] each = none
    all_below (name ∷ names) each =
        one (each name (or_left (bytes_eq name name) (list_any (bytes_eq name) names) (own_bytes name)))
        (all_below names (λ x i. each x (or_right (bytes_eq x name) (list_any (bytes_eq x) names) i)))

    -- what is in the answers of the subdirectories
    names_each : (names : List (List ℕ)) → names_in (map below names) ≡ flat_map (λ name. packages_below files (path_in directory name)) names
    names_each [] = refl
    names_each (name ∷ names) = ap (λ xs. packages_below files (path_in directory name) ++ xs) (names_each names)

    end_is : sorted_names (own_name directory (look directory) ++ names_in (map below names)) ≡ packages_below files directory
    end_is =
        (λ i. sorted_names (cond (built_there files good directory i) (directory ∷ []) [] ++ names_each names i))
        ∙ found_by_step files good directory

    ended : (n : List (List ℕ)) → subdirectories (held directory) ≡ n → next (key.Under directory) (look directory ∷ held directory ∷ map below n) ≡ Done (packages directory)
    ended n e =
        turns directory (look directory ∷ held directory ∷ map below n)
        ∙ ap (λ b. cond b (asking (keys_below directory names)) (ending (value.Paths (sorted_names (own_name directory (look directory) ++ names_in (map below n))))))
        (le-ltb (length (map below n)) (length names) (omega (arith, ap length e, length-map n below)))
        ∙ ap (λ xs. ending (value.Paths xs)) (ap (λ ns. sorted_names (own_name directory (look directory) ++ names_in (map below ns))) (sym e) ∙ end_is)

    -- the second group is not asked for where it is empty
    behind : (n : List (List ℕ)) → subdirectories (held directory) ≡ n → AllGrounded next (read files) (keys_below directory n) (map below n)
        → (groups : List (List Key)) × Turns next (read files) (key.Under directory) (look directory ∷ held directory ∷ []) groups (packages directory)
    behind [] e all = ([], ends (ended [] e))
    behind (name ∷ n) e all =
        let asked : next (key.Under directory) (look directory ∷ held directory ∷ []) ≡ Ask (keys_below directory (name ∷ n)) =
        turns directory (look directory ∷ held directory ∷ [])
        ∙ ap (λ b. cond b (asking (keys_below directory names)) (ending (value.Paths (sorted_names (own_name directory (look directory) ++ [])))))
        (lt-ltb 0 (length names) (omega (arith, ap length e)))
        ∙ ap (λ ns. asking (keys_below directory ns)) e in
        (keys_below directory (name ∷ n) ∷ [], asks asked all (ends (ended (name ∷ n) e)))

    run : AllGrounded next (read files) (keys_below directory names) (map below names) → Grounded next (read files) (key.Under directory) (packages directory)
    run all =
        let rest = behind names refl all in
        let listed : Grounded next (read files) (key.Listing directory) (held directory) = is_leaf refl in
        has_run refl (asks (turns directory []) (one (looks directory) (one listed none)) rest.1)

  value_at : (n : ℕ) (directory : List ℕ) → 256 - length directory < n → Grounded next (read files) (key.Under directory) (packages directory)
  value_at zero directory h = absurd (omega (arith, h))
  value_at (suc n) directory h =
      run directory (all_below directory (names directory) (λ name i.
      let sub = sub_to (map_of.keys files) directory name (in_sorted name (held_in (map_of.keys files) directory) i) in
      let size = longer (map_of.keys files) directory name good sub in
      value_at n (path_in directory name) (omega (arith, h, size.0, size.1))))

pub packages_held : HoldsPackages
packages_held next files turns looks good directory = value_at next files turns looks good (256 - length directory + 1) directory (omega arith)
