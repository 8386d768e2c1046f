-- No group of the node has a key twice, and the node ends with no cycle.
use Rattle.std.proofs.Common.{◌≡◌, ◌≢◌, ℕ, List, [], ◌∷◌, ◌++◌, length, Bool, true, false, cond, subst}
use Rattle.std.specs.Prelude.{nat_lt}
use Rattle.std.specs.List.{AllByRecursion}
use Rattle.std.proofs.lemmas.List.{append_cancel_left}
use Rattle.engine_semantics.specs.Reply.{Reply, Ask, Done}
use Rattle.engine_semantics.specs.Value.{AllDiffer}
use Rattle.filetree.specs.Listings.{sorted_names}
use Rattle.pattern.specs.Globs.{path_in}
use Rattle.keys.specs.declared.key.Key.{Key}
use Rattle.keys.specs.declared.key.Key.TheVariants as key
use Rattle.keys.specs.declared.value.Value.{Value}
use Rattle.keys.specs.declared.value.Value.TheVariants as value
use Rattle.keys.specs.Turns.{NoCycle}
use Rattle.functions_directories.specs.Globs.{directories_in}
use Rattle.functions_directories.specs.GlobLaws.{sorted_differ}
use Rattle.functions_directories.specs.Turns.{first_group, subdirectories, keys_below, own_name, names_in, next}

-- ---- keys of names that differ

same_name : (directory x y : List ℕ) → path_in directory x ≡ path_in directory y → x ≡ y
same_name [] x y e = e
same_name (b ∷ directory) x y e = let h : 47 ∷ x ≡ 47 ∷ y = append_cancel_left (b ∷ directory) (47 ∷ x) (47 ∷ y) e in cc

same_key : (directory x y : List ℕ) → key.Under (path_in directory x) ≡ key.Under (path_in directory y) → x ≡ y
same_key directory x y e = same_name directory x y (cc)

each_apart : (directory x : List ℕ) (names : List (List ℕ)) → AllByRecursion (λ y. x ≢ y) names → AllByRecursion (λ k. key.Under (path_in directory x) ≢ k) (keys_below directory names)
each_apart directory x [] h = tt
each_apart directory x (y ∷ names) h = (λ e. h.0 (same_key directory x y e), each_apart directory x names h.1)

below_differ : (directory : List ℕ) (names : List (List ℕ)) → AllDiffer names → AllDiffer (keys_below directory names)
below_differ directory [] h = tt
below_differ directory (name ∷ names) h = (each_apart directory name names h.0, below_differ directory names h.1)

kinds_differ : (directory : List ℕ) → key.Lookup directory ≢ key.Listing directory
kinds_differ directory e = cc

first_differs : (directory : List ℕ) → AllDiffer (first_group directory)
first_differs directory = ((kinds_differ directory, tt), (tt, tt))

-- ---- the turns

abbrev asking : List Key → Reply Key Value
asking group = Ask group

abbrev ending : Value → Reply Key Value
ending v = Done v

same_group : (g group : List Key) → asking g ≡ Ask group → g ≡ group
same_group g group e = cc

no_group : (u : Value) (group : List Key) → ending u ≡ Ask group → ⊥
no_group u group e = cc

no_value : (g : List Key) (v : Value) → asking g ≡ Done v → ⊥
no_value g v e = cc

last_differs : (t : Bool) (g : List Key) (u : Value) (group : List Key) → AllDiffer g → cond t (asking g) (ending u) ≡ Ask group → AllDiffer group
last_differs true g u group d e = subst AllDiffer (same_group g group e) d
last_differs false g u group d e = absurd (no_group u group e)

pub under_differs : (directory : List ℕ) (answers : List Value) (group : List Key) → next directory answers ≡ Ask group → AllDiffer group
under_differs directory [] group e = subst AllDiffer (same_group (first_group directory) group e) (first_differs directory)
under_differs directory (lookup ∷ []) group e = subst AllDiffer (same_group (first_group directory) group e) (first_differs directory)
under_differs directory (lookup ∷ listing ∷ answers) group e =
    let names = subdirectories listing in
    last_differs (nat_lt (length answers) (length names)) (keys_below directory names) (value.Paths (sorted_names (own_name directory lookup ++ names_in answers))) group
    (below_differ directory names (sorted_differ (directories_in listing))) e

plain_at : (u v : Value) → NoCycle u → ending u ≡ Done v → NoCycle v
plain_at u v p e = let h : u ≡ v = cc in subst NoCycle h p

last_plain : (t : Bool) (g : List Key) (u v : Value) → NoCycle u → cond t (asking g) (ending u) ≡ Done v → NoCycle v
last_plain true g u v p e = absurd (no_value g v e)
last_plain false g u v p e = plain_at u v p e

pub under_plain : (directory : List ℕ) (answers : List Value) (v : Value) → next directory answers ≡ Done v → NoCycle v
under_plain directory [] v e = absurd (no_value (first_group directory) v e)
under_plain directory (lookup ∷ []) v e = absurd (no_value (first_group directory) v e)
under_plain directory (lookup ∷ listing ∷ answers) v e =
    let names = subdirectories listing in
    last_plain (nat_lt (length answers) (length names)) (keys_below directory names) (value.Paths (sorted_names (own_name directory lookup ++ names_in answers))) v tt e
