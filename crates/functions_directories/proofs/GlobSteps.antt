-- One name and its answer more.
use Rattle.std.proofs.Common.{◌≡◌, ℕ, ◌+◌, ◌-◌, ◌<◌, ◌≤◌, List, [], ◌∷◌, ◌++◌, length, map, take, drop, get_or, Bool, true, false, cond, sym, ◌∙◌, ap, arith}
use Rattle.std.specs.Prelude.{nat_lt}
use Rattle.std.specs.Arc.{arc_value}
use Rattle.std.specs.declared.sync.Arc.{Arc}
use Rattle.std.specs.declared.alloc.Global.{Global}
use Rattle.std.proofs.lemmas.List.{get_or-map, length-map, length-drop, append_assoc, drop-map, take_all}
use Rattle.keys.specs.Turns.{values}
use Rattle.keys.specs.declared.value.Value.{Value}
use Rattle.std.proofs.lemmas.Bool.{le-ltb}
use Rattle.engine_semantics.specs.Reply.{Reply, Ask, Done}
use Rattle.keys.specs.declared.key.Key.{Key}
use Rattle.keys.specs.declared.value.Value.TheVariants as value
use Rattle.filetree.specs.Listings.{sorted_names}
use Rattle.functions_directories.specs.Globs.{files_in, directories_in, own_names, asked_names, directories_to_enter, lookups, has_build, open_names, paths_of, globs, found_below, found_by, by_open, after_listing, step}
use Rattle.functions_directories.proofs.NamesInOrder.{drop_item}

module _ (names : List (List ℕ)) (answers : List (Arc Value Global)) (i : ℕ) (name : List ℕ) (answer : Arc Value Global)
    (h : i < length names) (k : i < length answers) (is_name : name ≡ get_or names i name) (is_answer : answer ≡ get_or answers i answer) where
  next_name : drop i names ≡ name ∷ drop (i + 1) names
  next_name = drop_item names i name h is_name

  next_answer : drop i (values answers) ≡ arc_value answer ∷ drop (i + 1) (values answers)
  next_answer =
      drop_item (values answers) i (arc_value answer) (omega (arith, length-map answers (λ (x : Arc Value Global). arc_value x)))
      (sym (get_or-map (λ (x : Arc Value Global). arc_value x) answers i answer (arc_value answer) k ∙ ap (λ (x : Arc Value Global). arc_value x) (sym is_answer)))

  abbrev more : List (List ℕ)
  more = open_names (drop (i + 1) names) (drop (i + 1) (values answers))

  opened : (t : Bool) → has_build (arc_value answer) ≡ t → open_names (drop i names) (drop i (values answers)) ≡ cond t more (name ∷ more)
  opened t e = (λ j. open_names (next_name j) (next_answer j)) ∙ ap (λ b. cond b more (name ∷ more)) e

  pub passed_by : (all later whole : List (List ℕ)) → has_build (arc_value answer) ≡ true → later ≡ all → all ++ open_names (drop i names) (drop i (values answers)) ≡ whole → later ++ more ≡ whole
  passed_by all later whole t same e = ap (λ xs. xs ++ more) same ∙ ap (λ xs. all ++ xs) (sym (opened true t)) ∙ e

  pub kept_one : (all later whole : List (List ℕ)) → has_build (arc_value answer) ≡ false → later ≡ all ++ name ∷ [] → all ++ open_names (drop i names) (drop i (values answers)) ≡ whole → later ++ more ≡ whole
  kept_one all later whole t same e = ap (λ xs. xs ++ more) same ∙ append_assoc all (name ∷ []) more ∙ ap (λ xs. all ++ xs) (sym (opened false t)) ∙ e

  abbrev below : List (List ℕ)
  below = found_below (drop (i + 1) names) (drop (i + 1) (values answers))

  pub found_one : (all later whole : List (List ℕ)) → later ≡ all ++ map (λ path. name ++ 47 ∷ path) (paths_of (arc_value answer)) → all ++ found_below (drop i names) (drop i (values answers)) ≡ whole → later ++ below ≡ whole
  found_one all later whole same e =
      ap (λ xs. xs ++ below) same ∙ append_assoc all (map (λ path. name ++ 47 ∷ path) (paths_of (arc_value answer))) below
      ∙ ap (λ xs. all ++ xs) (sym (λ j. found_below (next_name j) (next_answer j))) ∙ e

abbrev asking : List Key → Reply Key Value
asking group = Ask group

-- what comes after the look-ups, where they are all answered
pub by_open_is : (directory : List ℕ) (directories : Bool) (pattern : List ℕ) (files names free : List (List ℕ)) (answers : List (Arc Value Global)) → length names ≤ length answers → free ≡ open_names names (values answers)
    → by_open directory directories pattern files free (values (take (length answers - length names) (drop (length names) answers))) ≡ after_listing directory directories pattern files names (values answers)
by_open_is directory directories pattern files names free answers h e =
    (λ i. by_open directory directories pattern files (e i) (values (take_all (length answers - length names) (drop (length names) answers) (omega (arith, length-drop (length names) answers)) i)))
    ∙ (λ i. by_open directory directories pattern files (open_names names (values answers)) (sym (drop-map (λ (x : Arc Value Global). arc_value x) (length names) answers) i))
    ∙ sym (ap (λ b. cond b (asking (lookups directory names)) (by_open directory directories pattern files (open_names names (values answers)) (drop (length names) (values answers))))
    (le-ltb (length (values answers)) (length names) (omega (arith, h, length-map answers (λ (x : Arc Value Global). arc_value x)))))

-- the turn that ends with paths
abbrev ending : List (List ℕ) → Reply Key Value
ending paths = Done (value.Paths (sorted_names paths))

-- what comes after the look-ups, from the files that are found
abbrev from_own : List ℕ → Bool → List ℕ → List (List ℕ) → List (List ℕ) → List (List ℕ) → List Value → Reply Key Value
from_own directory directories pattern own free names answers =
    cond (nat_lt (length answers) (length (globs directory directories pattern names))) (asking (globs directory directories pattern names))
    (ending ((own ++ cond directories (own_names pattern free) []) ++ found_by pattern names answers))

-- of the files in a listing only those count that are found
pub own_alone : (directory : List ℕ) (directories : Bool) (pattern : List ℕ) (files others names : List (List ℕ)) (answers : List Value) → own_names pattern files ≡ own_names pattern others
    → after_listing directory directories pattern files names answers ≡ after_listing directory directories pattern others names answers
own_alone directory directories pattern files others names answers e =
    ap (λ (own : List (List ℕ)). cond (nat_lt (length answers) (length names)) (asking (lookups directory names))
    (from_own directory directories pattern own (open_names names answers) (directories_to_enter directories pattern (open_names names answers)) (drop (length names) answers))) e

-- and what comes after the listing
pub after_listing_is : (directory : List ℕ) (directories : Bool) (pattern : List ℕ) (files names : List (List ℕ)) (answers rest : List (Arc Value Global)) (listing : Arc Value Global)
    → files ≡ files_in (arc_value listing) → names ≡ asked_names directories pattern (directories_in (arc_value listing)) → answers ≡ listing ∷ rest
    → after_listing directory directories pattern files names (values rest) ≡ step directory directories pattern (values answers)
after_listing_is directory directories pattern files names answers rest listing f n e =
    (λ i. after_listing directory directories pattern (f i) (n i) (values rest)) ∙ sym (ap (λ xs. step directory directories pattern (values xs)) e)
