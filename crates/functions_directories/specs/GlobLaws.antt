-- The groups of a glob have no key twice, and a glob ends with paths.
use Rattle.std.proofs.Common.{◌≡◌, ◌≢◌, T, ℕ, ◌+◌, ◌<◌, List, [], ◌∷◌, ◌++◌, drop, length, map, Bool, true, false, cond, ◌&&◌, ◌||◌, Some, None, refl, ap, sym, subst, ◌∙◌, arith}
use Rattle.std.specs.Prelude.{filter, is_some, nat_lt}
use Rattle.std.specs.List.{AllByRecursion, position_or_len, after_first}
use Rattle.std.specs.FinMap as finite
use Rattle.std.specs.FinMap.Entries.{below_all, is_sorted}
use Rattle.std.specs.Ordering.{nat_cmp, is_lt}
use Rattle.std.specs.Cmp.{tied_itself}
use Rattle.std.specs.Cmp.Lexicographic.{slice_cmp, nat_list_cmp_total}
use Rattle.std.proofs.lemmas.List.{append_cancel_left, length-drop}
use Rattle.std.proofs.lemmas.Bool.{ltb-true}
use Rattle.engine_semantics.specs.Reply.{Reply, Ask, Done}
use Rattle.engine_semantics.specs.Value.{AllDiffer}
use Rattle.labels.specs.Labels.{is_slash}
use Rattle.filetree.specs.Listings.{alone, sorted_names}
use Rattle.pattern.specs.Globs.{path_in}
use Rattle.keys.specs.declared.key.Key.{Key}
use Rattle.keys.specs.declared.key.Key.TheVariants as key
use Rattle.keys.specs.declared.value.Value.{Value}
use Rattle.keys.specs.declared.value.Value.TheVariants as value
use Rattle.keys.specs.Turns.{NoCycle}
use Rattle.functions_directories.specs.Globs.{is_deep, takes, files_in, directories_in, has_build, own_found, enters, asked_names, directories_to_enter, lookups, open_names, text_or_none, globs_below, globs, found_by, by_open, step}

-- ---- names in byte order differ

both : (a b : Bool) → T (a && b) → T a × T b
both true b h = (tt, h)
both false b h = absurd h

rises_differ : (x y : List ℕ) → T (is_lt (slice_cmp nat_cmp x y)) → x ≢ y
rises_differ x y h e = subst (λ o. T (is_lt o)) (ap (slice_cmp nat_cmp x) (sym e) ∙ tied_itself nat_list_cmp_total x) h

above_differ : (x : List ℕ) (es : List (List ℕ × ℕ)) → T (below_all (slice_cmp nat_cmp) x es) → AllByRecursion (λ y. x ≢ y) (map (λ e. e.0) es)
above_differ x [] h = tt
above_differ x (e ∷ es) h = let p = both (is_lt (slice_cmp nat_cmp x e.0)) (below_all (slice_cmp nat_cmp) x es) h in (rises_differ x e.0 p.0, above_differ x es p.1)

entries_differ : (es : List (List ℕ × ℕ)) → T (is_sorted (slice_cmp nat_cmp) es) → AllDiffer (map (λ e. e.0) es)
entries_differ [] h = tt
entries_differ (e ∷ es) h = let p = both (below_all (slice_cmp nat_cmp) e.0 es) (is_sorted (slice_cmp nat_cmp) es) h in (above_differ e.0 es p.0, entries_differ es p.1)

pub sorted_differ : (names : List (List ℕ)) → AllDiffer (sorted_names names)
sorted_differ names = let m = finite.from_entries {R = slice_cmp nat_cmp} (map alone names) in entries_differ (finite.entries m) (finite.entries_sorted m)

-- ---- and what is made of them

each_apart : {A B : Type 0} (f : A → B) → ((x y : A) → f x ≡ f y → x ≡ y) → (x : A) (ys : List A) → AllByRecursion (λ y. x ≢ y) ys → AllByRecursion (λ k. f x ≢ k) (map f ys)
each_apart f same x [] h = tt
each_apart f same x (y ∷ ys) h = (λ e. h.0 (same x y e), each_apart f same x ys h.1)

each_differ : {A B : Type 0} (f : A → B) → ((x y : A) → f x ≡ f y → x ≡ y) → (xs : List A) → AllDiffer xs → AllDiffer (map f xs)
each_differ f same [] h = tt
each_differ f same (x ∷ xs) h = (each_apart f same x xs h.0, each_differ f same xs h.1)

each_passes : {A B : Type 0} (f : A → B) (P : B → Type 0) → ((x : A) → P (f x)) → (xs : List A) → AllByRecursion P (map f xs)
each_passes f P p [] = tt
each_passes f P p (x ∷ xs) = (p x, each_passes f P p xs)

same_name : (directory x y : List ℕ) → path_in directory x ≡ path_in directory y → x ≡ y
same_name [] x y e = e
same_name (b ∷ directory) x y e = let h : 47 ∷ x ≡ 47 ∷ y = append_cancel_left (b ∷ directory) (47 ∷ x) (47 ∷ y) e in cc

same_lookup : (directory x y : List ℕ) → key.Lookup (path_in directory x) ≡ key.Lookup (path_in directory y) → x ≡ y
same_lookup directory x y e = same_name directory x y (cc)

same_glob : (directory : List ℕ) (directories : Bool) (pattern x y : List ℕ) → key.Glob (path_in directory x) pattern directories ≡ key.Glob (path_in directory y) pattern directories → x ≡ y
same_glob directory directories pattern x y e = same_name directory x y (cc)

pub lookups_differ : (directory : List ℕ) (names : List (List ℕ)) → AllDiffer names → AllDiffer (lookups directory names)
lookups_differ directory names h = each_differ (λ name. key.Lookup (path_in directory name)) (same_lookup directory) names h

open_apart : (x : List ℕ) (names : List (List ℕ)) (answers : List Value) → AllByRecursion (λ y. x ≢ y) names → AllByRecursion (λ y. x ≢ y) (open_names names answers)
open_apart x [] answers h = tt
open_apart x (name ∷ names) [] h = tt
open_apart x (name ∷ names) (answer ∷ answers) h = go (has_build answer) (open_apart x names answers h.1)
  where
    go : (b : Bool) → AllByRecursion (λ y. x ≢ y) (open_names names answers) → AllByRecursion (λ y. x ≢ y) (cond b (open_names names answers) (name ∷ open_names names answers))
    go true later = later
    go false later = (h.0, later)

open_differ : (names : List (List ℕ)) (answers : List Value) → AllDiffer names → AllDiffer (open_names names answers)
open_differ [] answers h = tt
open_differ (name ∷ names) [] h = tt
open_differ (name ∷ names) (answer ∷ answers) h = go (has_build answer) (open_differ names answers h.1)
  where
    go : (b : Bool) → AllDiffer (open_names names answers) → AllDiffer (cond b (open_names names answers) (name ∷ open_names names answers))
    go true later = later
    go false later = (open_apart name names answers h.0, later)

filter_apart : (t : List ℕ → Bool) (x : List ℕ) (names : List (List ℕ)) → AllByRecursion (λ y. x ≢ y) names → AllByRecursion (λ y. x ≢ y) (filter t names)
filter_apart t x [] h = tt
filter_apart t x (name ∷ names) h = go (t name) (filter_apart t x names h.1)
  where
    go : (b : Bool) → AllByRecursion (λ y. x ≢ y) (filter t names) → AllByRecursion (λ y. x ≢ y) (cond b (name ∷ filter t names) (filter t names))
    go true later = (h.0, later)
    go false later = later

filter_differ : (t : List ℕ → Bool) (names : List (List ℕ)) → AllDiffer names → AllDiffer (filter t names)
filter_differ t [] h = tt
filter_differ t (name ∷ names) h = go (t name) (filter_differ t names h.1)
  where
    go : (b : Bool) → AllDiffer (filter t names) → AllDiffer (cond b (name ∷ filter t names) (filter t names))
    go true later = (filter_apart t name names h.0, later)
    go false later = later

entered_differ : (directories : Bool) (pattern : List ℕ) (free : List (List ℕ)) → AllDiffer free → AllDiffer (directories_to_enter directories pattern free)
entered_differ true pattern free h = filter_differ (enters pattern) free h
entered_differ false pattern free h = h

-- a pattern is longer than that of its segments after the first
shorter_rest : (pattern : List ℕ) → nat_lt (position_or_len is_slash pattern) (length pattern) ≡ true → length (after_first is_slash pattern) < length pattern
shorter_rest pattern h = omega (arith, ltb-true (position_or_len is_slash pattern) (length pattern) h, length-drop (position_or_len is_slash pattern + 1) pattern)

here_differs : (directory : List ℕ) (directories : Bool) (pattern rest : List ℕ) → length rest < length pattern → (name : List ℕ) → key.Glob directory rest directories ≢ key.Glob (path_in directory name) pattern directories
here_differs directory directories pattern rest h name e = let same : rest ≡ pattern = cc in omega (arith, h, ap length same)

below_differ : (directory : List ℕ) (directories : Bool) (pattern : List ℕ) (names : List (List ℕ)) → AllDiffer names → AllDiffer (globs_below directory directories pattern names)
below_differ directory directories pattern names h = each_differ (λ name. key.Glob (path_in directory name) pattern directories) (same_glob directory directories pattern) names h

pub globs_differ : (directory : List ℕ) (directories : Bool) (pattern : List ℕ) (names : List (List ℕ)) → AllDiffer names → AllDiffer (globs directory directories pattern names)
globs_differ directory directories pattern names h = go (is_deep pattern) (nat_lt (position_or_len is_slash pattern) (length pattern)) refl
  where
    go : (d t : Bool) → nat_lt (position_or_len is_slash pattern) (length pattern) ≡ t
        → AllDiffer (cond (d && is_some (cond t (Some (after_first is_slash pattern)) None))
        (key.Glob directory (text_or_none (cond t (Some (after_first is_slash pattern)) None)) directories
        ∷ globs_below directory directories (cond d pattern (text_or_none (cond t (Some (after_first is_slash pattern)) None))) names)
        (globs_below directory directories (cond d pattern (text_or_none (cond t (Some (after_first is_slash pattern)) None))) names))
    go true true e = (
      each_passes (λ name. key.Glob (path_in directory name) pattern directories) (λ k. key.Glob directory (after_first is_slash pattern) directories ≢ k)
          (here_differs directory directories pattern (after_first is_slash pattern) (shorter_rest pattern e)) names,
      below_differ directory directories pattern names h,
    )
    go true false e = below_differ directory directories pattern names h
    go false true e = below_differ directory directories (after_first is_slash pattern) names h
    go false false e = below_differ directory directories [] names h

-- ---- the turns

abbrev asking : List Key → Reply Key Value
asking group = Ask group

abbrev ending : Value → Reply Key Value
ending v = Done v

same_group : (g group : List Key) → asking g ≡ Ask group → g ≡ group
same_group g group e = cc

no_group : (u : Value) (group : List Key) → ending u ≡ Ask group → ⊥
no_group u group e = cc

no_value : (g : List Key) (v : Value) → asking g ≡ Done v → ⊥
no_value g v e = cc

last_differs : (t : Bool) (g : List Key) (u : Value) (group : List Key) → AllDiffer g → cond t (asking g) (ending u) ≡ Ask group → AllDiffer group
last_differs true g u group d e = subst AllDiffer (same_group g group e) d
last_differs false g u group d e = absurd (no_group u group e)

first_differs : (t : Bool) (g : List Key) (more : Reply Key Value) (group : List Key) → AllDiffer g → (more ≡ Ask group → AllDiffer group) → cond t (asking g) more ≡ Ask group → AllDiffer group
first_differs true g more group d h e = subst AllDiffer (same_group g group e) d
first_differs false g more group d h e = h e

open_group : (directory : List ℕ) (directories : Bool) (pattern : List ℕ) (files free : List (List ℕ)) (answers : List Value) (group : List Key) → AllDiffer free
    → by_open directory directories pattern files free answers ≡ Ask group → AllDiffer group
open_group directory directories pattern files free answers group h e =
    let names = directories_to_enter directories pattern free in
    last_differs (nat_lt (length answers) (length (globs directory directories pattern names))) (globs directory directories pattern names)
    (value.Paths (sorted_names (own_found directories pattern files free ++ found_by pattern names answers))) group (globs_differ directory directories pattern names (entered_differ directories pattern free h)) e

pub step_differs : (directory : List ℕ) (directories : Bool) (pattern : List ℕ) (answers : List Value) (group : List Key) → step directory directories pattern answers ≡ Ask group → AllDiffer group
step_differs directory directories pattern [] group e = subst AllDiffer (same_group (key.Listing directory ∷ []) group e) (tt, tt)
step_differs directory directories pattern (listing ∷ answers) group e =
    let names = asked_names directories pattern (directories_in listing) in
    let differ : AllDiffer names = sorted_differ (filter (λ name. enters pattern name || directories && takes pattern name) (directories_in listing)) in
    let free = open_names names answers in
    let rest = drop (length names) answers in
    first_differs (nat_lt (length answers) (length names)) (lookups directory names) (by_open directory directories pattern (files_in listing) free rest) group (lookups_differ directory names differ)
    (open_group directory directories pattern (files_in listing) free rest group (open_differ names answers differ)) e

plain_at : (u v : Value) → NoCycle u → ending u ≡ Done v → NoCycle v
plain_at u v p e = let h : u ≡ v = cc in subst NoCycle h p

last_plain : (t : Bool) (g : List Key) (u v : Value) → NoCycle u → cond t (asking g) (ending u) ≡ Done v → NoCycle v
last_plain true g u v p e = absurd (no_value g v e)
last_plain false g u v p e = plain_at u v p e

first_plain : (t : Bool) (g : List Key) (more : Reply Key Value) (v : Value) → (more ≡ Done v → NoCycle v) → cond t (asking g) more ≡ Done v → NoCycle v
first_plain true g more v h e = absurd (no_value g v e)
first_plain false g more v h e = h e

pub step_plain : (directory : List ℕ) (directories : Bool) (pattern : List ℕ) (answers : List Value) (v : Value) → step directory directories pattern answers ≡ Done v → NoCycle v
step_plain directory directories pattern [] v e = absurd (no_value (key.Listing directory ∷ []) v e)
step_plain directory directories pattern (listing ∷ answers) v e =
    let asked = asked_names directories pattern (directories_in listing) in
    let free = open_names asked answers in
    let names = directories_to_enter directories pattern free in
    let rest = drop (length asked) answers in
    first_plain (nat_lt (length answers) (length asked)) (lookups directory asked) (by_open directory directories pattern (files_in listing) free rest) v
    (last_plain (nat_lt (length rest) (length (globs directory directories pattern names))) (globs directory directories pattern names)
    (value.Paths (sorted_names (own_found directories pattern (files_in listing) free ++ found_by pattern names rest))) v tt) e
