-- Lists of names that pass the same tests.
use Rattle.std.proofs.Common.{◌≡◌, ◌∙◌, ap, sym, refl, ℕ, ◌+◌, Bool, true, false, cond, not, ◌&&◌, ◌||◌, ◌==◌, List, [], ◌∷◌, ◌++◌, length, take, drop, Option, Some, None, map as each, arith, ◌<◌}
use Rattle.std.specs.Prelude.{is_some, flat_map, nat_lt}
use Rattle.std.specs.FinMap as map
use Rattle.std.specs.List.{list_any, list_all, filter, filter_map, cons_option, position_or_len}
use Rattle.std.specs.Ordering.{nat_cmp, eq_by_cmp}
use Rattle.std.specs.declared.cmp.Ordering.TheVariants.{Equal}
use Rattle.std.specs.Cmp.Lexicographic.{slice_cmp, nat_list_cmp_total}
use Rattle.std.proofs.lemmas.Bool.{and_parts, false≢true, lt-ltb, eqb-true}
use Rattle.std.proofs.lemmas.List.{length-append, drop_at, take_at, append_assoc, map-append}
use Rattle.std.proofs.lemmas.List.Folds.{list_any-append}
use Rattle.filetree.specs.Files.{is_ancestor}
use Rattle.filetree.specs.Folders.{Entries, Below, behind, level, text_at, has_no_slash, is_inner, is_sound}
use Rattle.filetree.specs.Listings.{Names, alone, sorted_names, rest_below, first_name, names_in}
use Rattle.filetree.proofs.FilesLemmas.{any_key}
use Rattle.filetree.proofs.Slashes.{ancestor_from, ancestor_of}
use Rattle.filetree.proofs.Sound.{parts_of}
use Rattle.filetree.proofs.Whole.{any_from, any_to, same_bool}

-- the same names are in both
abbrev pub Alike : List (List ℕ) → List (List ℕ) → Type 0
Alike xs ys = (p : List ℕ → Bool) → list_any p xs ≡ list_any p ys

any_each : {X Y : Type 0} (f : X → Y) (p : Y → Bool) (xs : List X) → list_any p (each f xs) ≡ list_any (λ x. p (f x)) xs
any_each f p [] = refl
any_each f p (x ∷ xs) = ap (λ b. p (f x) || b) (any_each f p xs)

any_filter : (t p : List ℕ → Bool) (xs : List (List ℕ)) → list_any p (filter t xs) ≡ list_any (λ x. t x && p x) xs
any_filter t p [] = refl
any_filter t p (x ∷ xs) =
    elim (t x) as (λ b. list_any p (cond b (x ∷ filter t xs) (filter t xs)) ≡ b && p x || list_any (λ x. t x && p x) xs) [
      | true ↦ ap (λ b. p x || b) (any_filter t p xs)
      | false ↦ any_filter t p xs
    ]

-- the test of a rest, where there is one
abbrev pub rest_passes : (List ℕ → Bool) → Option (List ℕ) → Bool
rest_passes t None = false
rest_passes t (Some rest) = t rest

any_rest_at : (p : List ℕ → Bool) (o : Option (List ℕ)) (rs : List (List ℕ)) (b : Bool) → list_any p rs ≡ b → list_any p (cons_option o rs) ≡ rest_passes p o || b
any_rest_at p None rs b h = h
any_rest_at p (Some r) rs b h = ap (λ x. p r || x) h

pub any_rest : (h : List ℕ → Option (List ℕ)) (p : List ℕ → Bool) (xs : List (List ℕ)) → list_any p (filter_map h xs) ≡ list_any (λ x. rest_passes p (h x)) xs
any_rest h p [] = refl
any_rest h p (x ∷ xs) = any_rest_at p (h x) (filter_map h xs) (list_any (λ x. rest_passes p (h x)) xs) (any_rest h p xs)

-- sorted names go by what is in the list
same_text : (x y : List ℕ) → slice_cmp nat_cmp x y ≡ Equal → x ≡ y
same_text = map.slice_cmp-IsAntisymmetric map.nat_cmp-IsAntisymmetric

abbrev found_alone : Bool → Option ℕ
found_alone b = cond b (Some 0) None

either_found : (a b : Bool) → cond a (Some 0) (found_alone b) ≡ found_alone (a || b)
either_found true b = refl
either_found false b = refl

zero_found : (es : List (List ℕ)) (q : List ℕ) → map.find (slice_cmp nat_cmp) q (each alone es) ≡ found_alone (list_any (eq_by_cmp (slice_cmp nat_cmp) q) es)
zero_found [] q = refl
zero_found (e ∷ es) q =
    let or_else : Option ℕ → Option ℕ = λ o. cond (eq_by_cmp (slice_cmp nat_cmp) q e) (Some 0) o in
    ap or_else (zero_found es q) ∙ either_found (eq_by_cmp (slice_cmp nat_cmp) q e) (list_any (eq_by_cmp (slice_cmp nat_cmp) q) es)

pub sorted_alike : (xs ys : List (List ℕ)) → Alike xs ys → sorted_names xs ≡ sorted_names ys
sorted_alike xs ys same = ap map.keys (map.same_map nat_list_cmp_total same_text _ _ (λ q.
    map.get-from_entries nat_list_cmp_total (each alone xs) q ∙ zero_found xs q ∙ ap found_alone (same (eq_by_cmp (slice_cmp nat_cmp) q)) ∙ sym (zero_found ys q)
    ∙ sym (map.get-from_entries nat_list_cmp_total (each alone ys) q)))

some_any_at : (o : Option (List ℕ)) (b c : Bool) (rs : List (List ℕ)) → b ≡ list_any (λ r. true) rs → is_some o || b ≡ list_any (λ r. true) (cons_option o rs)
some_any_at None b c rs h = h
some_any_at (Some r) b c rs h = refl

some_any : (h : List ℕ → Option (List ℕ)) (xs : List (List ℕ)) → list_any (λ x. is_some (h x)) xs ≡ list_any (λ r. true) (filter_map h xs)
some_any h [] = refl
some_any h (x ∷ xs) = some_any_at (h x) (list_any (λ x. is_some (h x)) xs) true (filter_map h xs) (some_any h xs)

abbrev pub deep : List ℕ → Bool
deep rest = not (has_no_slash rest)

abbrev pub told : Bool → List (List ℕ) → List (List ℕ) → Option Names
told b files directories = cond b (Some (record { files = files; directories = directories })) None

files_alike : (xs ys : List (List ℕ)) → Alike xs ys → sorted_names (filter has_no_slash xs) ≡ sorted_names (filter has_no_slash ys)
files_alike xs ys same = sorted_alike (filter has_no_slash xs) (filter has_no_slash ys) (λ p.
    any_filter has_no_slash p xs ∙ same (λ x. has_no_slash x && p x) ∙ sym (any_filter has_no_slash p ys))

any_firsts : (p : List ℕ → Bool) (xs : List (List ℕ)) → list_any p (each first_name (filter deep xs)) ≡ list_any (λ x. deep x && p (first_name x)) xs
any_firsts p xs = any_each first_name p (filter deep xs) ∙ any_filter deep (λ x. p (first_name x)) xs

directories_alike : (xs ys : List (List ℕ)) → Alike xs ys → sorted_names (each first_name (filter deep xs)) ≡ sorted_names (each first_name (filter deep ys))
directories_alike xs ys same = sorted_alike (each first_name (filter deep xs)) (each first_name (filter deep ys)) (λ p.
    any_firsts p xs ∙ same (λ x. deep x && p (first_name x)) ∙ sym (any_firsts p ys))

-- the names in a directory go by the rests of the paths
pub names_of_rests : (d e : List ℕ) (xs ys : List (List ℕ)) → Alike (filter_map (rest_below d) xs) (filter_map (rest_below e) ys) → names_in d xs ≡ names_in e ys
names_of_rests d e xs ys same =
    let rs = filter_map (rest_below d) xs in
    let qs = filter_map (rest_below e) ys in
    ap (λ b. told b (sorted_names (filter has_no_slash rs)) (sorted_names (each first_name (filter deep rs)))) (some_any (rest_below d) xs ∙ same (λ r. true) ∙ sym (some_any (rest_below e) ys))
    ∙ ap (λ f. told (list_any (λ y. is_some (rest_below e y)) ys) f (sorted_names (each first_name (filter deep rs)))) (files_alike rs qs same)
    ∙ ap (told (list_any (λ y. is_some (rest_below e y)) ys) (sorted_names (filter has_no_slash qs))) (directories_alike rs qs same)

pub names_alike : (directory : List ℕ) (xs ys : List (List ℕ)) → Alike xs ys → names_in directory xs ≡ names_in directory ys
names_alike directory xs ys same = names_of_rests directory directory xs ys (λ p.
    any_rest (rest_below directory) p xs ∙ same (λ x. rest_passes p (rest_below directory x)) ∙ sym (any_rest (rest_below directory) p ys))

pub listing_names : (directory : List ℕ) (es : Entries) → names_in directory (map.keys (map.from_entries {R = slice_cmp nat_cmp} es)) ≡ names_in directory (each (λ e. e.0) es)
listing_names directory es = names_alike directory (map.keys (map.from_entries es)) (each (λ e. e.0) es) (λ p. any_key p es)

-- the directory's own entries pass what the rests of the paths do
drop_behind : (front rest : List ℕ) → drop (length front + 1) (front ++ 47 ∷ rest) ≡ rest
drop_behind front rest = ap (drop (length front + 1)) (sym (append_assoc front (47 ∷ []) rest)) ∙ drop_at (front ++ 47 ∷ []) rest (length front + 1) (length-append front (47 ∷ []))

below_passes : (t : List ℕ → Bool) (d : ℕ) (ds rest : List ℕ) → rest_passes t (rest_below (d ∷ ds) ((d ∷ ds) ++ 47 ∷ rest)) ≡ t rest
below_passes t d ds rest =
    ap (λ b. rest_passes t (cond b (Some (drop (length (d ∷ ds) + 1) ((d ∷ ds) ++ 47 ∷ rest))) None)) (ancestor_of (d ∷ ds) rest) ∙ ap t (drop_behind (d ∷ ds) rest)

passes_ancestor : (t : List ℕ → Bool) (d : ℕ) (ds path : List ℕ) → rest_passes t (rest_below (d ∷ ds) path) ≡ true → is_ancestor (d ∷ ds) path ≡ true
passes_ancestor t d ds path h =
    elim (is_ancestor (d ∷ ds) path) as (λ b. rest_passes t (cond b (Some (drop (length (d ∷ ds) + 1) path)) None) ≡ true → b ≡ true) [
      | true ↦ λ g. refl
      | false ↦ λ g. absurd (false≢true g)
    ] h

pub moved : (t : List ℕ → Bool) (d : ℕ) (ds : List ℕ) (es gs : Entries) → ((r : List ℕ) → text_at gs r ≡ text_at es ((d ∷ ds) ++ 47 ∷ r))
    → list_any (λ x. rest_passes t (rest_below (d ∷ ds) x)) (each (λ e. e.0) es) ≡ list_any t (each (λ e. e.0) gs)
moved t d ds es gs same =
    sym (same_bool (list_any t (each (λ e. e.0) gs)) (list_any (λ x. rest_passes t (rest_below (d ∷ ds) x)) (each (λ e. e.0) es))
    (λ h. let one = any_to t gs h in
    any_from (λ x. rest_passes t (rest_below (d ∷ ds) x)) es ((d ∷ ds) ++ 47 ∷ one.0) (below_passes t d ds one.0 ∙ one.1) (ap is_some (sym (same one.0)) ∙ one.2))
    (λ h g. let one = any_to (λ x. rest_passes t (rest_below (d ∷ ds) x)) es g in
    let on = ancestor_from (d ∷ ds) one.0 (passes_ancestor t d ds one.0 one.1) in
    let passes : t on.0 ≡ true = sym (below_passes t d ds on.0) ∙ ap (λ q. rest_passes t (rest_below (d ∷ ds) q)) (sym on.1) ∙ one.1 in
    let there : is_some (text_at gs on.0) ≡ true = ap is_some (same on.0 ∙ ap (text_at es) (sym on.1)) ∙ one.2 in
    false≢true (sym h ∙ any_from t gs on.0 passes there)))

-- the names in a directory are those of the folder there
pub names_moved : (d : ℕ) (ds : List ℕ) (es gs : Entries) → ((r : List ℕ) → text_at gs r ≡ text_at es ((d ∷ ds) ++ 47 ∷ r)) → names_in (d ∷ ds) (each (λ e. e.0) es) ≡ names_in [] (each (λ e. e.0) gs)
names_moved d ds es gs same = names_of_rests (d ∷ ds) [] (each (λ e. e.0) es) (each (λ e. e.0) gs) (λ p.
    any_rest (rest_below (d ∷ ds)) p (each (λ e. e.0) es) ∙ moved p d ds es gs same ∙ sym (any_rest (rest_below []) p (each (λ e. e.0) gs)))

never : (a : Bool) → a && false ≡ false
never true = refl
never false = refl

or_false : (a : Bool) → a || false ≡ a
or_false true = refl
or_false false = refl

once : (b p : Bool) → p || (b && p) ≡ true && p
once true true = refl
once true false = refl
once false true = refl
once false false = refl

slash_at : (name rest : List ℕ) → has_no_slash name ≡ true → position_or_len (λ b. b == 47) (name ++ 47 ∷ rest) ≡ length name
slash_at [] rest h = refl
slash_at (b ∷ name) rest h =
    let both = and_parts (not (b == 47)) (has_no_slash name) h in
    ap (λ e. cond e (1 + position_or_len (λ b. b == 47) (name ++ 47 ∷ rest)) 0) both.0 ∙ ap (λ n. 1 + n) (slash_at name rest both.1) ∙ omega arith

-- one folder's names
slash_in : (name rest : List ℕ) → has_no_slash (name ++ 47 ∷ rest) ≡ false
slash_in [] rest = refl
slash_in (b ∷ name) rest = ap (λ x. not (b == 47) && x) (slash_in name rest) ∙ never (not (b == 47))

first_of : (name rest : List ℕ) → has_no_slash name ≡ true → first_name (name ++ 47 ∷ rest) ≡ name
first_of name rest plain = ap (λ n. take n (name ++ 47 ∷ rest)) (slash_at name rest plain) ∙ take_at name (47 ∷ rest) (length name) refl

own_files : (p : List ℕ → Bool) (fs : Entries) → list_all (λ e. has_no_slash e.0) fs ≡ true → list_any (λ x. has_no_slash x && p x) (each (λ e. e.0) fs) ≡ list_any p (each (λ e. e.0) fs)
own_files p [] h = refl
own_files p (f ∷ fs) h =
    let both = and_parts (has_no_slash f.0) (list_all (λ e. has_no_slash e.0) fs) h in
    ap (λ b. b && p f.0 || list_any (λ x. has_no_slash x && p x) (each (λ e. e.0) fs)) both.0 ∙ ap (λ b. p f.0 || b) (own_files p fs both.1)

own_deep : (p : List ℕ → Bool) (fs : Entries) → list_all (λ e. has_no_slash e.0) fs ≡ true → list_any (λ x. deep x && p (first_name x)) (each (λ e. e.0) fs) ≡ false
own_deep p [] h = refl
own_deep p (f ∷ fs) h =
    let both = and_parts (has_no_slash f.0) (list_all (λ e. has_no_slash e.0) fs) h in
    ap (λ b. not b && p (first_name f.0) || list_any (λ x. deep x && p (first_name x)) (each (λ e. e.0) fs)) both.0 ∙ own_deep p fs both.1

behind_files : (p : List ℕ → Bool) (k : List ℕ) (es : Entries) → list_any (λ x. has_no_slash x && p x) (each (λ e. e.0) (behind k es)) ≡ false
behind_files p k [] = refl
behind_files p k (e ∷ es) = ap (λ b. b && p (k ++ 47 ∷ e.0) || list_any (λ x. has_no_slash x && p x) (each (λ e. e.0) (behind k es))) (slash_in k e.0) ∙ behind_files p k es

behind_deep : (p : List ℕ → Bool) (k : List ℕ) (es : Entries) → has_no_slash k ≡ true → list_any (λ x. deep x && p (first_name x)) (each (λ e. e.0) (behind k es)) ≡ nat_lt 0 (length es) && p k
behind_deep p k [] h = refl
behind_deep p k (e ∷ es) h =
    ap (λ b. not b && p (first_name (k ++ 47 ∷ e.0)) || list_any (λ x. deep x && p (first_name x)) (each (λ e. e.0) (behind k es))) (slash_in k e.0)
    ∙ ap (λ n. p n || list_any (λ x. deep x && p (first_name x)) (each (λ e. e.0) (behind k es))) (first_of k e.0 h)
    ∙ ap (λ b. p k || b) (behind_deep p k es h) ∙ once (nat_lt 0 (length es)) (p k)
    ∙ ap (λ b. b && p k) (sym (lt-ltb 0 (length (e ∷ es)) (omega arith)))

folders_files : (p : List ℕ → Bool) (ds : List (List ℕ × Below)) → list_any (λ x. has_no_slash x && p x) (each (λ e. e.0) (flat_map (λ e. behind e.0 e.1.entries) ds)) ≡ false
folders_files p [] = refl
folders_files p (d ∷ ds) =
    ap (list_any (λ x. has_no_slash x && p x)) (map-append (λ e. e.0) (behind d.0 d.1.entries) (flat_map (λ e. behind e.0 e.1.entries) ds))
    ∙ list_any-append (λ x. has_no_slash x && p x) (each (λ e. e.0) (behind d.0 d.1.entries)) (each (λ e. e.0) (flat_map (λ e. behind e.0 e.1.entries) ds))
    ∙ ap (λ b. b || list_any (λ x. has_no_slash x && p x) (each (λ e. e.0) (flat_map (λ e. behind e.0 e.1.entries) ds))) (behind_files p d.0 d.1.entries) ∙ folders_files p ds

folders_deep : (p : List ℕ → Bool) (ds : List (List ℕ × Below)) → list_all is_inner ds ≡ true
    → list_any (λ x. deep x && p (first_name x)) (each (λ e. e.0) (flat_map (λ e. behind e.0 e.1.entries) ds)) ≡ list_any p (each (λ e. e.0) ds)
folders_deep p [] h = refl
folders_deep p (d ∷ ds) h =
    let both = and_parts (is_inner d) (list_all is_inner ds) h in
    let inner = and_parts (has_no_slash d.0) (nat_lt 0 (length d.1.entries)) both.0 in
    ap (list_any (λ x. deep x && p (first_name x))) (map-append (λ e. e.0) (behind d.0 d.1.entries) (flat_map (λ e. behind e.0 e.1.entries) ds))
    ∙ list_any-append (λ x. deep x && p (first_name x)) (each (λ e. e.0) (behind d.0 d.1.entries)) (each (λ e. e.0) (flat_map (λ e. behind e.0 e.1.entries) ds))
    ∙ ap (λ b. b || list_any (λ x. deep x && p (first_name x)) (each (λ e. e.0) (flat_map (λ e. behind e.0 e.1.entries) ds))) (behind_deep p d.0 d.1.entries inner.0 ∙ ap (λ b. b && p d.0) inner.1)
    ∙ ap (λ b. p d.0 || b) (folders_deep p ds both.1)

level_files : (p : List ℕ → Bool) (fs : Entries) (ds : List (List ℕ × Below)) → is_sound fs ds ≡ true → list_any (λ x. has_no_slash x && p x) (each (λ e. e.0) (level fs ds)) ≡ list_any p (each (λ e. e.0) fs)
level_files p fs ds sound =
    ap (list_any (λ x. has_no_slash x && p x)) (map-append (λ e. e.0) fs (flat_map (λ e. behind e.0 e.1.entries) ds))
    ∙ list_any-append (λ x. has_no_slash x && p x) (each (λ e. e.0) fs) (each (λ e. e.0) (flat_map (λ e. behind e.0 e.1.entries) ds))
    ∙ ap (λ b. list_any (λ x. has_no_slash x && p x) (each (λ e. e.0) fs) || b) (folders_files p ds) ∙ or_false (list_any (λ x. has_no_slash x && p x) (each (λ e. e.0) fs))
    ∙ own_files p fs (parts_of fs ds sound).0

level_deep : (p : List ℕ → Bool) (fs : Entries) (ds : List (List ℕ × Below)) → is_sound fs ds ≡ true → list_any (λ x. deep x && p (first_name x)) (each (λ e. e.0) (level fs ds)) ≡ list_any p (each (λ e. e.0) ds)
level_deep p fs ds sound =
    ap (list_any (λ x. deep x && p (first_name x))) (map-append (λ e. e.0) fs (flat_map (λ e. behind e.0 e.1.entries) ds))
    ∙ list_any-append (λ x. deep x && p (first_name x)) (each (λ e. e.0) fs) (each (λ e. e.0) (flat_map (λ e. behind e.0 e.1.entries) ds))
    ∙ ap (λ b. b || list_any (λ x. deep x && p (first_name x)) (each (λ e. e.0) (flat_map (λ e. behind e.0 e.1.entries) ds))) (own_deep p fs (parts_of fs ds sound).0) ∙ folders_deep p ds (parts_of fs ds sound).1

some_key : (es : Entries) → 0 < length es → list_any (λ path. is_some (rest_below [] path)) (each (λ e. e.0) es) ≡ true
some_key [] h = absurd (omega arith)
some_key (e ∷ es) h = refl

pub level_names : (fs : Entries) (ds : List (List ℕ × Below)) → is_sound fs ds ≡ true → 0 < length (level fs ds)
    → names_in [] (each (λ e. e.0) (level fs ds)) ≡ Some (record { files = sorted_names (each (λ e. e.0) fs); directories = sorted_names (each (λ e. e.0) ds) })
level_names fs ds sound some =
    let ks = each (λ e. e.0) (level fs ds) in
    let rs = filter_map (rest_below []) ks in
    ap (λ b. told b (sorted_names (filter has_no_slash rs)) (sorted_names (each first_name (filter deep rs)))) (some_key (level fs ds) some)
    ∙ ap (λ f. told true f (sorted_names (each first_name (filter deep rs)))) (sorted_alike (filter has_no_slash rs) (each (λ e. e.0) fs) (λ p.
    any_filter has_no_slash p rs ∙ any_rest (rest_below []) (λ x. has_no_slash x && p x) ks ∙ level_files p fs ds sound))
    ∙ ap (told true (sorted_names (each (λ e. e.0) fs))) (sorted_alike (each first_name (filter deep rs)) (each (λ e. e.0) ds) (λ p.
    any_firsts p rs ∙ any_rest (rest_below []) (λ x. deep x && p (first_name x)) ks ∙ level_deep p fs ds sound))

pub names_none : (directory : List ℕ) (es : Entries) → (length directory == 0) ≡ false → ((r : List ℕ) → text_at es (directory ++ 47 ∷ r) ≡ None) → names_in directory (each (λ e. e.0) es) ≡ None
names_none [] es h none = cc
names_none (d ∷ ds) es h none = names_moved d ds es [] (λ r. sym (none r))

pub names_there : (directory : List ℕ) (es gs : Entries) → (length directory == 0) ≡ false → ((r : List ℕ) → text_at gs r ≡ text_at es (directory ++ 47 ∷ r))
    → names_in directory (each (λ e. e.0) es) ≡ names_in [] (each (λ e. e.0) gs)
names_there [] es gs h same = cc
names_there (d ∷ ds) es gs h same = names_moved d ds es gs same
