-- The directories between a package and a file, which are ever longer, so that each is looked up.
use Rattle.std.proofs.Common.{◌≡◌, ◌≤◌, ◌<◌, ◌+◌, ℕ, suc, List, [], ◌∷◌, ◌++◌, map, length, Bool, true, false, cond, ◌==◌, ◌||◌, refl, sym, ap, subst, ◌∙◌, arith, length-append}
use Rattle.std.specs.Prelude.{nat_le}
use Rattle.std.specs.List.{AllByRecursion, list_all}
use Rattle.std.proofs.lemmas.Bool.{false≢true, eqb-true, and_parts}
use Rattle.labels.specs.Paths.{is_path, is_segment, segments}
use Rattle.labels.specs.Labels.{Target, ancestors, boundaries}
use Rattle.labels.proofs.Segments.{segments_joined}
use Rattle.keys.specs.Keys.{key_eq, name_of}
use Rattle.keys.specs.declared.key.Key.{Key}
use Rattle.keys.specs.declared.key.Key.TheVariants as key
use Rattle.functions.specs.Once.{has_key, once_behind}
use Rattle.functions.specs.Modules as modules
use Rattle.functions.proofs.GroupKeys.{one_key}

abbrev RiseFrom : ℕ → List (List ℕ) → Type 0
RiseFrom n [] = Unit {0}
RiseFrom n (x ∷ xs) = (n ≤ length x) × RiseFrom (suc (length x)) xs

later_rise : (n m : ℕ) (xs : List (List ℕ)) → n ≤ m → RiseFrom m xs → RiseFrom n xs
later_rise n m [] le h = tt
later_rise n m (x ∷ xs) le h = (omega (arith, le, h.0), h.1)

each_rise : (b n : ℕ) (xs : List (List ℕ)) → RiseFrom n xs → RiseFrom (suc n) (map (λ d. b ∷ d) xs)
each_rise b n [] h = tt
each_rise b n (x ∷ xs) h = (omega (arith, h.0), each_rise b (suc (length x)) xs h.1)

join_rise : (p : List ℕ) (n : ℕ) (xs : List (List ℕ)) → RiseFrom n xs → RiseFrom (suc (length p)) (map (λ d. p ++ 47 ∷ d) xs)
join_rise p n xs h = later_rise (suc (length p)) (suc (length p) + n) (map (λ d. p ++ 47 ∷ d) xs) (omega arith) (go n xs h)
  where
    go : (n : ℕ) (xs : List (List ℕ)) → RiseFrom n xs → RiseFrom (suc (length p) + n) (map (λ d. p ++ 47 ∷ d) xs)
    go n [] h = tt
    go n (x ∷ xs) h =
        (omega (arith, h.0, length-append p (47 ∷ x)), later_rise (suc (length (p ++ 47 ∷ x))) (suc (length p) + suc (length x)) (map (λ d. p ++ 47 ∷ d) xs) (omega (arith, length-append p (47 ∷ x))) (go (suc (length x)) xs h.1))

ancestors_rise : (path : List ℕ) → RiseFrom 0 (ancestors path)
ancestors_rise [] = tt
ancestors_rise (b ∷ path) = go (b == 47) (ancestors_rise path)
  where
    go : (t : Bool) → RiseFrom 0 (ancestors path) → RiseFrom 0 (cond t ([] ∷ map (λ d. b ∷ d) (ancestors path)) (map (λ d. b ∷ d) (ancestors path)))
    go true h = (omega arith, each_rise b 0 (ancestors path) h)
    go false h = later_rise 0 1 (map (λ d. b ∷ d) (ancestors path)) (omega arith) (each_rise b 0 (ancestors path) h)

-- those of a path are not empty
path_rise : (path : List ℕ) → is_path path ≡ true → RiseFrom 1 (ancestors path)
path_rise [] h = tt
path_rise (b ∷ path) h = go (b == 47) refl
  where
    starts : (b : ℕ) → b ≡ 47 → is_path (b ∷ path) ≡ true → ⊥
    starts b e good =
        let each = and_parts (nat_le (length (47 ∷ path)) 255) (list_all is_segment (segments (47 ∷ path))) (subst (λ (c : ℕ). is_path (c ∷ path) ≡ true) e good) in
        false≢true (ap (λ (ss : List (List ℕ)). list_all is_segment ss) (sym (segments_joined [] path)) ∙ each.1)

    go : (t : Bool) → b == 47 ≡ t → RiseFrom 1 (cond t ([] ∷ map (λ d. b ∷ d) (ancestors path)) (map (λ d. b ∷ d) (ancestors path)))
    go true e = absurd (starts b (eqb-true b 47 e) h)
    go false e = each_rise b 0 (ancestors path) (ancestors_rise path)

-- the boundaries of a label are all longer than its package's name, each longer than the one before
boundaries_rise : (t : Target) → is_path t.name ≡ true → RiseFrom (suc (length t.package_name)) (boundaries t)
boundaries_rise t h = go (length t.package_name == 0) refl
  where
    at : (p : List ℕ) (b : Bool) → length p == 0 ≡ b → RiseFrom (suc (length p)) (map (λ d. cond b d (p ++ 47 ∷ d)) (ancestors t.name))
    at p true e = subst (λ (n : ℕ). RiseFrom (suc n) (map (λ d. d) (ancestors t.name))) (sym (eqb-true (length p) 0 e)) (subst (λ (ds : List (List ℕ)). RiseFrom 1 ds) (sym (itself (ancestors t.name))) (path_rise t.name h))
      where
        itself : (ds : List (List ℕ)) → map (λ d. d) ds ≡ ds
        itself [] = refl
        itself (d ∷ ds) = ap (λ (es : List (List ℕ)). d ∷ es) (itself ds)
    at p false e = join_rise p 0 (ancestors t.name) (ancestors_rise t.name)

    go : (b : Bool) → length t.package_name == 0 ≡ b → RiseFrom (suc (length t.package_name)) (boundaries t)
    go b e = subst (λ (c : Bool). RiseFrom (suc (length t.package_name)) (map (λ d. cond c d (t.package_name ++ 47 ∷ d)) (ancestors t.name))) (sym e) (at t.package_name b e)

abbrev pub look_up : List ℕ → Key
look_up name = key.Lookup name

absent : (x : List ℕ) (done : List Key) → AllByRecursion (λ j. length (name_of j) < length x) done → has_key (look_up x) done ≡ false
absent x [] h = refl
absent x (j ∷ done) h = go (key_eq (look_up x) j) refl (absent x done h.1)
  where
    go : (t : Bool) → key_eq (look_up x) j ≡ t → has_key (look_up x) done ≡ false → has_key (look_up x) (j ∷ done) ≡ false
    go true e rest = absurd (omega (arith, h.0, ap (λ (k : Key). length (name_of k)) (one_key (look_up x) j e)))
    go false e rest = ap (λ t. t || has_key (look_up x) done) e ∙ rest

longer_names : (n m : ℕ) (done : List Key) → n ≤ m → AllByRecursion (λ j. length (name_of j) < n) done → AllByRecursion (λ j. length (name_of j) < m) done
longer_names n m [] le h = tt
longer_names n m (j ∷ done) le h = (omega (arith, le, h.0), longer_names n m done le h.1)

one_longer : (x : List ℕ) (done : List Key) → AllByRecursion (λ j. length (name_of j) < suc (length x)) done → AllByRecursion (λ j. length (name_of j) < suc (length x)) (done ++ look_up x ∷ [])
one_longer x [] h = (omega arith, tt)
one_longer x (j ∷ done) h = (h.0, one_longer x done h.1)

-- look-ups of such names are all asked for
all_once : (n : ℕ) (xs : List (List ℕ)) (done : List Key) → RiseFrom n xs → AllByRecursion (λ j. length (name_of j) < n) done → once_behind done (map look_up xs) ≡ map look_up xs
all_once n [] done h below = refl
all_once n (x ∷ xs) done h below =
    let none : has_key (look_up x) done ≡ false = absent x done (longer_names n (length x) done h.0 below) in
    ap (λ t. cond t (once_behind done (map look_up xs)) (look_up x ∷ once_behind (done ++ look_up x ∷ []) (map look_up xs))) none
    ∙ ap (λ (ks : List Key). look_up x ∷ ks) (all_once (suc (length x)) xs (done ++ look_up x ∷ []) h.1 (one_longer x done (longer_names n (suc (length x)) done (omega (arith, h.0)) below)))

-- all of them are looked up, in their order
pub lookups_are : (t : Target) → is_path t.name ≡ true → modules.lookups t ≡ look_up t.package_name ∷ map look_up (boundaries t)
lookups_are t h =
    ap (λ (ks : List Key). look_up t.package_name ∷ ks) (all_once (suc (length t.package_name)) (boundaries t) (look_up t.package_name ∷ []) (boundaries_rise t h) (omega arith, tt))
