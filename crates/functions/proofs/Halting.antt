-- Turns that stop at a member without a value: at a node of a file that is the first such module of its loads.
use Rattle.std.proofs.Common.{◌≡◌, ℕ, zero, suc, List, [], ◌∷◌, ◌++◌, map, take, drop, length, Bool, true, false, cond, not, ◌⊎◌, inl, inr, Option, Some, None, Result, Ok, Err, refl, sym, ap, subst, ◌∙◌, arith}
use Rattle.std.specs.Prelude.{nat_lt}
use Rattle.std.specs.FinMap as map_of
use Rattle.std.specs.List.{AllByRecursion, list_any}
use Rattle.std.proofs.lemmas.Bool.{false≢true, or_cases, lt-ltb}
use Rattle.std.proofs.lemmas.List.{append_assoc, append-nil}
use Rattle.engine_semantics.specs.Reply.{Reply, Ask, Done}
use Rattle.engine_semantics.specs.Value as value_of
use Rattle.engine_semantics.specs.Value.{Grounded, is_leaf, AllGrounded, IsUngrounded, First, Stops}
use Rattle.engine_semantics.proofs.Unique.{same_value}
use Rattle.labels.specs.Paths.{is_package_name}
use Rattle.labels.specs.Labels.{Target, label_text, label_file, boundaries}
use Rattle.labels.proofs.Segments.{reads_back}
use Rattle.syntax_tree.specs.Tree.{Fi}
use Rattle.syntax_tokens.specs.Reading as tokens
use Rattle.syntax_grammar.specs.Files.{parse_of}
use Rattle.values_modules.specs.Values.{ModuleValue}
use Rattle.filetree.specs.Files.{Files}
use Rattle.filetree.specs.Lawful.{HasPaths}
use Rattle.pattern.specs.Globs.{is_package}
use Rattle.evaluator_semantics.specs.Environment.{Env}
use Rattle.evaluator_semantics.specs.Files.{Outcome, a_module, a_package, a_need, a_fault, evaluate}
use Rattle.keys.specs.Keys.{key_eq}
use Rattle.keys.specs.declared.key.Key.{Key}
use Rattle.keys.specs.declared.key.Key.TheVariants as key
use Rattle.keys.specs.declared.value.BuildName.{BuildName}
use Rattle.keys.specs.declared.value.Fault.{Fault}
use Rattle.keys.specs.declared.value.Value.{Value}
use Rattle.keys.specs.declared.value.Value.TheVariants as value
use Rattle.functions.specs.declared.source.Source.{Source}
use Rattle.functions_directories.specs.Lookups.{build_of}
use Rattle.functions.specs.Next.{next}
use Rattle.keys.specs.Leaves.{read}
use Rattle.functions.specs.Once.{has_key, once_behind, once}
use Rattle.functions.specs.Sources.{fault_at, before, each_or_fault, load_key, all_modules, glob_keys, glob_group, with_paths, value_or_group, goes_on, rounds, env_of, after_modules, after_loads, after_parse, text_in, after_text, by_file}
use Rattle.functions.specs.Modules as modules
use Rattle.functions.specs.Packages as packages
use Rattle.functions.specs.Loads.{Node, of_module, of_package, File, loaded_by, with_loads, file_or_fault, of_text, loads_in, file_of, build_file, loads}
use Rattle.functions.proofs.WalkValues.{lookup_grounded, lookup_value, glob_grounded}
use Rattle.pattern.proofs.Questions.{NoSpace}
use Rattle.functions_directories.proofs.GlobTexts.{name_no_space}
use Rattle.functions.proofs.Runs as runs
use Rattle.functions.proofs.Runs.{AllOf, same_length, enough, rest_of, taken}
use Rattle.functions.proofs.GroupKeys.{load_of, one_key}
use Rattle.functions.proofs.NodeLoads.{IsValid, names_of, keyed, same_loads, loads_valid, found_file}
use Rattle.functions.proofs.Lookups.{Looked, all_looked}
use Rattle.functions.proofs.Boundaries.{look_up, lookups_are}

-- ---- turns that stop, given by what they ask

module _ {K V : Type 0} (next : K → List V → Reply K V) (read : K → Option V) where
  abbrev pub HasGround : K → Type 0
  HasGround k = (v : V) × Grounded next read k v

  abbrev pub FirstIn : List K → K → Type 0
  FirstIn group i = First next read (IsUngrounded next read) group i

  -- from these answers on, up to i, the first member of a group that has no value
  pub data Halts : (List V → Reply K V) → List V → K → Type 0 where
    here : {f : List V → Reply K V} {answers : List V} {i : K} (group : List K) → f answers ≡ Ask group → FirstIn group i → Halts f answers i
    later : {f : List V → Reply K V} {answers : List V} {i : K} (group : List K) (values : List V)
        → f answers ≡ Ask group → AllOf (Grounded next read) group values → Halts f (answers ++ values) i → Halts f answers i

  all_of : {keys : List K} {values : List V} → AllGrounded next read keys values → AllOf (Grounded next read) keys values
  all_of value_of.none = runs.none
  all_of (value_of.one g more) = runs.one g (all_of more)

  pub stops_halts : {k : K} {answers : List V} {groups : List (List K)} {i : K} → Stops next read (IsUngrounded next read) k answers groups i → Halts (next k) answers i
  stops_halts (value_of.here {group = group} e first) = here group e first
  stops_halts (value_of.later {group = group} {values = values} e are more) = later group values e (all_of are) (stops_halts more)

  -- the same, given from further answers on by another function
  pub halts_shifted : {f g : List V → Reply K V} {i : K} (before answers all : List V) → all ≡ before ++ answers
      → ((rest : List V) → f (before ++ rest) ≡ g rest) → Halts f all i → Halts g answers i
  halts_shifted {f = f} before answers all e same (here group h first) = here group (sym (same answers) ∙ ap (λ (xs : List V). f xs) (sym e) ∙ h) first
  halts_shifted {f = f} before answers all e same (later group values h are more) =
      later group values (sym (same answers) ∙ ap (λ (xs : List V). f xs) (sym e) ∙ h) are
      (halts_shifted before (answers ++ values) (all ++ values) (ap (λ xs. xs ++ values) e ∙ append_assoc before answers values) same more)

  -- what ends does not stop
  pub halts_ended : {f : List V → Reply K V} {answers : List V} {i : K} (w : V) → f answers ≡ Done w → Halts f answers i → ⊥
  halts_ended w e (here group h first) = absurd cc
  halts_ended w e (later group values h are more) = absurd cc

  -- a group whose members all have values
  pub no_first : (group : List K) (i : K) → AllByRecursion HasGround group → FirstIn group i → ⊥
  no_first group i all (value_of.at_head p) = p all.0.0 all.0.1
  no_first group i all (value_of.further {keys = keys} g more) = no_first keys i all.1 more

  -- it is the first member, or after it
  pub first_of : {k i : K} {group : List K} → FirstIn (k ∷ group) i → (IsUngrounded next read k × (i ≡ k)) ⊎ (HasGround k × FirstIn group i)
  first_of (value_of.at_head p) = inl (p, refl)
  first_of (value_of.further {v = v} g more) = inr ((v, g), more)

  pub record Passed (f : List V → Reply K V) (answers : List V) (group : List K) (i : K) : Type 0 where
    pub values : List V
    pub are : AllOf (Grounded next read) group values
    pub more : Halts f (answers ++ values) i

  pub halts_passed : {f : List V → Reply K V} {answers : List V} {i : K} (group : List K) → f answers ≡ Ask group → AllByRecursion HasGround group → Halts f answers i → Passed f answers group i
  halts_passed {i = i} group e all (here asked h first) = let same : asked ≡ group = cc in absurd (no_first group i all (subst (λ (g : List K). FirstIn g i) same first))
  halts_passed group e all (later asked values h are more) = let same : asked ≡ group = cc in record { values = values; are = subst (λ (g : List K). AllOf (Grounded next read) g values) same are; more = more }

  -- where all groups but one have values only, it is in that one
  pub halts_in : {f : List V → Reply K V} {answers : List V} {i : K} (group : List K)
      → ((answers : List V) (asked : List K) → f answers ≡ Ask asked → (asked ≡ group) ⊎ AllByRecursion HasGround asked) → Halts f answers i → FirstIn group i
  halts_in {answers = answers} {i = i} group only (here asked h first) = elim (only answers asked h) [
    | inl same ↦ subst (λ (g : List K). FirstIn g i) same first
    | inr all ↦ absurd (no_first asked i all first)
  ]
  halts_in group only (later asked values h are more) = halts_in group only more

module _ (files : Files) (good : HasPaths files) where
  abbrev pub Ground : Key → Type 0
  Ground k = HasGround next (read files) k

  -- ---- groups of members that all have values

  ground_at : (k : Key) (done : List Key) → AllByRecursion Ground done → has_key k done ≡ true → Ground k
  ground_at k [] all h = absurd (false≢true h)
  ground_at k (j ∷ done) all h = elim (or_cases (key_eq k j) (has_key k done) h) [
    | inl a ↦ subst Ground (sym (one_key k j a)) all.0
    | inr b ↦ ground_at k done all.1 b
  ]

  ground_more : (done : List Key) (k : Key) → AllByRecursion Ground done → Ground k → AllByRecursion Ground (done ++ k ∷ [])
  ground_more [] k all g = (g, tt)
  ground_more (j ∷ done) k all g = (all.0, ground_more done k all.1 g)

  ground_once : (done keys : List Key) → AllByRecursion Ground keys → AllByRecursion Ground (once_behind done keys)
  ground_once done [] all = tt
  ground_once done (k ∷ keys) all = go (has_key k done) (ground_once done keys all.1) (ground_once (done ++ k ∷ []) keys all.1)
    where
      go : (t : Bool) → AllByRecursion Ground (once_behind done keys) → AllByRecursion Ground (once_behind (done ++ k ∷ []) keys)
          → AllByRecursion Ground (cond t (once_behind done keys) (k ∷ once_behind (done ++ k ∷ []) keys))
      go true passed kept = passed
      go false passed kept = (all.0, kept)

  look_ups_ground : (names : List (List ℕ)) → AllByRecursion Ground (map look_up names)
  look_ups_ground [] = tt
  look_ups_ground (name ∷ names) = ((value.Lookup (build_of files name), lookup_grounded files name), look_ups_ground names)

  globs_ground : (name : List ℕ) → NoSpace name → (patterns : List (List ℕ)) → AllByRecursion Ground (glob_keys name patterns)
  globs_ground name plain [] = tt
  globs_ground name plain (p ∷ ps) = ((_, glob_grounded files good name p plain), globs_ground name plain ps)

  -- ---- an evaluation asks for globs only

  value_asks : (env : Env) → NoSpace env.package_name → (o : Outcome) (group : List Key) → value_or_group env o ≡ Ask group → AllByRecursion Ground group
  value_asks env plain (a_module m) group e = absurd cc
  value_asks env plain (a_package ts) group e = absurd cc
  value_asks env plain (a_fault code site) group e = absurd cc
  value_asks env plain (a_need patterns) group e =
      let same : glob_group env.package_name patterns ≡ group = cc in subst (AllByRecursion Ground) same (ground_once [] (glob_keys env.package_name patterns) (globs_ground env.package_name plain patterns))

  rounds_ask : (n : ℕ) (env : Env) → NoSpace env.package_name → (answers : List Value) (group : List Key) → rounds n env answers ≡ Ask group → AllByRecursion Ground group
  rounds_ask zero env plain answers group e = value_asks env plain (evaluate env) group e
  rounds_ask (suc n) env plain answers group e = go (evaluate env) (λ env plain answers. rounds_ask n env plain answers) e
    where
      go : (o : Outcome) → ((env : Env) → NoSpace env.package_name → (answers : List Value) (group : List Key) → rounds n env answers ≡ Ask group → AllByRecursion Ground group)
          → goes_on (λ e a. rounds n e a) env o answers ≡ Ask group → AllByRecursion Ground group
      go (a_module m) again e = absurd cc
      go (a_package ts) again e = absurd cc
      go (a_fault code site) again e = absurd cc
      go (a_need patterns) again e = waits (nat_lt (length answers) (length asked)) e
        where
          asked : List Key
          asked = glob_group env.package_name patterns

          waits : (t : Bool) → cond t (Ask asked) (rounds n (with_paths env patterns answers) (drop (length asked) answers)) ≡ Ask group → AllByRecursion Ground group
          waits true e = value_asks env plain (a_need patterns) group e
          waits false e = again (with_paths env patterns answers) plain (drop (length asked) answers) group e

  -- ---- the loads of a node

  -- the first of some loads whose key has no value
  pub data FirstLoad : List Target → Target → Type 0 where
    at_head : {t : Target} {ts : List Target} → IsUngrounded next (read files) (load_of t) → FirstLoad (t ∷ ts) t
    further : {t u : Target} {v : Value} {ts : List Target} → Grounded next (read files) (load_of u) v → FirstLoad ts t → FirstLoad (u ∷ ts) t

  pub record Load (ts : List Target) (i : Key) : Type 0 where
    pub target : Target
    pub key : i ≡ load_of target
    pub first : FirstLoad ts target

  load_behind : (t : Target) (ts : List Target) (i : Key) → Ground (load_of t) → Load ts i → Load (t ∷ ts) i
  load_behind t ts i g l = record { target = l.target; key = l.key; first = further g.1 l.first }

  -- the first key of a group of loads, each asked once, is that of the first load
  first_once : (done : List Key) (ts : List Target) (i : Key) → AllByRecursion Ground done → FirstIn next (read files) (once_behind done (map load_of ts)) i → Load ts i
  first_once done [] i all first = absurd (no_first next (read files) [] i tt first)
  first_once done (t ∷ ts) i all first =
      go (has_key (load_of t) done) refl (λ g found. load_behind t ts i g (first_once done ts i all found))
      (λ g found. load_behind t ts i g (first_once (done ++ load_of t ∷ []) ts i (ground_more done (load_of t) all g) found)) first
    where
      go : (b : Bool) → has_key (load_of t) done ≡ b → (Ground (load_of t) → FirstIn next (read files) (once_behind done (map load_of ts)) i → Load (t ∷ ts) i)
          → (Ground (load_of t) → FirstIn next (read files) (once_behind (done ++ load_of t ∷ []) (map load_of ts)) i → Load (t ∷ ts) i)
          → FirstIn next (read files) (cond b (once_behind done (map load_of ts)) (load_of t ∷ once_behind (done ++ load_of t ∷ []) (map load_of ts))) i → Load (t ∷ ts) i
      go true e passed kept first = passed (ground_at (load_of t) done all e) first
      go false e passed kept first = elim (first_of next (read files) first) [
        | inl a ↦ record { target = t; key = a.1; first = at_head a.0 }
        | inr b ↦ kept b.0 b.1
      ]

  module _ (s : Source) (plain : NoSpace s.package_name) where
    -- after the file all groups are globs but that of the loads
    loads_ask : (tree : Fi) (keys : List Key) (answers : List Value) (asked : List Key) → after_loads s tree (Ok keys) answers ≡ Ask asked → (asked ≡ once keys) ⊎ AllByRecursion Ground asked
    loads_ask tree keys answers asked e = go (nat_lt (length answers) (length (once keys))) e
      where
        evaluated : (r : Result (List ModuleValue) Fault) (rest : List Value) → after_modules s tree r rest ≡ Ask asked → AllByRecursion Ground asked
        evaluated (Ok ms) rest e = rounds_ask (length rest) (env_of s tree ms) plain rest asked e
        evaluated (Err f) rest e = absurd cc

        go : (b : Bool) → cond b (Ask (once keys)) (after_modules s tree (all_modules s.path (once keys) keys answers) (drop (length (once keys)) answers)) ≡ Ask asked → (asked ≡ once keys) ⊎ AllByRecursion Ground asked
        go true e = inl cc
        go false e = inr (evaluated (all_modules s.path (once keys) keys answers) (drop (length (once keys)) answers) e)

    -- a file whose node stops at a load
    pub record StopsIn (r : Result File Fault) (i : Key) : Type 0 where
      pub load : Load (loads_in r) i
      pub valid : AllByRecursion IsValid (loads_in r)

    parse_halts : (i : Key) (r : Result Fi tokens.Fault) → Halts next (read files) (after_parse s r) [] i → StopsIn (file_or_fault s.path s.package_name r) i
    parse_halts i (Err f) halts = absurd (halts_ended next (read files) (value.Fault (fault_at f.code s.path f.line)) refl halts)
    parse_halts i (Ok tree) halts = go (each_or_fault (loaded_by s.path s.package_name) tree.loads) refl
      where
        go : (r : Result (List Target) Fault) → each_or_fault (loaded_by s.path s.package_name) tree.loads ≡ r → StopsIn (with_loads s.path tree (each_or_fault (loaded_by s.path s.package_name) tree.loads)) i
        go (Err f) e =
            let same : each_or_fault (load_key s) tree.loads ≡ Err f = same_loads s tree.loads ∙ ap keyed e in
            absurd (halts_ended next (read files) (value.Fault f) refl (halts_shifted next (read files) [] [] [] refl (λ rest. ap (λ (r : Result (List Key) Fault). after_loads s tree r rest) same) halts))
        go (Ok ts) e =
            let same : each_or_fault (load_key s) tree.loads ≡ Ok (map load_of ts) = same_loads s tree.loads ∙ ap keyed e in
            let own : Halts next (read files) (after_loads s tree (Ok (map load_of ts))) [] i = halts_shifted next (read files) [] [] [] refl (λ rest. ap (λ (r : Result (List Key) Fault). after_loads s tree r rest) same) halts in
            subst (λ (r : Result (List Target) Fault). StopsIn (with_loads s.path tree r) i) (sym e) (record {
              load = first_once [] ts i tt (halts_in next (read files) (once (map load_of ts)) (loads_ask tree (map load_of ts)) own);
              valid = loads_valid s.path s.package_name tree.loads ts e;
            })

    text_halts : (i : Key) (o : Option (List ℕ)) → Halts next (read files) (after_text s o) [] i → StopsIn (of_text s.kind s.path s.package_name o) i
    text_halts i None halts = absurd (halts_ended next (read files) (value.Fault (fault_at 16 s.path 0)) refl halts)
    text_halts i (Some text) halts = parse_halts i (parse_of s.kind text) halts

    pub file_halts : (i : Key) → Halts next (read files) (by_file s) [] i → StopsIn (found_file files s) i
    file_halts i halts =
        let passed = halts_passed next (read files) (key.File s.path ∷ []) refl ((value.File (map_of.get files s.path), is_leaf refl), tt) halts in
        one_answer passed.values passed.are passed.more
      where
        one_answer : (values : List Value) → AllOf (Grounded next (read files)) (key.File s.path ∷ []) values → Halts next (read files) (by_file s) values i → StopsIn (found_file files s) i
        one_answer values (runs.one {v = file} g runs.none) halts =
            let is : file ≡ value.File (map_of.get files s.path) = same_value next (read files) g (is_leaf refl) refl in
            text_halts i (map_of.get files s.path) (halts_shifted next (read files) (file ∷ []) [] (file ∷ []) refl (λ rest. ap (λ (x : Value). after_text s (text_in x) rest) is) halts)

  -- ---- the nodes of modules and packages

  abbrev pub key_of : Node → Key
  key_of (of_module t) = key.Module (label_text t)
  key_of (of_package name) = key.Package name

  abbrev pub IsNode : Node → Type 0
  IsNode (of_module t) = IsValid t
  IsNode (of_package name) = is_package_name name ≡ true

  abbrev Stopped : Node → Key → Type 0
  Stopped n i = Load (loads files n) i × AllByRecursion IsValid (loads files n)

  stopped : (s : Source) (i : Key) (r : Result File Fault) → NoSpace s.package_name → r ≡ found_file files s → Halts next (read files) (by_file s) [] i → Load (loads_in r) i × AllByRecursion IsValid (loads_in r)
  stopped s i r plain same halts =
      let stops = file_halts s plain i halts in
      subst (λ (r : Result File Fault). Load (loads_in r) i × AllByRecursion IsValid (loads_in r)) (sym same) (stops.load, stops.valid)

  looked_halts : (t : Target) (i : Key) (looks : List Value) → NoSpace t.package_name → Looked files t looks → Halts next (read files) (modules.after_lookups t looks) [] i → Stopped (of_module t) i
  looked_halts t i looks plain are halts = inside (is_package files t.package_name) refl
    where
      a : Bool → Bool → List Value → Reply Key Value
      a inside crossed answers = cond (not inside) (Done (value.Fault (fault_at 1 t.package_name 0))) (cond crossed (Done (value.Fault (fault_at 17 (label_file t) 0))) (by_file (modules.source_of t) answers))

      file : Bool → Bool → Result File Fault
      file inside crossed = cond inside (cond crossed (Err (fault_at 17 (label_file t) 0)) (found_file files (modules.source_of t))) (Err (fault_at 1 t.package_name 0))

      at : (inside crossed : Bool) → is_package files t.package_name ≡ inside → list_any (is_package files) (boundaries t) ≡ crossed → Halts next (read files) (a inside crossed) [] i
      at inside crossed p q = halts_shifted next (read files) [] [] [] refl (λ rest. (λ i. a ((are.inside ∙ p) i) ((are.crossed ∙ q) i) rest)) halts

      whole : (inside crossed : Bool) → is_package files t.package_name ≡ inside → list_any (is_package files) (boundaries t) ≡ crossed → file_of files (of_module t) ≡ file inside crossed
      whole inside crossed p q = λ i. file (p i) (q i)

      crossing : (crossed : Bool) → list_any (is_package files) (boundaries t) ≡ crossed → is_package files t.package_name ≡ true → Stopped (of_module t) i
      crossing true q p = absurd (halts_ended next (read files) (value.Fault (fault_at 17 (label_file t) 0)) refl (at true true p q))
      crossing false q p = stopped (modules.source_of t) i (file_of files (of_module t)) plain (whole true false p q) (halts_shifted next (read files) [] [] [] refl (λ rest. refl) (at true false p q))

      inside : (b : Bool) → is_package files t.package_name ≡ b → Stopped (of_module t) i
      inside true p = crossing (list_any (is_package files) (boundaries t)) refl p
      inside false p = absurd (halts_ended next (read files) (value.Fault (fault_at 1 t.package_name 0)) refl (at false (list_any (is_package files) (boundaries t)) p refl))

  module_halts : (t : Target) (i : Key) → IsValid t → Halts next (read files) (next (key.Module (label_text t))) [] i → Stopped (of_module t) i
  module_halts t i valid halts =
      let group = modules.lookups t in
      let own : Halts next (read files) (modules.by_lookups t) [] i = halts_shifted next (read files) [] [] [] refl (λ rest. ap (λ (o : Option Target). modules.of_label (label_text t) o rest) (reads_back t [] valid.target)) halts in
      let first : modules.by_lookups t [] ≡ Ask group = ap (λ b. cond b (Ask group) (modules.after_lookups t (take (length group) []) (drop (length group) []))) (lt-ltb 0 (length group) (omega arith)) in
      let passed = halts_passed next (read files) group first (ground_once [] (map look_up (t.package_name ∷ boundaries t)) (look_ups_ground (t.package_name ∷ boundaries t))) own in
      let size = same_length passed.are in
      let behind : (rest : List Value) → modules.by_lookups t (passed.values ++ rest) ≡ modules.after_lookups t passed.values rest =
      λ rest.
      ap (λ b. cond b (Ask group) (modules.after_lookups t (take (length group) (passed.values ++ rest)) (drop (length group) (passed.values ++ rest)))) (enough group passed.values rest size)
      ∙ (λ i. modules.after_lookups t (taken group passed.values rest size i) (rest_of group passed.values rest size i)) in
      looked_halts t i passed.values (name_no_space t.package_name (names_of t valid.target).0)
      (all_looked files good t passed.values (subst (λ (ks : List Key). AllOf (Grounded next (read files)) ks passed.values) (lookups_are t (names_of t valid.target).1) passed.are))
      (halts_shifted next (read files) passed.values [] passed.values (sym (append-nil passed.values)) behind passed.more)

  package_halts : (name : List ℕ) (i : Key) → is_package_name name ≡ true → Halts next (read files) (next (key.Package name)) [] i → Stopped (of_package name) i
  package_halts name i is_name halts =
      let passed = halts_passed next (read files) (look_up name ∷ []) refl ((value.Lookup (build_of files name), lookup_grounded files name), tt) halts in
      one_answer passed.values passed.are passed.more
    where
      built : (o : Option BuildName) → Halts next (read files) (packages.after_lookup name o) [] i → Load (loads_in (build_file files name o)) i × AllByRecursion IsValid (loads_in (build_file files name o))
      built None halts = absurd (halts_ended next (read files) (value.Fault (fault_at 1 name 0)) refl halts)
      built (Some build) halts = stopped (packages.source_of name build) i (build_file files name (Some build)) (name_no_space name is_name) refl halts

      one_answer : (values : List Value) → AllOf (Grounded next (read files)) (look_up name ∷ []) values → Halts next (read files) (next (key.Package name)) values i → Stopped (of_package name) i
      one_answer values (runs.one {v = look} g runs.none) halts =
          built (build_of files name) (halts_shifted next (read files) (look ∷ []) [] (look ∷ []) refl (λ rest. ap (λ (x : Value). packages.after_lookup name (packages.build_in x) rest) (lookup_value files name look g)) halts)

  -- a node stops at the first of its loads whose module has no value
  pub node_stops : (n : Node) (groups : List (List Key)) (i : Key) → IsNode n → Stops next (read files) (IsUngrounded next (read files)) (key_of n) [] groups i
      → Load (loads files n) i × AllByRecursion IsValid (loads files n)
  node_stops (of_module t) groups i is stops = module_halts t i is (stops_halts next (read files) stops)
  node_stops (of_package name) groups i is stops = package_halts name i is (stops_halts next (read files) stops)
