-- What a file's node has read when its evaluation begins.
use Rattle.std.proofs.Common.{◌≡◌, ℕ, List, [], ◌∷◌, ◌++◌, map, drop, length, Bool, true, false, cond, ◌&&◌, Option, Some, None, Result, Ok, Err, refl, sym, ap, subst, ◌∙◌, arith}
use Rattle.std.specs.FinMap as map_of
use Rattle.std.specs.List.{AllByRecursion}
use Rattle.std.proofs.lemmas.Bool.{lt-ltb, le-ltb, and_parts}
use Rattle.std.specs.Prelude.{nat_le}
use Rattle.labels.specs.Paths.{is_path, is_package_name}
use Rattle.engine_semantics.specs.Reply.{Reply, Ask}
use Rattle.engine_semantics.specs.Value.{Grounded, is_leaf}
use Rattle.engine_semantics.proofs.Unique.{same_value}
use Rattle.labels.specs.Labels.{Target, label_of, would_name, label_text, label_file, is_target, is_module}
use Rattle.labels.proofs.Segments.{reads_back}
use Rattle.syntax_tree.specs.Tree.{Fi, Ld}
use Rattle.syntax_tokens.specs.Reading as tokens
use Rattle.syntax_grammar.specs.Files.{parse_of}
use Rattle.values_modules.specs.Values.{ModuleValue}
use Rattle.filetree.specs.Files.{Files}
use Rattle.keys.specs.declared.key.Key.{Key}
use Rattle.keys.specs.declared.key.Key.TheVariants as key
use Rattle.keys.specs.declared.value.Fault.{Fault}
use Rattle.keys.specs.declared.value.Value.{Value}
use Rattle.keys.specs.declared.value.Value.TheVariants as value
use Rattle.functions.specs.declared.source.Source.{Source}
use Rattle.functions.specs.Next.{next}
use Rattle.keys.specs.Leaves.{read}
use Rattle.functions.specs.Once.{has_key, once, answer_at}
use Rattle.functions.specs.Sources.{fault_at, before, each_or_fault, module_key, load_key, module_in, all_modules, env_of, rounds, after_modules, after_loads, after_parse, text_in, after_text, by_file}
use Rattle.functions.specs.Loads.{File, if_module, loaded_by, with_loads, file_or_fault, of_text}
use Rattle.functions.specs.FilePackages.{Module, Package, IsModule, IsPackage, AreModules, none, one, all_loaded}
use Rattle.functions.proofs.Runs as runs
use Rattle.functions.proofs.Runs.{AllOf, Runs, shifted, run_ended, run_asked, same_length, enough, rest_of}
use Rattle.std.proofs.lemmas.List.{append_assoc, append-nil}
use Rattle.keys.specs.Keys.{key_eq}
use Rattle.functions.proofs.GroupKeys.{load_of, module_value, own_key, asked_once, answered, same_answer, either_left, either_right}

-- ---- the modules of load statements

-- a label that can be a module's
pub record IsValid (t : Target) : Type 0 where
  pub target : is_target t ≡ true
  pub ending : is_module t ≡ true

-- the names in a label
pub names_of : (t : Target) → is_target t ≡ true → (is_package_name t.package_name ≡ true) × (is_path t.name ≡ true)
names_of t h =
    and_parts (is_package_name t.package_name) (is_path t.name) (and_parts (is_package_name t.package_name && is_path t.name) (nat_le (length (label_file t)) 255) h).0

-- two such labels with the same text are one
pub one_label : (t u : Target) → IsValid t → IsValid u → label_text t ≡ label_text u → t ≡ u
one_label t u is_t is_u texts =
    let same : Some t ≡ Some u = sym (reads_back t [] is_t.target) ∙ ap (λ (x : List ℕ). label_of x []) texts ∙ reads_back u [] is_u.target in cc

abbrev pub keyed : Result (List Target) Fault → Result (List Key) Fault
keyed (Ok ts) = Ok (map load_of ts)
keyed (Err f) = Err f

before_keyed : (t : Target) (r : Result (List Target) Fault) → before (Ok (load_of t)) (keyed r) ≡ keyed (before (Ok t) r)
before_keyed t (Ok ts) = refl
before_keyed t (Err f) = refl

-- their keys, or the fault
pub same_loads : (s : Source) (ls : List Ld) → each_or_fault (load_key s) ls ≡ keyed (each_or_fault (loaded_by s.path s.package_name) ls)
same_loads s [] = refl
same_loads s (l ∷ ls) = go (label_of l.label s.package_name) (each_or_fault (load_key s) ls) (each_or_fault (loaded_by s.path s.package_name) ls) (same_loads s ls)
  where
    of_target : (t : Target) (b : Bool) (keys : Result (List Key) Fault) (targets : Result (List Target) Fault) → keys ≡ keyed targets
        → before (cond b (Ok (load_of t)) (Err (fault_at 15 s.path l.line))) keys ≡ keyed (before (cond b (Ok t) (Err (fault_at 15 s.path l.line))) targets)
    of_target t true keys targets same = ap (λ r. before (Ok (load_of t)) r) same ∙ before_keyed t targets
    of_target t false keys targets same = refl

    go : (o : Option Target) (keys : Result (List Key) Fault) (targets : Result (List Target) Fault) → keys ≡ keyed targets
        → before (module_key o s.path l.line) keys ≡ keyed (before (if_module o s.path l.line) targets)
    go None keys targets same = refl
    go (Some t) keys targets same = of_target t (is_module t) keys targets same

label_names : (text present : List ℕ) (u : Target) → label_of text present ≡ Some u → is_target u ≡ true
label_names text present u e = go (is_target (would_name text present)) refl
  where
    go : (b : Bool) → is_target (would_name text present) ≡ b → is_target u ≡ true
    go true h = let same : would_name text present ≡ u = picked (ap (λ b. cond b (Some (would_name text present)) None) (sym h) ∙ e) in subst (λ t. is_target t ≡ true) same h
      where
        picked : {t u : Target} → Some t ≡ Some u → t ≡ u
        picked q = cc
    go false h = let wrong : None ≡ Some u = ap (λ b. cond b (Some (would_name text present)) None) (sym h) ∙ e in absurd cc

-- what a load statement loads can be a module
load_valid : (path package_name : List ℕ) (l : Ld) (t : Target) → loaded_by path package_name l ≡ Ok t → IsValid t
load_valid path package_name l t e = go (label_of l.label package_name) refl e
  where
    go : (o : Option Target) → label_of l.label package_name ≡ o → if_module o path l.line ≡ Ok t → IsValid t
    go None h e = absurd cc
    go (Some u) h e = of_module (is_module u) refl e
      where
        of_module : (b : Bool) → is_module u ≡ b → cond b (Ok u) (Err (fault_at 15 path l.line)) ≡ Ok t → IsValid t
        of_module true m e = let same : u ≡ t = cc in subst IsValid same (record { target = label_names l.label package_name u h; ending = m })
        of_module false m e = absurd cc

parts_ok : {B : Type 0} (r : Result B Fault) (rest : Result (List B) Fault) (ys : List B) → before r rest ≡ Ok ys → (y : B) × (more : List B) × (r ≡ Ok y) × (rest ≡ Ok more) × (ys ≡ y ∷ more)
parts_ok (Ok y) (Ok more) ys e = (y, more, refl, refl, cc)
parts_ok (Ok y) (Err f) ys e = absurd cc
parts_ok (Err f) rest ys e = absurd cc

pub loads_valid : (path package_name : List ℕ) (ls : List Ld) (ts : List Target) → each_or_fault (loaded_by path package_name) ls ≡ Ok ts → AllByRecursion IsValid ts
loads_valid path package_name [] ts e = let same : [] ≡ ts = cc in subst (AllByRecursion IsValid) same tt
loads_valid path package_name (l ∷ ls) ts e =
    let p = parts_ok (loaded_by path package_name l) (each_or_fault (loaded_by path package_name) ls) ts e in
    subst (AllByRecursion IsValid) (sym p.4) (load_valid path package_name l p.0 p.2, loads_valid path package_name ls p.1 p.3)

-- ---- what holds of the nodes at the files

abbrev pub package_value : Package → Value
package_value (Ok ts) = value.Package ts
package_value (Err f) = value.Fault f

module _ (files : Files) where
  -- the value of a module is that of its files, and so is that of a package
  abbrev pub IsOfFiles : Key → Value → Type 0
  IsOfFiles (key.File path) v = Unit {0}
  IsOfFiles (key.Listing name) v = Unit {0}
  IsOfFiles (key.Lookup name) v = Unit {0}
  IsOfFiles (key.Glob below pattern directories) v = Unit {0}
  IsOfFiles (key.Module text) v = (t : Target) → text ≡ label_text t → IsValid t → (m : Module) × IsModule files t m × (v ≡ module_value m)
  IsOfFiles (key.Package name) v = is_package_name name ≡ true → (p : Package) × IsPackage files name p × (v ≡ package_value p)
  IsOfFiles (key.Under directory) v = Unit {0}

  abbrev pub IsHeld : Key → Value → Type 0
  IsHeld k v = Grounded next (read files) k v × IsOfFiles k v

  -- the values of loads are their modules
  pub record LoadsHold (path : List ℕ) (group : List Key) (values : List Value) (ts : List Target) : Type 0 where
    pub modules : List Module
    pub are : AreModules files ts modules
    pub same : each_or_fault (λ k. module_in path (answer_at k group values)) (map load_of ts) ≡ all_loaded modules

  given : (path : List ℕ) (m : Module) → module_in path (Some (module_value m)) ≡ m
  given path (Ok m) = refl
  given path (Err f) = refl

  pub loads_hold : (path : List ℕ) (group : List Key) (values : List Value) (ts : List Target) → AllOf IsHeld group values → AllByRecursion IsValid ts
      → AllByRecursion (λ t. has_key (load_of t) group ≡ true) ts → LoadsHold path group values ts
  loads_hold path group values [] all valid asked = record { modules = []; are = none; same = refl }
  loads_hold path group values (t ∷ ts) all valid asked =
      let rest = loads_hold path group values ts all valid.1 asked.1 in
      let answer = answered (load_of t) asked.0 all in
      let held = answer.holds.1 t refl valid.0 in
      let first : module_in path (answer_at (load_of t) group values) ≡ held.0 = ap (λ (o : Option Value). module_in path o) (answer.found ∙ ap (λ (w : Value). Some w) held.2) ∙ given path held.0 in
      record {
        modules = held.0 ∷ rest.modules;
        are = one held.1 rest.are;
        same = ap (λ (r : Result ModuleValue Fault). before r (each_or_fault (λ k. module_in path (answer_at k group values)) (map load_of ts))) first ∙ ap (λ (r : Result (List ModuleValue) Fault). before held.0 r) rest.same;
      }

  pub all_asked : (ts us : List Target) → AllByRecursion (λ t. has_key (load_of t) (map load_of us) ≡ true) ts → AllByRecursion (λ t. has_key (load_of t) (once (map load_of us)) ≡ true) ts
  all_asked [] us h = tt
  all_asked (t ∷ ts) us h = (asked_once (load_of t) (map load_of us) h.0, all_asked ts us h.1)

  among : (ts before : List Target) → AllByRecursion (λ t. has_key (load_of t) (map load_of (before ++ ts)) ≡ true) ts
  among [] before = tt
  among (t ∷ ts) before = (at t before ts, subst (λ (us : List Target). AllByRecursion (λ u. has_key (load_of u) (map load_of us) ≡ true) ts) (append_assoc before (t ∷ []) ts) (among ts (before ++ t ∷ [])))
    where
      at : (t : Target) (before ts : List Target) → has_key (load_of t) (map load_of (before ++ t ∷ ts)) ≡ true
      at t [] ts = either_left (key_eq (load_of t) (load_of t)) (has_key (load_of t) (map load_of ts)) (own_key (load_of t))
      at t (u ∷ before) ts = either_right (key_eq (load_of t) (load_of u)) (has_key (load_of t) (map load_of (before ++ t ∷ ts))) (at t before ts)

  -- the file that a node evaluates, or its first fault
  abbrev pub found_file : Source → Result File Fault
  found_file s = of_text s.kind s.path s.package_name (map_of.get files s.path)

  abbrev pub evaluation : Source → Fi → List ModuleValue → List Value → Reply Key Value
  evaluation s tree ms answers = rounds (length answers) (env_of s tree ms) answers

  -- how far a node of a file comes: to the fault of its file, to that of a load, or to its evaluation
  pub data Comes (s : Source) (v : Value) : Type 0 where
    to_fault : (fault : Fault) → found_file s ≡ Err fault → v ≡ value.Fault fault → Comes s v
    to_load : (f : File) (modules : List Module) (fault : Fault) → found_file s ≡ Ok f → AreModules files f.loads modules → all_loaded modules ≡ Err fault → v ≡ value.Fault fault → Comes s v
    to_run : (f : File) (modules : List Module) (ms : List ModuleValue) (n : ℕ) → found_file s ≡ Ok f → f.path ≡ s.path → AreModules files f.loads modules → all_loaded modules ≡ Ok ms
        → Runs IsHeld (evaluation s f.tree ms) [] n v → Comes s v

  module _ (s : Source) (v : Value) where
    -- after the loads
    evaluated : (f : File) (modules : List Module) (n : ℕ) → found_file s ≡ Ok f → f.path ≡ s.path → AreModules files f.loads modules → Runs IsHeld (after_modules s f.tree (all_loaded modules)) [] n v → Comes s v
    evaluated f modules n found at are run = go (all_loaded modules) refl run
      where
        go : (r : Result (List ModuleValue) Fault) → all_loaded modules ≡ r → Runs IsHeld (after_modules s f.tree r) [] n v → Comes s v
        go (Err fault) e run = to_load f modules fault found are e (run_ended (value.Fault fault) refl run)
        go (Ok ms) e run = to_run f modules ms n found at are e run

    loaded : (f : File) (n : ℕ) → found_file s ≡ Ok f → f.path ≡ s.path → AllByRecursion IsValid f.loads → (ts : List Target) → f.loads ≡ ts → Runs IsHeld (after_loads s f.tree (Ok (map load_of ts))) [] n v → Comes s v
    loaded f n found at valid [] same run =
        evaluated f [] n found at (subst (λ (ts : List Target). AreModules files ts []) (sym same) none)
        (shifted [] [] [] refl (λ rest. ap (λ b. cond b (Ask []) (after_modules s f.tree (Ok []) rest)) (le-ltb (length rest) 0 (omega arith))) run)
    loaded f n found at valid (t ∷ ts) same run =
        let keys = map load_of (t ∷ ts) in
        let group = once keys in
        let first : after_loads s f.tree (Ok keys) [] ≡ Ask group = ap (λ b. cond b (Ask group) (after_modules s f.tree (all_modules s.path group keys []) (drop (length group) []))) (lt-ltb 0 (length group) (omega arith)) in
        let asked = run_asked group first run in
        let size = same_length asked.are in
        let hold = loads_hold s.path group asked.values (t ∷ ts) asked.are (subst (AllByRecursion IsValid) same valid) (all_asked (t ∷ ts) (t ∷ ts) (among (t ∷ ts) [])) in
        let next : (rest : List Value) → after_loads s f.tree (Ok keys) (asked.values ++ rest) ≡ after_modules s f.tree (all_loaded hold.modules) rest =
        λ rest.
        ap (λ b. cond b (Ask group) (after_modules s f.tree (all_modules s.path group keys (asked.values ++ rest)) (drop (length group) (asked.values ++ rest)))) (enough group asked.values rest size)
        ∙ ap (λ (r : Result (List ModuleValue) Fault). after_modules s f.tree r (drop (length group) (asked.values ++ rest))) (all_same keys group asked.values rest size ∙ hold.same)
        ∙ ap (λ (xs : List Value). after_modules s f.tree (all_loaded hold.modules) xs) (rest_of group asked.values rest size) in
        evaluated f hold.modules asked.fewer found at (subst (λ (us : List Target). AreModules files us hold.modules) (sym same) hold.are) (shifted asked.values [] asked.values (sym (append-nil asked.values)) next asked.run)
      where
        all_same : (keys group : List Key) (values rest : List Value) → length values ≡ length group → all_modules s.path group keys (values ++ rest) ≡ all_modules s.path group keys values
        all_same [] group values rest e = refl
        all_same (k ∷ keys) group values rest e =
            ap (λ (o : Option Value). before (module_in s.path o) (all_modules s.path group keys (values ++ rest))) (same_answer k group values rest e)
            ∙ ap (λ (r : Result (List ModuleValue) Fault). before (module_in s.path (answer_at k group values)) r) (all_same keys group values rest e)

    parsed_runs : (r : Result Fi tokens.Fault) (n : ℕ) → found_file s ≡ file_or_fault s.path s.package_name r → Runs IsHeld (after_parse s r) [] n v → Comes s v
    parsed_runs (Err f) n found run = to_fault (fault_at f.code s.path f.line) found (run_ended (value.Fault (fault_at f.code s.path f.line)) refl run)
    parsed_runs (Ok tree) n found run = go (each_or_fault (loaded_by s.path s.package_name) tree.loads) refl
      where
        go : (r : Result (List Target) Fault) → each_or_fault (loaded_by s.path s.package_name) tree.loads ≡ r → Comes s v
        go (Err f) e =
            to_fault f (found ∙ ap (λ (r : Result (List Target) Fault). with_loads s.path tree r) e)
            (run_ended (value.Fault f) refl (shifted [] [] [] refl (λ rest. ap (λ (r : Result (List Key) Fault). after_loads s tree r rest) (same_loads s tree.loads ∙ ap keyed e)) run))
        go (Ok ts) e =
            loaded (record { path = s.path; tree = tree; loads = ts }) n (found ∙ ap (λ (r : Result (List Target) Fault). with_loads s.path tree r) e) refl (loads_valid s.path s.package_name tree.loads ts e) ts refl
            (shifted [] [] [] refl (λ rest. ap (λ (r : Result (List Key) Fault). after_loads s tree r rest) (same_loads s tree.loads ∙ ap keyed e)) run)

    texted : (o : Option (List ℕ)) (n : ℕ) → map_of.get files s.path ≡ o → Runs IsHeld (after_text s o) [] n v → Comes s v
    texted None n e run = to_fault (fault_at 16 s.path 0) (ap (λ (o : Option (List ℕ)). of_text s.kind s.path s.package_name o) e) (run_ended (value.Fault (fault_at 16 s.path 0)) refl run)
    texted (Some text) n e run = parsed_runs (parse_of s.kind text) n (ap (λ (o : Option (List ℕ)). of_text s.kind s.path s.package_name o) e) run

    -- from its file on
    pub file_runs : (n : ℕ) → Runs IsHeld (by_file s) [] n v → Comes s v
    file_runs n run =
        let asked = run_asked (key.File s.path ∷ []) refl run in
        one_answer asked.values asked.fewer asked.are asked.run
      where
        one_answer : (values : List Value) (n : ℕ) → AllOf IsHeld (key.File s.path ∷ []) values → Runs IsHeld (by_file s) values n v → Comes s v
        one_answer values n (runs.one {v = file} a runs.none) run =
            let is : file ≡ value.File (map_of.get files s.path) = same_value next (read files) a.0 (is_leaf refl) refl in
            texted (map_of.get files s.path) n refl (shifted (file ∷ []) [] (file ∷ []) refl (λ rest. ap (λ (x : Value). after_text s (text_in x) rest) is) run)
