-- A request of a session.
use Rattle.std.proofs.Common.{◌≡◌, ℕ, List, [], ◌∷◌, map, length, Bool, true, ◌||◌, ◌==◌, cond, None, Some, refl, sym, ◌∙◌, ap, subst}
use Rattle.std.specs.Prelude.{Result, Ok, Err, IfOk, Option, option_map, codes, false, nat_lt, nat_eq}
use Rattle.engine_semantics.specs.Value.{In, first, after as further, Grounded, is_leaf, has_run, HasValue, leaf, run}
use Rattle.filetree.specs.Files.{Files}
use Rattle.functions_directories.specs.Lookups.{build_of}
use Rattle.functions_directories.specs.Below.{packages_below}
use Rattle.functions.specs.Next.{next}
use Rattle.keys.specs.Leaves.{read}
use Rattle.keys.proofs.LeafReads.{leaf_stays}
use Rattle.functions_directories.proofs.LookupValue.{lookup_grounded}
use Rattle.functions_directories.proofs.Grounds.{packages_held as names_held}
use Rattle.functions_directories.proofs.Names.{package_names}
use Rattle.engine_semantics.proofs.Plain.{one_value}
use Rattle.keys.specs.Cycles.{cycle}
use Rattle.keys.proofs.CycleLaws.{turned}
use Rattle.keys.specs.declared.key.Key.{Key}
use Rattle.keys.specs.declared.key.Key.TheVariants as key
use Rattle.keys.specs.declared.value.Value.{Value}
use Rattle.keys.specs.declared.value.Value.TheVariants as value
use Rattle.node.specs.Graphs.{GraphView, record_at, present}
use Rattle.round_nodes.specs.Invariants.{Past, IsAfter}
use Rattle.round_nodes.specs.declared.run.Run.{Run}
use Rattle.round.specs.Call.{Calls, IsHistory as IsPast}
use Rattle.round.specs.declared.stop.Stop.{Stop}
use Rattle.loader_answers.specs.Sessions.{SessionView, IsHistory, IsConsistent, files_of}
use Rattle.loader_answers.specs.Answers.{one_member, build_text, ArePackagesShown, IsModuleShown, IsValueOf, IsUnlessRefused, IsRequestAnswer, Tells}
use Rattle.loader_answers.specs.Effects.{AreSettled, StopsAfter, module_roots, package_roots}
use Rattle.loader_answers.specs.KeyAnswers.{package_reply, module_reply}
use Rattle.loader_answers.specs.State.{Edit, one, batch, Refusal, plain, files_refusal, changed_files}
use Rattle.loader_commands.specs.Edits.{refusal_at}
use Rattle.filetree.specs.Changes.{change_refusal, changes_refusal, refused_or}
use Rattle.filetree.specs.Lawful.{HasPaths}
use Rattle.filetree.proofs.Lawful.{edits_keep_paths}
use Rattle.labels.specs.Paths.{is_package_name}
use Rattle.labels.specs.Labels.{Target, label_of, would_name, label_text, is_target, is_module}
use Rattle.loader_replies.specs.Answers.{packages_data}
use Rattle.functions.proofs.NodeValues.{packages_hold, modules_hold}
use Rattle.std.proofs.lemmas.Bool.{and_parts}
use Rattle.std.specs.List.{list_all, starts_with}
use Rattle.loader_commands.specs.Commands.{Request, find, load, module_of, under}
use Rattle.loader_commands.specs.Refusals.{request_refusal, load_refusal, module_label, if_module, refusal_without}
use Rattle.keys.specs.declared.value.BuildName.{BuildName}
use Rattle.keys.specs.declared.value.BuildName.TheVariants.{BuildBazel, Build}
use Rattle.serde_json.specs.Data.{Data}
use Rattle.serde_json.specs.Written.{compact_text, has_float}
use Rattle.loader_answers.proofs.Histories.{last_files, history_from, files_from, paths_from}
use Rattle.loader_answers.proofs.Linking.{read_plain}

grounded_value : (files : Files) {k : Key} {v : Value} → Grounded next (read files) k v → HasValue next (read files) cycle k v
grounded_value files (is_leaf e) = ([], leaf e)
grounded_value files (has_run {groups = gs} e t) = (gs, run e t)

module _ (h : SessionView) (law : IsConsistent h) (tree : Files) (is : tree ≡ files_of h) (roots : List Key) (new : GraphView) where
  past_at : (files : ℕ → Files) (paths : ℕ → List (List ℕ)) → IsHistory files paths h.began h.edits → Past (read tree)
  past_at files paths history = record {
    entry = h.graph;
    roots = roots;
    reads = λ u. read (files u);
    edits = paths;
    at_present = λ k. ap (λ f. read f k) (last_files files paths h law.version history ∙ sym is);
    leaf_stays = λ u w k v e. leaf_stays (files u) (files w) k v e;
    leaf_plain = λ u k v e. read_plain (files u) k v e;
  }

  is_past : (files : ℕ → Files) (paths : ℕ → List (List ℕ)) (history : IsHistory files paths h.began h.edits) → IsPast next (read tree) (past_at files paths history) roots h.graph
  unfolding past_at
  is_past files paths history = record { at_entry = refl; of_roots = refl; lawful = law.lawful files paths history }

  -- the session stays consistent, at its version
  kept_lawful : ((files : ℕ → Files) (paths : ℕ → List (List ℕ)) (history : IsHistory files paths h.began h.edits) → IsAfter next (read tree) (past_at files paths history) new)
      → (new.version ≡ h.graph.version) × IsConsistent (record { began = h.began; edits = h.edits; graph = new })
  unfolding past_at
  kept_lawful after =
      let v : new.version ≡ h.graph.version = (after (files_from h.began h.edits) (paths_from h.began h.edits) (history_from h.began h.edits)).version in
      (v, record { version = v ∙ law.version; lawful = λ files paths history. (after files paths history).lawful })

  pub lawful_call : (runs : List Run) → Calls next (read tree) roots h.graph new (Ok runs) → (new.version ≡ h.graph.version) × IsConsistent (record { began = h.began; edits = h.edits; graph = new })
  lawful_call runs calls = kept_lawful (λ files paths history. (calls (past_at files paths history) (is_past files paths history)).after)

  pub lawful_stop : (e : Stop) → Calls next (read tree) roots h.graph new (Err e) → (new.version ≡ h.graph.version) × IsConsistent (record { began = h.began; edits = h.edits; graph = new })
  lawful_stop e calls = kept_lawful (λ files paths history. calls (past_at files paths history) (is_past files paths history))

  pub stops_after : (e : Stop) → Calls next (read tree) roots h.graph new (Err e) → StopsAfter roots h (record { began = h.began; edits = h.edits; graph = new })
  stops_after e calls = λ past at of law. subst (λ (f : Files). Calls next (read f) roots h.graph new (Err e)) is calls past (record { at_entry = at; of_roots = of; lawful = law })

  root_of : (k : Key) → In k roots → In k (past_at (files_from h.began h.edits) (paths_from h.began h.edits) (history_from h.began h.edits)).roots
  unfolding past_at
  root_of k i = i

  -- each root has a value and holds it
  pub holds_value : (runs : List Run) → Calls next (read tree) roots h.graph new (Ok runs) → (k : Key) → In k roots → (v : Value) × HasValue next (read tree) cycle k v × (present (record_at new k) ≡ Some v)
  holds_value runs calls k i =
      let a = (calls (past_at (files_from h.began h.edits) (paths_from h.began h.edits) (history_from h.began h.edits)) (is_past (files_from h.began h.edits) (paths_from h.began h.edits) (history_from h.began h.edits))).answered k (root_of k i) in
      (a.0.value, a.3, ap present a.1 ∙ ap (λ b. cond b None (Some a.0.value)) a.2)

-- the value of a look-up
pub build_value : (files : Files) (name : List ℕ) → HasValue next (read files) cycle (key.Lookup name) (value.Lookup (build_of files name))
build_value files name = grounded_value files (lookup_grounded next (λ d answers. refl) files name)

-- the reply to a find, from the known value of its look-up
pub find_told : (files : Files) (name : List ℕ) (roots : List Key) (graph : GraphView) (found : Option BuildName) (d : Data)
    → ((n : List ℕ) (f : Option BuildName) → roots ≡ key.Lookup n ∷ [] → present (record_at graph (key.Lookup n)) ≡ Some (value.Lookup f) → found ≡ f)
    → d ≡ one_member (codes "build") (build_text found) → roots ≡ key.Lookup name ∷ [] → AreSettled files roots graph → IsValueOf (find name) files d
find_told files name roots graph found d by is only held =
    let there = held (key.Lookup name) (subst (In (key.Lookup name)) (sym only) first) in
    let same : there.0 ≡ value.Lookup (build_of files name) = one_value next (read files) cycle turned there.1.1 (build_value files name).1 in
    is ∙ ap (λ (f : Option BuildName). one_member (codes "build") (build_text f)) (by name (build_of files name) only (there.2 ∙ ap (λ (v : Value). Some v) same))

-- ---- packages and modules

list_parts : {A : Type 0} (p : A → Bool) (x : A) (xs : List A) → list_all p (x ∷ xs) ≡ true → (p x ≡ true) × (list_all p xs ≡ true)
list_parts p x xs e = and_parts (p x) (list_all p xs) e

packages_held : (files : Files) (graph : GraphView) (names : List (List ℕ)) → HasPaths files → list_all is_package_name names ≡ true → AreSettled files (map (λ n. key.Package n) names) graph
    → ArePackagesShown files names (map (λ k. package_reply k (present (record_at graph k))) (map (λ n. key.Package n) names))
packages_held files graph [] good named held = tt
packages_held files graph (name ∷ names) good named held =
    let parts = list_parts is_package_name name names named in
    let there = held (key.Package name) first in (
      (there.0, packages_hold files name there.0 good parts.0 there.1, ap (λ (o : Option Value). package_reply (key.Package name) o) there.2),
      packages_held files graph names good parts.1 (λ k i. held k (further i)),
    )

pub load_accepted : (names : List (List ℕ)) → load_refusal names ≡ None → list_all is_package_name names ≡ true
load_accepted names e = counted (length names == 0 || nat_lt 256 (length names)) (list_all is_package_name names) e
  where
    named : (b : Bool) → cond {A = Option ℕ} b None (Some 5) ≡ None → b ≡ true
    named true e = refl
    named false e = absurd cc

    counted : (a b : Bool) → cond {A = Option ℕ} a (Some 9) (cond {A = Option ℕ} b None (Some 5)) ≡ None → b ≡ true
    counted true b e = absurd cc
    counted false b e = named b e

-- the reply to a load, from the known value of its packages
pub load_told : (files : Files) (names : List (List ℕ)) (roots : List Key) (graph : GraphView) (d : Data) → HasPaths files → request_refusal (load names) ≡ None → roots ≡ map (λ n. key.Package n) names
    → d ≡ packages_data (map (λ k. package_reply k (present (record_at graph k))) roots) → AreSettled files roots graph → IsValueOf (load names) files d
load_told files names roots graph d good accepted only is held = (
  map (λ k. package_reply k (present (record_at graph k))) (map (λ n. key.Package n) names),
  packages_held files graph names good (load_accepted names accepted) (subst (λ (ks : List Key). AreSettled files ks graph) only held),
  is ∙ ap (λ (ks : List Key). packages_data (map (λ k. package_reply k (present (record_at graph k))) ks)) only,
)

-- the names of the packages at and below a directory, from the known value of its key
pub names_told : (files : Files) (directory : List ℕ) (roots : List Key) (graph : GraphView) (found : List (List ℕ)) → HasPaths files
    → ((d : List ℕ) (names : List (List ℕ)) → roots ≡ key.Under d ∷ [] → present (record_at graph (key.Under d)) ≡ Some (value.Paths names) → found ≡ names)
    → roots ≡ key.Under directory ∷ [] → AreSettled files roots graph → found ≡ packages_below files directory
names_told files directory roots graph found good by only held =
    let there = held (key.Under directory) (subst (In (key.Under directory)) (sym only) first) in
    let means = grounded_value files (names_held next files (λ d answers. refl) (lookup_grounded next (λ d answers. refl) files) good directory) in
    let same : there.0 ≡ value.Paths (packages_below files directory) = one_value next (read files) cycle turned there.1.1 means.1 in
    by directory (packages_below files directory) only (there.2 ∙ ap (λ (v : Value). Some v) same)

-- the reply with these packages, from the known value of them
pub under_told : (files : Files) (directory : List ℕ) (roots : List Key) (graph : GraphView) (d : Data) → HasPaths files
    → roots ≡ package_roots (packages_below files directory) → d ≡ packages_data (map (λ k. package_reply k (present (record_at graph k))) roots) → AreSettled files roots graph → IsValueOf (under directory) files d
under_told files directory roots graph d good only is held = (
  map (λ k. package_reply k (present (record_at graph k))) (map (λ n. key.Package n) (packages_below files directory)),
  packages_held files graph (packages_below files directory) good (package_names files good directory) (subst (λ (ks : List Key). AreSettled files ks graph) only held),
  is ∙ ap (λ (ks : List Key). packages_data (map (λ k. package_reply k (present (record_at graph k))) ks)) only,
)

named_module : (o : Option Target) (t : Target) → if_module o ≡ Some t → (o ≡ Some t) × (is_module t ≡ true)
named_module None t e = absurd cc
named_module (Some u) t e = go (is_module u) refl e
  where
    go : (b : Bool) → is_module u ≡ b → cond b (Some u) None ≡ Some t → (Some u ≡ Some t) × (is_module t ≡ true)
    go true m e = let same : u ≡ t = cc in (e, ap is_module (sym same) ∙ m)
    go false m e = absurd cc

label_named : (text : List ℕ) (t : Target) → module_label text ≡ Some t → (label_of text [] ≡ Some t) × (is_module t ≡ true)
label_named text t e = go (starts_with nat_eq text (codes "//")) e
  where
    go : (b : Bool) → cond b (if_module (label_of text [])) None ≡ Some t → (label_of text [] ≡ Some t) × (is_module t ≡ true)
    go true e = named_module (label_of text []) t e
    go false e = absurd cc

label_names : (text present : List ℕ) (u : Target) → label_of text present ≡ Some u → is_target u ≡ true
label_names text present u e = go (is_target (would_name text present)) refl
  where
    picked : (t u : Target) → Some t ≡ Some u → t ≡ u
    picked t u q = cc

    go : (b : Bool) → is_target (would_name text present) ≡ b → is_target u ≡ true
    go true h = subst (λ t. is_target t ≡ true) (picked (would_name text present) u (ap (λ b. cond b (Some (would_name text present)) None) (sym h) ∙ e)) h
    go false h = let wrong : None ≡ Some u = ap (λ b. cond b (Some (would_name text present)) None) (sym h) ∙ e in absurd cc

-- the reply to a question about a module, from the known value of it
pub module_answered : (files : Files) (label : List ℕ) (roots : List Key) (graph : GraphView) (text : List ℕ) → HasPaths files → request_refusal (module_of label) ≡ None → roots ≡ module_roots (module_label label)
    → ((k : Key) → roots ≡ k ∷ [] → text ≡ compact_text (module_reply (present (record_at graph k)))) → AreSettled files roots graph → Tells (IsValueOf (module_of label) files) text
module_answered files label roots graph text good accepted only is held = go (module_label label) refl accepted only
  where
    go : (o : Option Target) → module_label label ≡ o → refusal_without o ≡ None → roots ≡ module_roots o → Tells (IsModuleShown files o) text
    go None e wrong only = absurd cc
    go (Some t) e fine only =
        let named = label_named label t e in
        let there = held (key.Module (label_text t)) (subst (In (key.Module (label_text t))) (sym only) first) in (
          module_reply (present (record_at graph (key.Module (label_text t)))),
          (there.0, modules_hold files t there.0 good (label_names label [] t named.0) named.1 there.1, ap module_reply there.2),
          is (key.Module (label_text t)) only,
        )

-- the text that tells a build file has no floats
pub build_plain : (found : Option BuildName) → has_float (one_member (codes "build") (build_text found)) ≡ false
build_plain None = refl
build_plain (Some BuildBazel) = refl
build_plain (Some Build) = refl

-- the text of a reply to a request that is not refused
pub text_told : (request : Request) (files : Files) (text : List ℕ) → request_refusal request ≡ None → Tells (IsValueOf request files) text → Tells (IsRequestAnswer request files) text
text_told request files text accepted told = (told.0, subst (λ (n : Option ℕ). IsUnlessRefused n (IsValueOf request files) told.0) (sym accepted) told.1, told.2)

not_plain : (o : Option ℕ) → option_map plain o ≡ None → o ≡ None
not_plain None e = refl
not_plain (Some n) e = absurd cc

not_batch : (b : Bool) (o : Option (ℕ × ℕ)) → cond {A = Option Refusal} b (Some (plain 10)) (option_map refusal_at o) ≡ None → o ≡ None
not_batch true o e = absurd cc
not_batch false None e = refl
not_batch false (Some p) e = absurd cc

-- the files of an edit that is not refused have paths alone
pub kept_paths : (edit : Edit) (files : Files) → HasPaths files → files_refusal edit files ≡ None → HasPaths (changed_files edit files)
kept_paths (one c) files good e = edits_keep_paths.3 files (c ∷ []) good (ap (λ o. refused_or 0 o None) (not_plain (change_refusal c files) e))
kept_paths (batch cs) files good e = edits_keep_paths.3 files cs good (not_batch (length cs == 0 || nat_lt 256 (length cs)) (changes_refusal cs files) e)

-- the known values of keys, in an equal graph
pub held_in : (files : Files) (keys others : List Key) (graph other : GraphView) → keys ≡ others → graph ≡ other → AreSettled files keys graph → AreSettled files others other
held_in files keys others graph other same equal held = subst (AreSettled files others) equal (subst (λ (ks : List Key). AreSettled files ks graph) same held)

-- what follows of a result that is there
pub if_ok : {A E : Type 0} (P Q : A → Type 0) (r : Result A E) → ((x : A) → P x → Q x) → IfOk r P → IfOk r Q
if_ok P Q (Ok x) f h = f x h
if_ok P Q (Err e) f h = tt
