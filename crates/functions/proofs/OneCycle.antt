-- A node is shown one cycle at most, wherever its cycle is entered.
use Rattle.std.proofs.Common.{◌≡◌, ◌≢◌, ℕ, List, [], ◌∷◌, ◌++◌, map, Bool, true, false, cond, ◌⊎◌, inl, inr, Option, Some, None, Result, Ok, Err, refl, sym, ap, subst, ◌∙◌}
use Rattle.std.specs.FinMap as map_of
use Rattle.std.specs.List.{AllByRecursion, list_any}
use Rattle.engine_semantics.specs.Value.{AllDiffer}
use Rattle.engine_semantics.specs.Rotation.{rotated}
use Rattle.engine_semantics.proofs.Loops.{differ_turned}
use Rattle.engine_semantics.proofs.Rotating.{rotated_turned}
use Rattle.labels.specs.Labels.{Target, label_text, label_file, boundaries}
use Rattle.filetree.specs.Files.{Files}
use Rattle.pattern.specs.Globs.{is_package}
use Rattle.syntax_tree.specs.Tree.{Fi}
use Rattle.syntax_tokens.specs.Reading as tokens
use Rattle.syntax_grammar.specs.declared.kind.FileKind.{FileKind}
use Rattle.syntax_grammar.specs.declared.kind.FileKind.TheVariants as k
use Rattle.syntax_grammar.specs.Files.{parse_of}
use Rattle.keys.specs.declared.value.Fault.{Fault}
use Rattle.keys.specs.declared.value.BuildName.{BuildName}
use Rattle.functions_directories.specs.Lookups.{build_of, build_path}
use Rattle.functions.specs.Sources.{fault_at, each_or_fault}
use Rattle.functions.specs.Loads.{Node, of_module, of_package, File, loaded_by, with_loads, file_or_fault, of_text, loads_in, build_file, loads, FirstCyclic, at_head, further, Follows, once, more, ShowsCycle}
use Rattle.functions.specs.PackageLaws.{OneCycle}
use Rattle.functions.proofs.NodeLoads.{IsValid, loads_valid, one_label}

-- ---- all that is loaded can be a module

abbrev AllValid : Result File Fault → Type 0
AllValid r = AllByRecursion IsValid (loads_in r)

either : (b : Bool) (r s : Result File Fault) → AllValid r → AllValid s → AllValid (cond b r s)
either true r s h g = h
either false r s h g = g

parsed_valid : (path package_name : List ℕ) (r : Result Fi tokens.Fault) → AllValid (file_or_fault path package_name r)
parsed_valid path package_name (Err f) = tt
parsed_valid path package_name (Ok tree) = go (each_or_fault (loaded_by path package_name) tree.loads) refl
  where
    go : (r : Result (List Target) Fault) → each_or_fault (loaded_by path package_name) tree.loads ≡ r → AllValid (with_loads path tree r)
    go (Err f) e = tt
    go (Ok ts) e = loads_valid path package_name tree.loads ts e

text_valid : (kind : FileKind) (path package_name : List ℕ) (o : Option (List ℕ)) → AllValid (of_text kind path package_name o)
text_valid kind path package_name None = tt
text_valid kind path package_name (Some text) = parsed_valid path package_name (parse_of kind text)

texts_apart : (t : Target) (ts : List Target) → IsValid t → AllByRecursion IsValid ts → AllByRecursion (λ (u : Target). t ≢ u) ts → AllByRecursion (λ (x : List ℕ). label_text t ≢ x) (map label_text ts)
texts_apart t [] is all h = tt
texts_apart t (u ∷ ts) is all h = ((λ e. h.0 (one_label t u is all.0 e)), texts_apart t ts is all.1 h.1)

texts_differ : (ts : List Target) → AllByRecursion IsValid ts → AllDiffer ts → AllDiffer (map label_text ts)
texts_differ [] all h = tt
texts_differ (t ∷ ts) all h = (texts_apart t ts all.0 all.1 h.0, texts_differ ts all.1 h.1)

texts_turned : (ts : List Target) (u : Target) → map label_text ts ++ label_text u ∷ [] ≡ map label_text (ts ++ u ∷ [])
texts_turned [] u = refl
texts_turned (t ∷ ts) u = ap (λ (xs : List (List ℕ)). label_text t ∷ xs) (texts_turned ts u)

pair_of : {t u : Target} {ts us : List Target} → t ≡ u → ts ≡ us → t ∷ ts ≡ u ∷ us
pair_of e d = cc

module _ (files : Files) where
  valid : (n : Node) → AllByRecursion IsValid (loads files n)
  valid (of_module t) =
      let text = of_text k.Bzl (label_file t) t.package_name (map_of.get files (label_file t)) in
      let crossed = list_any (is_package files) (boundaries t) in
      either (is_package files t.package_name) (cond crossed (Err (fault_at 17 (label_file t) 0)) text) (Err (fault_at 1 t.package_name 0))
      (either crossed (Err (fault_at 17 (label_file t) 0)) text tt (text_valid k.Bzl (label_file t) t.package_name (map_of.get files (label_file t)))) tt
  valid (of_package name) = built (build_of files name)
    where
      built : (o : Option BuildName) → AllValid (build_file files name o)
      built None = tt
      built (Some build) = text_valid k.Build (build_path name build) name (map_of.get files (build_path name build))

  first_valid : {ts : List Target} {u : Target} → AllByRecursion IsValid ts → FirstCyclic files ts u → IsValid u
  first_valid all (at_head c) = all.0
  first_valid all (further none behind) = first_valid all.1 behind

  all_valid : {n : Node} {ts : List Target} {u : Target} → Follows files n ts u → AllByRecursion IsValid ts × IsValid u
  all_valid {n = n} (once c) = (tt, first_valid (valid n) c)
  all_valid {n = n} (more c follows) = let r = all_valid follows in ((first_valid (valid n) c, r.0), r.1)

  -- ---- a node follows one load

  one_first : {ts : List Target} {t u : Target} → FirstCyclic files ts t → FirstCyclic files ts u → t ≡ u
  one_first (at_head c) (at_head d) = refl
  one_first (at_head c) (further none d) = absurd (none c)
  one_first (further none c) (at_head d) = absurd (none d)
  one_first (further none c) (further other d) = one_first c d

  -- of two ends one is after the other
  abbrev Behind : Target → Target → Type 0
  Behind u w = (between : List Target) × Follows files (of_module u) between w

  met : {n : Node} {a b : List Target} {u w : Target} → Follows files n a u → Follows files n b w → (u ≡ w) ⊎ (Behind u w ⊎ Behind w u)
  met (once c) (once d) = inl (one_first c d)
  met {w = w} (once c) (more {ts = ts} d right) = inr (inl (ts, subst (λ (t : Target). Follows files (of_module t) ts w) (one_first d c) right))
  met {u = u} (more {ts = ts} c left) (once d) = inr (inr (ts, subst (λ (t : Target). Follows files (of_module t) ts u) (one_first c d) left))
  met {w = w} (more c left) (more {ts = ts} d right) = met left (subst (λ (t : Target). Follows files (of_module t) ts w) (one_first d c) right)

  -- the way to the first place where it ends is one
  one_way : {n : Node} {a b : List Target} {w : Target} → Follows files n a w → Follows files n b w → AllByRecursion (λ (j : Target). w ≢ j) a → AllByRecursion (λ (j : Target). w ≢ j) b → a ≡ b
  one_way (once c) (once d) p q = refl
  one_way (once c) (more d right) p q = absurd (q.0 (one_first c d))
  one_way (more c left) (once d) p q = absurd (p.0 (one_first d c))
  one_way {w = w} (more c left) (more {ts = ts} d right) p q =
      let same = one_first d c in pair_of (sym same) (one_way left (subst (λ (t : Target). Follows files (of_module t) ts w) same right) p.1 q.1)

  -- ---- a cycle, entered at a module

  record Loop (w : Target) (labels : List (List ℕ)) : Type 0 where
    rest : List Target
    returns : Follows files (of_module w) rest w
    differ : AllDiffer (w ∷ rest)
    shown : labels ≡ rotated (map label_text (w ∷ rest))

  pub one_more : {n : Node} {ts : List Target} {u v : Target} → Follows files n ts u → FirstCyclic files (loads files (of_module u)) v → Follows files n (ts ++ u ∷ []) v
  one_more (once c) d = more c (once d)
  one_more (more c follows) d = more c (one_more follows d)

  -- one module further
  turned : (u v : Target) (labels : List (List ℕ)) → FirstCyclic files (loads files (of_module u)) v → Loop u labels → Loop v labels
  turned u v labels step l = go l.rest l.returns l.differ l.shown
    where
      go : (rest : List Target) → Follows files (of_module u) rest u → AllDiffer (u ∷ rest) → labels ≡ rotated (map label_text (u ∷ rest)) → Loop v labels
      go [] (once c) differ shown = subst (λ (t : Target). Loop t labels) (one_first c step) (record { rest = []; returns = once c; differ = differ; shown = shown })
      go (t ∷ ts) (more c follows) differ shown =
          let all = all_valid {n = of_module u} (more c follows) in
          subst (λ (t : Target). Loop t labels) (one_first c step) (record {
            rest = ts ++ u ∷ [];
            returns = one_more follows c;
            differ = differ_turned u (t ∷ ts) differ;
            shown = shown ∙ rotated_turned (label_text u) (map label_text (t ∷ ts)) (texts_differ (u ∷ t ∷ ts) (all.1, all.0) differ) ∙ ap rotated (texts_turned (t ∷ ts) u);
          })

  loop_behind : {u w : Target} {between : List Target} (labels : List (List ℕ)) → Loop u labels → Follows files (of_module u) between w → Loop w labels
  loop_behind {u = u} {w = w} labels l (once c) = turned u w labels c l
  loop_behind {u = u} labels l (more {t = t} c follows) = loop_behind labels (turned u t labels c l) follows

  one_loop : {w : Target} {a b : List (List ℕ)} → Loop w a → Loop w b → a ≡ b
  one_loop {w = w} l m = l.shown ∙ ap (λ (r : List Target). rotated (map label_text (w ∷ r))) (one_way l.returns m.returns l.differ.0 m.differ.0) ∙ sym m.shown

  loop_of : {n : Node} {labels : List (List ℕ)} (c : ShowsCycle files n labels) → Loop c.first labels
  loop_of c = record { rest = c.rest; returns = c.returns; differ = c.differ; shown = c.shown }

pub one_cycle : OneCycle
one_cycle files n a b c d = elim (met files c.comes d.comes) [
  | inl same ↦ one_loop files (subst (λ (t : Target). Loop files t a) same (loop_of files c)) (loop_of files d)
  | inr apart ↦ elim apart [
    | inl behind ↦ one_loop files (loop_behind files a (loop_of files c) behind.1) (loop_of files d)
    | inr behind ↦ one_loop files (loop_of files c) (loop_behind files b (loop_of files d) behind.1)
  ]
]
