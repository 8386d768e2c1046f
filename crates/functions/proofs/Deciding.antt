-- A label has a module, or its loads reach a cycle: the loads are followed until a module comes again.
use Rattle.std.proofs.Common.{◌≡◌, ◌≤◌, ◌-◌, ℕ, zero, suc, List, [], ◌∷◌, length, Bool, true, false, cond, ◌⊎◌, inl, inr, Option, Some, None, Result, Ok, Err, refl, sym, subst, arith}
use Rattle.std.specs.Prelude.{is_some}
use Rattle.std.specs.List.{list_any}
use Rattle.std.specs.FinMap as map_of
use Rattle.engine_semantics.specs.Value.{In, first, after}
use Rattle.labels.specs.Labels.{Target, label_file, boundaries}
use Rattle.filetree.specs.Files.{Files}
use Rattle.pattern.specs.Globs.{is_package}
use Rattle.syntax_grammar.specs.declared.kind.FileKind.TheVariants as k
use Rattle.values_modules.specs.Values.{ModuleValue}
use Rattle.evaluator_semantics.specs.Files.{Outcome, a_module, a_package, a_need, a_fault, evaluate}
use Rattle.evaluator_semantics.specs.Laws.{IsFinished}
use Rattle.evaluator_semantics.proofs.MoreStatements.{modules_finish}
use Rattle.keys.specs.declared.value.Fault.{Fault}
use Rattle.functions.specs.Sources.{fault_at}
use Rattle.functions.specs.Loads.{Node, of_module, File, of_text, loads_in, file_of, loads, Path, stay, load, ReachesCycle, FirstCyclic, at_head, further}
use Rattle.functions.specs.FilePackages.{Module, IsModule, AreModules, none, one, of_file, of_load, evaluated, all_loaded, module_env, LeavesModule, a_value, faulty}
use Rattle.functions.proofs.NodeCycles.{acyclic}
use Rattle.functions.proofs.NoValue.{is_member}
use Rattle.functions.proofs.NodesHold.{no_package}
use Rattle.functions.proofs.TargetsOfFiles.{without, one_less, or_left, targets_of, in_targets}

module _ (files : Files) where
  abbrev pub HasFile : Target → Type 0
  HasFile t = (f : File) × (file_of files (of_module t) ≡ Ok f)

  -- what has a file to be evaluated has it among the files
  pub has_file : (t : Target) → HasFile t → In t (targets_of (map_of.keys files))
  has_file t h = in_targets files t (go (is_package files t.package_name) (list_any (is_package files) (boundaries t)) (map_of.get files (label_file t)) h.1)
    where
      go : (inside crossed : Bool) (text : Option (List ℕ)) → cond inside (cond crossed (Err (fault_at 17 (label_file t) 0)) (of_text k.Bzl (label_file t) t.package_name text)) (Err (fault_at 1 t.package_name 0)) ≡ Ok h.0 → is_some text ≡ true
      go true true text e = absurd cc
      go true false None e = absurd cc
      go true false (Some text) e = refl
      go false crossed text e = absurd cc

  -- ---- loads

  on : {n m p : Node} → Path files n m → Path files m p → Path files n p
  on stay path = path
  on (load i walk) path = load i (on walk path)

  -- from one to the other along a load or more
  record Leads (t u : Target) : Type 0 where
    next : Target
    is_load : In next (loads files (of_module t))
    path : Path files (of_module next) (of_module u)

  pub reaching : {ts : List Target} {u : Target} → FirstCyclic files ts u → ReachesCycle files (of_module u)
  reaching (at_head c) = c
  reaching (further clear behind) = reaching behind

  -- what loads a module that reaches a cycle reaches one
  pub reach : {n : Node} {u : Target} → In u (loads files n) → ReachesCycle files (of_module u) → ReachesCycle files n
  reach i c = record { twice = c.twice; next = c.next; comes = load i c.comes; loads_next = c.loads_next; returns = c.returns }

  pub loads_of : (n : Node) {f : File} {u : Target} → file_of files n ≡ Ok f → In u f.loads → In u (loads files n)
  loads_of n {u = u} e i = subst (λ (r : Result File Fault). In u (loads_in r)) (sym e) i

  -- ---- modules

  abbrev pub Decided : Target → Type 0
  Decided t = ((m : Module) × IsModule files t m) ⊎ ReachesCycle files (of_module t)

  -- all of some loads have a module, or there is a first that reaches a cycle
  abbrev pub AllDecided : List Target → Type 0
  AllDecided ts = ((modules : List Module) × AreModules files ts modules) ⊎ ((u : Target) × FirstCyclic files ts u)

  all_decided : (ts : List Target) → ((u : Target) → In u ts → Decided u) → AllDecided ts
  all_decided [] each = inl ([], none)
  all_decided (t ∷ ts) each = elim (each t first) [
    | inr c ↦ inr (t, at_head c)
    | inl m ↦ elim (all_decided ts (λ u i. each u (after i))) [
      | inl r ↦ inl (m.0 ∷ r.0, one m.1 r.1)
      | inr r ↦ inr (r.0, further (acyclic files m.1) r.1)
    ]
  ]

  -- a label whose loads have modules has one
  module_of : (t : Target) (f : File) (modules : List Module) → file_of files (of_module t) ≡ Ok f → AreModules files f.loads modules → (m : Module) × IsModule files t m
  module_of t f modules found are = go (all_loaded modules) refl
    where
      left : (ms : List ModuleValue) → all_loaded modules ≡ Ok ms → (o : Outcome) → evaluate (module_env t f ms) ≡ o → (m : Module) × IsModule files t m
      left ms e (a_module m) d = (Ok m, evaluated found are e (subst (λ (o : Outcome). LeavesModule o (Ok m)) (sym d) a_value))
      left ms e (a_fault code site) d =
          let fault = fault_at code site.path site.line in (Err fault, evaluated found are e (subst (λ (o : Outcome). LeavesModule o (Err fault)) (sym d) faulty))
      left ms e (a_package targets) d = absurd (no_package (module_env t f ms) targets refl d)
      left ms e (a_need patterns) d = absurd (subst (λ (o : Outcome). IsFinished o) d (modules_finish (module_env t f ms) refl))

      go : (r : Result (List ModuleValue) Fault) → all_loaded modules ≡ r → (m : Module) × IsModule files t m
      go (Err fault) e = (Err fault, of_load found are e)
      go (Ok ms) e = left ms e (evaluate (module_env t f ms)) refl

  -- ---- the search

  -- each label with a file is left, or was passed on the way
  abbrev Known : List Target → Target → Type 0
  Known left t = (u : Target) → HasFile u → In u left ⊎ Leads u t

  known_next : {left : List Target} {t u : Target} → Known left t → (i : In t left) → In u (loads files (of_module t)) → Known (without left i) u
  known_next {left = left} {t = t} {u = u} known i j x h = elim (known x h) [
    | inr leads ↦ inr (record { next = leads.next; is_load = leads.is_load; path = on leads.path (load j stay) })
    | inl k ↦ elim (or_left i k) [
      | inl same ↦ inr (record { next = u; is_load = subst (λ (y : Target). In u (loads files (of_module y))) (sym same) j; path = stay })
      | inr there ↦ inl there
    ]
  ]

  abbrev Search : ℕ → Type 0
  Search n = (left : List Target) → length left ≤ n → (t : Target) → Known left t → Decided t

  module _ (n : ℕ) (later : (m : ℕ) → n ≡ suc m → Search m) (left : List Target) (few : length left ≤ n) (t : Target) (known : Known left t) where
    passed : (f : File) → file_of files (of_module t) ≡ Ok f → In t left → Decided t
    passed f e i =
        let fewer : length left ≡ suc (length (without left i)) = one_less left i in
        elim (all_decided f.loads (λ u j. later (n - 1) (omega (arith, few, fewer)) (without left i) (omega (arith, few, fewer)) u (known_next known i (loads_of (of_module t) e j)))) [
          | inl r ↦ inl (module_of t f r.0 e r.1)
          | inr r ↦ inr (reach (loads_of (of_module t) e (is_member files r.1)) (reaching r.1))
        ]

    one_step : Decided t
    one_step = go (file_of files (of_module t)) refl
      where
        go : (r : Result File Fault) → file_of files (of_module t) ≡ r → Decided t
        go (Err fault) e = inl (Err fault, of_file e)
        go (Ok f) e = elim (known t (f, e)) [
          | inl i ↦ passed f e i
          | inr leads ↦ inr (record { twice = t; next = leads.next; comes = stay; loads_next = leads.is_load; returns = leads.path })
        ]

  search : (n : ℕ) → Search n
  search zero = λ left few t known. one_step zero (λ m e. absurd cc) left few t known
  search (suc n) = λ left few t known. one_step (suc n) (λ m e. subst Search (let same : n ≡ m = cc in same) (search n)) left few t known

  -- a label has a module, or its loads reach a cycle
  pub decided : (t : Target) → Decided t
  decided t = let all = targets_of (map_of.keys files) in search (length all) all (omega arith) t (λ u h. inl (has_file u h))

  pub loads_decided : (ts : List Target) → AllDecided ts
  loads_decided ts = all_decided ts (λ u i. decided u)
