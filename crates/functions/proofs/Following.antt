-- What reaches a cycle is shown one: the first load that reaches a cycle is followed until a module comes again.
use Rattle.std.proofs.Common.{◌≡◌, ◌≢◌, ◌≤◌, ◌-◌, ℕ, zero, suc, List, [], ◌∷◌, ◌++◌, length, map, Bool, true, false, ◌⊎◌, inl, inr, Result, Ok, Err, refl, sym, ap, subst, arith}
use Rattle.std.specs.FinMap as map_of
use Rattle.std.specs.List.{AllByRecursion}
use lib.Pointwise.{bytes_decides}
use Rattle.values_semantics.specs.Comparing.{same_text}
use Rattle.engine_semantics.specs.Value.{In, first, after, AllDiffer}
use Rattle.engine_semantics.specs.Rotation.{rotated}
use Rattle.labels.specs.Labels.{Target, label_text}
use Rattle.filetree.specs.Files.{Files}
use Rattle.keys.specs.declared.value.Fault.{Fault}
use Rattle.functions.specs.Loads.{Node, of_module, File, loads_in, file_of, loads, ReachesCycle, FirstCyclic, Follows, once, more, ShowsCycle}
use Rattle.functions.proofs.NodeCycles.{Nearer, nearer, no_member, all_acyclic}
use Rattle.functions.proofs.OneCycle.{one_more}
use Rattle.functions.proofs.TargetsOfFiles.{without, one_less, or_left, targets_of, in_left, in_right}
use Rattle.functions.proofs.Deciding.{HasFile, has_file, reaching, loads_decided}

-- ---- labels in lists

one_or_other : (t u : Target) → (t ≡ u) ⊎ (t ≢ u)
one_or_other t u = go (same_text t.package_name u.package_name) (same_text t.name u.name) refl refl
  where
    names : (p : t.package_name ≡ u.package_name) (q : t.name ≡ u.name) → t ≡ u
    names p q = λ i. record { package_name = p i; name = q i }

    go : (a b : Bool) → same_text t.package_name u.package_name ≡ a → same_text t.name u.name ≡ b → (t ≡ u) ⊎ (t ≢ u)
    go true true p q = inl (names ((bytes_decides t.package_name u.package_name).0 p) ((bytes_decides t.name u.name).0 q))
    go false b p q = inr (λ same. let is = (bytes_decides t.package_name u.package_name).1 (ap (λ (x : Target). x.package_name) same) in absurd cc)
    go true false p q = inr (λ same. let is = (bytes_decides t.name u.name).1 (ap (λ (x : Target). x.name) same) in absurd cc)

abbrev IsApart : Target → List Target → Type 0
IsApart t ts = AllByRecursion (λ (u : Target). u ≢ t) ts

among : (t : Target) (ts : List Target) → In t ts ⊎ IsApart t ts
among t [] = inr tt
among t (u ∷ ts) = elim (one_or_other u t) [
  | inl same ↦ inl (subst (λ (x : Target). In x (u ∷ ts)) same first)
  | inr other ↦ elim (among t ts) [
    | inl i ↦ inl (after i)
    | inr apart ↦ inr (other, apart)
  ]
]

not_apart : {t : Target} {ts : List Target} → In t ts → IsApart t ts → ⊥
not_apart first apart = apart.0 refl
not_apart (after i) apart = not_apart i apart.1

-- one more, which is none of them
also_apart : (x t : Target) (ts : List Target) → AllByRecursion (λ (j : Target). x ≢ j) ts → x ≢ t → AllByRecursion (λ (j : Target). x ≢ j) (ts ++ t ∷ [])
also_apart x t [] h other = (other, tt)
also_apart x t (u ∷ ts) h other = (h.0, also_apart x t ts h.1 other)

one_more_differs : (t : Target) (ts : List Target) → AllDiffer ts → IsApart t ts → AllDiffer (ts ++ t ∷ [])
one_more_differs t [] differ apart = (tt, tt)
one_more_differs t (u ∷ ts) differ apart = (also_apart u t ts differ.0 apart.0, one_more_differs t ts differ.1 apart.1)

module _ (files : Files) where
  -- a walk, cut at a module on its way
  record Cut (n : Node) (u t : Target) : Type 0 where
    before : List Target
    rest : List Target
    comes : Follows files n before u
    goes : Follows files (of_module u) rest t
    differ : AllDiffer (u ∷ rest)

  cut : {n : Node} {passed : List Target} {u t : Target} → Follows files n passed t → In u passed → AllDiffer passed → Cut n u t
  cut (once c) i differ = elim i [ ]
  cut (more {ts = ts} c follows) first differ = record { before = []; rest = ts; comes = once c; goes = follows; differ = differ }
  cut (more {t = v} c follows) (after i) differ =
      let behind = cut follows i differ.1 in record { before = v ∷ behind.before; rest = behind.rest; comes = more c behind.comes; goes = behind.goes; differ = behind.differ }

  -- the load that is followed
  record Next (n : Node) : Type 0 where
    file : File
    found : file_of files n ≡ Ok file
    target : Target
    is_first : FirstCyclic files (loads files n) target

  next_of : (n : Node) → ReachesCycle files n → Next n
  next_of n c = go (file_of files n) refl
    where
      near : Nearer files n
      near = nearer files n c

      go : (r : Result File Fault) → file_of files n ≡ r → Next n
      go (Err fault) e = absurd (no_member files near.is_load (ap (λ (r : Result File Fault). loads_in r) e))
      go (Ok f) e = elim (loads_decided files (loads files n)) [
        | inl r ↦ absurd (all_acyclic files r.1 near.is_load near.reaches)
        | inr r ↦ record { file = f; found = e; target = r.0; is_first = r.1 }
      ]

  module _ (n : Node) where
    -- each label with a file is left, or was passed
    abbrev Known : List Target → List Target → Type 0
    Known left passed = (u : Target) → HasFile files u → In u left ⊎ In u passed

    known_next : {left passed : List Target} {t : Target} → Known left passed → (i : In t left) → Known (without left i) (passed ++ t ∷ [])
    known_next {passed = passed} {t = t} known i x h = elim (known x h) [
      | inr j ↦ inr (in_left (t ∷ []) j)
      | inl j ↦ elim (or_left i j) [
        | inl same ↦ inr (in_right passed (subst (λ (y : Target). In y (t ∷ [])) (sym same) first))
        | inr there ↦ inl there
      ]
    ]

    abbrev Shown : Type 0
    Shown = (labels : List (List ℕ)) × ShowsCycle files n labels

    -- a module that comes again closes a cycle
    closed : {passed : List Target} {t : Target} → Follows files n passed t → In t passed → AllDiffer passed → Shown
    closed {t = t} follows i differ =
        let c = cut follows i differ in (rotated (map label_text (t ∷ c.rest)), record { first = t; before = c.before; rest = c.rest; comes = c.comes; returns = c.goes; differ = c.differ; shown = refl })

    abbrev Walk : ℕ → Type 0
    Walk size = (left : List Target) → length left ≤ size → (passed : List Target) (t : Target) → Follows files n passed t → ReachesCycle files (of_module t) → AllDiffer passed → Known left passed → Shown

    one_step : (size : ℕ) → ((m : ℕ) → size ≡ suc m → Walk m) → Walk size
    one_step size later left few passed t follows c differ known = elim (among t passed) [
      | inl i ↦ closed follows i differ
      | inr apart ↦
          let next = next_of (of_module t) c in
          elim (known t (next.file, next.found)) [
            | inr i ↦ absurd (not_apart i apart)
            | inl i ↦
                let fewer : length left ≡ suc (length (without left i)) = one_less left i in
                later (size - 1) (omega (arith, few, fewer)) (without left i) (omega (arith, few, fewer)) (passed ++ t ∷ []) next.target (one_more files follows next.is_first) (reaching files next.is_first)
                (one_more_differs t passed differ apart) (known_next known i)
          ]
    ]

    walk : (size : ℕ) → Walk size
    walk zero = λ left few passed t follows c differ known. one_step zero (λ m e. absurd cc) left few passed t follows c differ known
    walk (suc size) = λ left few passed t follows c differ known. one_step (suc size) (λ m e. subst Walk (let same : size ≡ m = cc in same) (walk size)) left few passed t follows c differ known

    pub cycle_of : ReachesCycle files n → Shown
    cycle_of c =
        let next = next_of n c in
        let all = targets_of (map_of.keys files) in
        walk (length all) all (omega arith) [] next.target (once next.is_first) (reaching files next.is_first) tt (λ u h. inl (has_file files u h))
