-- The labels whose file is among some paths: finitely many.
use Rattle.std.proofs.Common.{◌≡◌, ℕ, suc, List, [], ◌∷◌, ◌++◌, length, Bool, true, false, cond, ◌==◌, ◌⊎◌, inl, inr, refl, sym, ap, subst, ◌∙◌, arith}
use Rattle.std.specs.Prelude.{is_some}
use Rattle.std.specs.List.{list_any}
use Rattle.std.specs.FinMap as map_of
use Rattle.std.specs.Ordering.{nat_cmp, eq_by_cmp}
use Rattle.std.specs.Cmp.Lexicographic.{slice_cmp}
use Rattle.std.proofs.lemmas.Bool.{or_cases, false≢true, eqb-true}
use Rattle.std.proofs.lemmas.List.{append_assoc, append-nil}
use Rattle.std.proofs.lemmas.Map.Lookups.{exact_bytes}
use Rattle.std.proofs.lemmas.Map.Views.{tells_apart}
use Rattle.engine_semantics.specs.Value.{In, first, after}
use Rattle.labels.specs.Labels.{Target, joined, label_file}
use Rattle.filetree.specs.Files.{Files}

-- ---- members of lists

pub in_left : {X : Type 0} {x : X} {xs : List X} (ys : List X) → In x xs → In x (xs ++ ys)
in_left ys first = first
in_left ys (after i) = after (in_left ys i)

pub in_right : {X : Type 0} {x : X} (xs : List X) {ys : List X} → In x ys → In x (xs ++ ys)
in_right [] i = i
in_right (y ∷ xs) i = after (in_right xs i)

-- the list without the element at a place
pub without : {X : Type 0} {x : X} (xs : List X) → In x xs → List X
without [] i = elim i [ ]
without (x ∷ xs) first = xs
without (y ∷ xs) (after i) = y ∷ without xs i

pub one_less : {X : Type 0} {x : X} (xs : List X) (i : In x xs) → length xs ≡ suc (length (without xs i))
unfolding without
one_less [] i = elim i [ ]
one_less (x ∷ xs) first = refl
one_less (y ∷ xs) (after i) = ap suc (one_less xs i)

-- a member of the list is that element, or is left
pub or_left : {X : Type 0} {x y : X} {xs : List X} (i : In x xs) → In y xs → (y ≡ x) ⊎ In y (without xs i)
unfolding without
or_left first first = inl refl
or_left first (after j) = inr j
or_left (after i) first = inr first
or_left (after i) (after j) = elim (or_left i j) [
  | inl same ↦ inl same
  | inr left ↦ inr (after left)
]

-- ---- labels of a path

-- a package before each slash, and the rest
cuts : (before path : List ℕ) → List Target
cuts before [] = []
cuts before (b ∷ path) = record { package_name = before; name = path } ∷ cuts (before ++ b ∷ []) path

targets_at : List ℕ → List Target
targets_at path = record { package_name = []; name = path } ∷ cuts [] path

pub targets_of : List (List ℕ) → List Target
targets_of [] = []
targets_of (path ∷ paths) = targets_at path ++ targets_of paths

in_cuts : (before package_name name : List ℕ) → In (record { package_name = before ++ package_name; name = name }) (cuts before (package_name ++ 47 ∷ name))
unfolding cuts
in_cuts before [] name = subst (λ (p : List ℕ). In (record { package_name = p; name = name }) (cuts before (47 ∷ name))) (sym (append-nil before)) first
in_cuts before (b ∷ package_name) name =
    after (subst (λ (p : List ℕ). In (record { package_name = p; name = name }) (cuts (before ++ b ∷ []) (package_name ++ 47 ∷ name))) (append_assoc before (b ∷ []) package_name) (in_cuts (before ++ b ∷ []) package_name name))

in_targets_at : (package_name name : List ℕ) → In (record { package_name = package_name; name = name }) (targets_at (joined package_name name))
unfolding targets_at
in_targets_at [] name = first
in_targets_at (b ∷ package_name) name = go (suc (length package_name) == 0) refl
  where
    go : (c : Bool) → suc (length package_name) == 0 ≡ c → In (record { package_name = b ∷ package_name; name = name }) (targets_at (cond c name (b ∷ (package_name ++ 47 ∷ name))))
    go true e = absurd (omega (arith, eqb-true (suc (length package_name)) 0 e))
    go false e = after (in_cuts [] (b ∷ package_name) name)

abbrev same : List ℕ → List ℕ → Bool
same = eq_by_cmp (slice_cmp nat_cmp)

in_targets_of : (t : Target) (paths : List (List ℕ)) → list_any (same (label_file t)) paths ≡ true → In t (targets_of paths)
unfolding targets_of
in_targets_of t [] h = absurd (false≢true h)
in_targets_of t (path ∷ paths) h = elim (or_cases (same (label_file t) path) (list_any (same (label_file t)) paths) h) [
  | inl here ↦ in_left (targets_of paths) (subst (λ (p : List ℕ). In t (targets_at p)) (tells_apart exact_bytes (label_file t) path here) (in_targets_at t.package_name t.name))
  | inr there ↦ in_right (targets_at path) (in_targets_of t paths there)
]

-- all labels whose file is there
pub in_targets : (files : Files) (t : Target) → is_some (map_of.get files (label_file t)) ≡ true → In t (targets_of (map_of.keys files))
in_targets files t there = in_targets_of t (map_of.keys files) (sym (map_of.contains_key-keys files (label_file t)) ∙ there)
