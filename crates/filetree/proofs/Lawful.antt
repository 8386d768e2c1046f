-- Edits keep it so that each file has a path.
use Rattle.std.proofs.Common.{◌≡◌, ◌∙◌, ap, sym, refl, ℕ, suc, Bool, true, false, cond, not, ◌||◌, List, [], ◌∷◌, Option, Some, None, inl, inr}
use Rattle.std.specs.Prelude.{is_some, nat_lt, length}
use Rattle.std.specs.FinMap as map
use Rattle.std.specs.List.{list_any, list_all}
use Rattle.std.specs.Ordering.{nat_cmp, eq_by_cmp}
use Rattle.std.specs.Cmp.Lexicographic.{slice_cmp, nat_list_cmp_total}
use Rattle.std.proofs.lemmas.Bool.{and_parts, and_from, or_cases, false≢true}
use Rattle.std.proofs.lemmas.Map.Text.{is_eq-slice_cmp}
use Rattle.labels.specs.Paths.{is_path}
use Rattle.filetree.specs.Files.{Files, put_refusal, is_below_a_file, is_directory, text_limit}
use Rattle.filetree.specs.Changes.{Change, put, del, change_refusal, files_after_change, first_refused, refused_or, all_changed}
use Rattle.filetree.specs.Lawful.{HasPaths, EditsKeepPaths}
use Rattle.filetree.proofs.Slashes.{same_bytes, own_bytes}

pub same_key : (q k : List ℕ) → eq_by_cmp (slice_cmp nat_cmp) q k ≡ true → q ≡ k
same_key q k h = same_bytes q k (sym (is_eq-slice_cmp q k) ∙ h)

own_key : (k : List ℕ) → eq_by_cmp (slice_cmp nat_cmp) k k ≡ true
own_key k = is_eq-slice_cmp k k ∙ own_bytes k

later : (a b : Bool) → b ≡ true → a || b ≡ true
later true b h = refl
later false b h = h

all_from : (ks : List (List ℕ)) → ((q : List ℕ) → list_any (eq_by_cmp (slice_cmp nat_cmp) q) ks ≡ true → is_path q ≡ true) → list_all is_path ks ≡ true
all_from [] h = refl
all_from (k ∷ ks) h =
    and_from (is_path k) (list_all is_path ks) (h k (ap (λ b. b || list_any (eq_by_cmp (slice_cmp nat_cmp) k) ks) (own_key k)))
    (all_from ks (λ q there. h q (later (eq_by_cmp (slice_cmp nat_cmp) q k) (list_any (eq_by_cmp (slice_cmp nat_cmp) q) ks) there)))

all_to : (ks : List (List ℕ)) (q : List ℕ) → list_all is_path ks ≡ true → list_any (eq_by_cmp (slice_cmp nat_cmp) q) ks ≡ true → is_path q ≡ true
all_to [] q all h = absurd (false≢true h)
all_to (k ∷ ks) q all h =
    let both = and_parts (is_path k) (list_all is_path ks) all in
    elim (or_cases (eq_by_cmp (slice_cmp nat_cmp) q k) (list_any (eq_by_cmp (slice_cmp nat_cmp) q) ks) h) [
      | inl here ↦ ap is_path (same_key q k here) ∙ both.0
      | inr there ↦ all_to ks q both.1 there
    ]

paths_from : (files : Files) → ((q : List ℕ) → is_some (map.get files q) ≡ true → is_path q ≡ true) → HasPaths files
paths_from files h = all_from (map.keys files) (λ q there. h q (map.contains_key-keys files q ∙ there))

paths_to : (files : Files) (q : List ℕ) → HasPaths files → is_some (map.get files q) ≡ true → is_path q ≡ true
paths_to files q all h = all_to (map.keys files) q all (sym (map.contains_key-keys files q) ∙ h)

abbrev some_number : ℕ → Option ℕ
some_number n = Some n

not_none : (n : ℕ) → Some n ≡ None → ⊥
not_none n h = cc

abbrev later_refusal : Files → List ℕ → List ℕ → Option ℕ
later_refusal files path text = cond (nat_lt text_limit (length text)) (some_number 7) (cond (is_below_a_file files path || is_directory files path) (some_number 3) None)

good_at : (b : Bool) (o : Option ℕ) → cond (not b) (some_number 2) o ≡ None → b ≡ true
good_at true o h = refl
good_at false o h = absurd (not_none 2 h)

pub good_path : (files : Files) (path text : List ℕ) → put_refusal files path text ≡ None → is_path path ≡ true
good_path files path text h = good_at (is_path path) (later_refusal files path text) h

puts_keep : (files : Files) (path text : List ℕ) → HasPaths files → put_refusal files path text ≡ None → HasPaths (map.insert files path text)
puts_keep files path text all told = paths_from (map.insert files path text) (λ q h.
    elim (eq_by_cmp (slice_cmp nat_cmp) q path) as (λ b. eq_by_cmp (slice_cmp nat_cmp) q path ≡ b → is_some (cond b (Some text) (map.get files q)) ≡ true → is_path q ≡ true) [
      | true ↦ λ e g. ap is_path (same_key q path e) ∙ good_path files path text told
      | false ↦ λ e g. paths_to files q all g
    ] refl (sym (ap is_some (map.get-insert nat_list_cmp_total files path text q)) ∙ h))

removals_keep : (files : Files) (path : List ℕ) → HasPaths files → HasPaths (map.remove files path)
removals_keep files path all = paths_from (map.remove files path) (λ q h.
    elim (eq_by_cmp (slice_cmp nat_cmp) q path) as (λ b. is_some (cond b None (map.get files q)) ≡ true → is_path q ≡ true) [
      | true ↦ λ g. absurd (false≢true g)
      | false ↦ λ g. paths_to files q all g
    ] (sym (ap is_some (map.get-remove nat_list_cmp_total files path q)) ∙ h))

change_keeps : (c : Change) (files : Files) → HasPaths files → change_refusal c files ≡ None → HasPaths (files_after_change c files)
change_keeps (put path text) files all told = puts_keep files path text all told
change_keeps (del path) files all told = removals_keep files path all

changes_keep : (at : ℕ) (cs : List Change) (files : Files) → HasPaths files → first_refused at cs files ≡ None → HasPaths (all_changed cs files)
changes_keep at [] files all told = all
changes_keep at (c ∷ cs) files all told = go (λ kept h. changes_keep (suc at) cs (files_after_change c files) kept h) (change_refusal c files) refl told
  where
    go : (HasPaths (files_after_change c files) → first_refused (suc at) cs (files_after_change c files) ≡ None → HasPaths (all_changed cs (files_after_change c files)))
        → (o : Option ℕ) → change_refusal c files ≡ o → refused_or at o (first_refused (suc at) cs (files_after_change c files)) ≡ None → HasPaths (all_changed cs (files_after_change c files))
    go more None e h = more (change_keeps c files all e) h
    go more (Some n) e h = absurd cc

pub edits_keep_paths : EditsKeepPaths
edits_keep_paths = (
  paths_from map.empty (λ q h. absurd (false≢true (sym (ap is_some (map.get-empty {X = List ℕ} (slice_cmp nat_cmp) q)) ∙ h))),
  puts_keep,
  removals_keep,
  λ files changes all told. changes_keep 0 changes files all told,
)
