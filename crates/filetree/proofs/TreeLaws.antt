-- Edits make trees alone.
use Rattle.std.proofs.Common.{◌≡◌, ◌∙◌, ap, sym, subst, refl, ℕ, suc, ◌≤◌, ◌⊎◌, Bool, true, false, cond, not, ◌||◌, ◌&&◌, List, [], ◌∷◌, Option, Some, None, inl, inr, arith}
use Rattle.std.specs.Prelude.{is_some, nat_lt, nat_eq, length, ◌==◌, slice_index}
use Rattle.std.specs.FinMap as map
use Rattle.std.specs.List.{list_any, starts_with}
use Rattle.std.specs.Ordering.{nat_cmp, eq_by_cmp}
use Rattle.std.specs.Cmp.Lexicographic.{slice_cmp, nat_list_cmp_total}
use Rattle.std.proofs.lemmas.Bool.{false≢true, ltb-false}
use Rattle.std.proofs.lemmas.List.{get_or_past}
use Rattle.labels.specs.Paths.{is_path}
use Rattle.filetree.specs.Files.{Files, put_refusal, is_ancestor, is_file, is_below_a_file, is_directory, text_limit}
use Rattle.filetree.specs.Changes.{Change, put, del, change_refusal, files_after_change, first_refused, refused_or, all_changed}
use Rattle.filetree.specs.Trees.{AreATree, EditsMakeTrees}
use Rattle.filetree.proofs.Lawful.{same_key, good_path}

either : (a b : Bool) → a || b ≡ false → (a ≡ false) × (b ≡ false)
either true b h = absurd cc
either false b h = (refl, h)

never_both : (a b : Bool) → b ≡ false → a && b ≡ false
never_both true b h = h
never_both false b h = refl

-- what no key passes, none of them passes
none_of : (test : List ℕ → Bool) (keys : List (List ℕ)) (q : List ℕ) → list_any test keys ≡ false → list_any (eq_by_cmp (slice_cmp nat_cmp) q) keys ≡ true → test q ≡ false
none_of test [] q none there = absurd (false≢true there)
none_of test (k ∷ keys) q none there =
    let parts = either (test k) (list_any test keys) none in
    elim (eq_by_cmp (slice_cmp nat_cmp) q k) as (λ b. eq_by_cmp (slice_cmp nat_cmp) q k ≡ b → b || list_any (eq_by_cmp (slice_cmp nat_cmp) q) keys ≡ true → test q ≡ false) [
      | true ↦ λ e h. ap test (same_key q k e) ∙ parts.0
      | false ↦ λ e h. none_of test keys q parts.1 h
    ] refl there

none_there : (test : List ℕ → Bool) (files : Files) (q : List ℕ) → list_any test (map.keys files) ≡ false → is_file files q ≡ true → test q ≡ false
none_there test files q none there = none_of test (map.keys files) q none (sym (map.contains_key-keys files q) ∙ there)

-- no path lies below itself
not_below_itself : (path : List ℕ) → is_ancestor path path ≡ false
not_below_itself path = never_both (starts_with nat_eq path path) (slice_index path (length path) == 47) (ap (λ n. n == 47) (get_or_past path (length path) 0 (omega arith)))

-- what a put that is not refused has found out
after_path : (b : Bool) (n : ℕ) (o : Option ℕ) → cond (not b) (Some n) o ≡ None → o ≡ None
after_path true n o h = h
after_path false n o h = absurd cc

passed_over : (b : Bool) (n : ℕ) (o : Option ℕ) → cond b (Some n) o ≡ None → (b ≡ false) × (o ≡ None)
passed_over true n o h = absurd cc
passed_over false n o h = (refl, h)

short_text : (n : ℕ) → nat_lt text_limit n ≡ false → n ≤ text_limit
short_text n h = ltb-false text_limit n h

record Allowed (files : Files) (path text : List ℕ) : Type 0 where
  short : length text ≤ text_limit
  above : is_below_a_file files path ≡ false
  below : is_directory files path ≡ false

allowed : (files : Files) (path text : List ℕ) → put_refusal files path text ≡ None → Allowed files path text
allowed files path text told =
    let long = passed_over (nat_lt text_limit (length text)) _ _ (after_path (is_path path) _ _ told) in
    let way = passed_over (is_below_a_file files path || is_directory files path) _ _ long.1 in
    let both = either (is_below_a_file files path) (is_directory files path) way.0 in
    record { short = short_text (length text) long.0; above = both.0; below = both.1 }

-- a file after a put is the one that was put, or one from before
put_or_before : (files : Files) (path text q : List ℕ) → is_file (map.insert files path text) q ≡ true → (q ≡ path) ⊎ (is_file files q ≡ true)
put_or_before files path text q h =
    elim (eq_by_cmp (slice_cmp nat_cmp) q path) as (λ b. eq_by_cmp (slice_cmp nat_cmp) q path ≡ b → is_some (cond b (Some text) (map.get files q)) ≡ true → (q ≡ path) ⊎ (is_file files q ≡ true)) [
      | true ↦ λ e g. inl (same_key q path e)
      | false ↦ λ e g. inr g
    ] refl (sym (ap is_some (map.get-insert nat_list_cmp_total files path text q)) ∙ h)

put_makes_a_tree : (files : Files) (path text : List ℕ) → AreATree files → put_refusal files path text ≡ None → AreATree (map.insert files path text)
put_makes_a_tree files path text tree told =
    let can = allowed files path text told in
    record {
      paths = λ q h. elim (put_or_before files path text q h) [
        | inl new ↦ ap is_path new ∙ good_path files path text told
        | inr old ↦ tree.paths q old
      ];
      apart = λ p q h k. elim (put_or_before files path text p h) [
        | inl one ↦ ap (λ x. is_ancestor x q) one ∙ elim (put_or_before files path text q k) [
          | inl other ↦ ap (λ x. is_ancestor path x) other ∙ not_below_itself path
          | inr other ↦ none_there (λ file. is_ancestor path file) files q can.below other
        ]
        | inr one ↦ elim (put_or_before files path text q k) [
          | inl other ↦ ap (λ x. is_ancestor p x) other ∙ none_there (λ file. is_ancestor file path) files p can.above one
          | inr other ↦ tree.apart p q one other
        ]
      ];
      texts = λ q there h.
          elim (eq_by_cmp (slice_cmp nat_cmp) q path) as (λ b. cond b (Some text) (map.get files q) ≡ Some there → length there ≤ text_limit) [
            | true ↦ λ g. subst (λ (x : List ℕ). length x ≤ text_limit) (cc g) can.short
            | false ↦ λ g. tree.texts q there g
          ] (sym (map.get-insert nat_list_cmp_total files path text q) ∙ h);
    }

kept_by_removal : (files : Files) (path q : List ℕ) → is_file (map.remove files path) q ≡ true → is_file files q ≡ true
kept_by_removal files path q h =
    elim (eq_by_cmp (slice_cmp nat_cmp) q path) as (λ b. is_some (cond b None (map.get files q)) ≡ true → is_file files q ≡ true) [
      | true ↦ λ g. absurd (false≢true g)
      | false ↦ λ g. g
    ] (sym (ap is_some (map.get-remove nat_list_cmp_total files path q)) ∙ h)

removal_makes_a_tree : (files : Files) (path : List ℕ) → AreATree files → AreATree (map.remove files path)
removal_makes_a_tree files path tree = record {
  paths = λ q h. tree.paths q (kept_by_removal files path q h);
  apart = λ p q h k. tree.apart p q (kept_by_removal files path p h) (kept_by_removal files path q k);
  texts = λ q there h.
      elim (eq_by_cmp (slice_cmp nat_cmp) q path) as (λ b. cond b None (map.get files q) ≡ Some there → length there ≤ text_limit) [
        | true ↦ λ g. absurd cc
        | false ↦ λ g. tree.texts q there g
      ] (sym (map.get-remove nat_list_cmp_total files path q) ∙ h);
}

change_makes_a_tree : (c : Change) (files : Files) → AreATree files → change_refusal c files ≡ None → AreATree (files_after_change c files)
change_makes_a_tree (put path text) files tree told = put_makes_a_tree files path text tree told
change_makes_a_tree (del path) files tree told = removal_makes_a_tree files path tree

changes_make_a_tree : (at : ℕ) (cs : List Change) (files : Files) → AreATree files → first_refused at cs files ≡ None → AreATree (all_changed cs files)
changes_make_a_tree at [] files tree told = tree
changes_make_a_tree at (c ∷ cs) files tree told = go (λ kept h. changes_make_a_tree (suc at) cs (files_after_change c files) kept h) (change_refusal c files) refl told
  where
    go : (AreATree (files_after_change c files) → first_refused (suc at) cs (files_after_change c files) ≡ None → AreATree (all_changed cs (files_after_change c files)))
        → (o : Option ℕ) → change_refusal c files ≡ o → refused_or at o (first_refused (suc at) cs (files_after_change c files)) ≡ None → AreATree (all_changed cs (files_after_change c files))
    go more None e h = more (change_makes_a_tree c files tree e) h
    go more (Some n) e h = absurd cc

pub edits_make_trees : EditsMakeTrees
edits_make_trees = (
  record {
    paths = λ q h. absurd (false≢true (sym (ap is_some (map.get-empty {X = List ℕ} (slice_cmp nat_cmp) q)) ∙ h));
    apart = λ p q h k. absurd (false≢true (sym (ap is_some (map.get-empty {X = List ℕ} (slice_cmp nat_cmp) p)) ∙ h));
    texts = λ q there h. absurd (let e = sym (map.get-empty {X = List ℕ} (slice_cmp nat_cmp) q) ∙ h in cc e);
  },
  λ files changes tree told. changes_make_a_tree 0 changes files tree told,
)
