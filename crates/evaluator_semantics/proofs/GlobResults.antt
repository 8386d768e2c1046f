-- What a call of `glob` finds by right answers.
use Rattle.std.proofs.Common.{◌≡◌, ◌∙◌, ap, sym, refl, arith, ℕ, Bool, true, List, [], ◌∷◌, length, map as each, Option, Some, None}
use Rattle.std.specs.Prelude.{is_some, filter, flat_map, not}
use Rattle.std.specs.List.{list_all}
use Rattle.std.proofs.lemmas.Bool.{and_parts}
use Rattle.std.specs.FinMap as map
use Rattle.std.specs.FinMap.Entries.{by_order}
use Rattle.std.specs.Ordering.{nat_cmp}
use Rattle.std.specs.Cmp.Lexicographic.{slice_cmp, nat_list_cmp_total}
use Rattle.std.specs.declared.cmp.Ordering.{Ordering}
use Rattle.std.specs.declared.cmp.Ordering.TheVariants.{Less, Equal, Greater}
use Rattle.labels.specs.Paths.{segments}
use Rattle.filetree.specs.Listings.{alone, sorted_names}
use Rattle.pattern.specs.Globs.{sought, question, found_below, answer_below, some_matches}
use Rattle.pattern.proofs.Answer.{found_by_patterns}
use Rattle.pattern.proofs.Questions.{has_its_pattern}
use Rattle.pattern.specs.Patterns.{is_pattern}
use Rattle.evaluator_semantics.specs.Sorting.{put_by, put, in_order}
use Rattle.evaluator_semantics.specs.Environment.{Answers}
use Rattle.evaluator_semantics.specs.Globs.{answer_to, questions, queries_without_result, found_or_none}
use Rattle.evaluator_semantics.specs.Laws.{AreRight, GlobsFindFiles}
use Rattle.evaluator_semantics.proofs.MoreAnswers.{first_answered}

-- ---- names in byte order are the keys of a map that has them

abbrev itself : List ℕ → List ℕ
itself n = n

keys_put : (k : List ℕ) (v : ℕ) (es : List (List ℕ × ℕ)) → each (λ e. e.0) (map.put (slice_cmp nat_cmp) k v es) ≡ put itself k (each (λ e. e.0) es)
keys_put k v [] = refl
keys_put k v (e ∷ es) = go (slice_cmp nat_cmp k e.0) (keys_put k v es)
  where
    go : (o : Ordering) → each (λ e. e.0) (map.put (slice_cmp nat_cmp) k v es) ≡ put itself k (each (λ e. e.0) es)
        → each (λ e. e.0) (by_order o ((k, v) ∷ e ∷ es) ((e.0, v) ∷ es) (e ∷ map.put (slice_cmp nat_cmp) k v es)) ≡ put_by o k e.0 (each (λ e. e.0) es) (put itself k (each (λ e. e.0) es))
    go Less h = refl
    go Equal h = refl
    go Greater h = ap (λ xs. e.0 ∷ xs) h

nothing : (es : List (List ℕ × ℕ)) → length es ≡ 0 → es ≡ []
nothing [] h = refl
nothing (e ∷ es) h = absurd (omega arith)

no_entries : map.entries (map.empty {X = ℕ} {R = slice_cmp nat_cmp}) ≡ []
no_entries = nothing _ (sym (map.len-entries (map.empty {X = ℕ} {R = slice_cmp nat_cmp})) ∙ map.len-empty (slice_cmp nat_cmp) ℕ)

in_order_sorted : (ns : List (List ℕ)) → in_order itself ns ≡ sorted_names ns
in_order_sorted [] = sym (ap (λ es. each (λ e. e.0) es) no_entries)
in_order_sorted (n ∷ ns) =
    ap (put itself n) (in_order_sorted ns)
    ∙ sym (keys_put n 0 (map.entries (map.from_entries {R = slice_cmp nat_cmp} (each alone ns))))
    ∙ sym (ap (λ fs. each (λ e. e.0) fs) (map.entries-insert nat_list_cmp_total (map.from_entries (each alone ns)) n 0))

-- ---- right answers

right_at : (answers : Answers) (packages : List ℕ → Bool) (paths : List (List ℕ)) (directory : List ℕ) → AreRight answers packages paths directory
    → (q : List ℕ) → is_some (answer_to q answers) ≡ true → found_or_none (answer_to q answers) ≡ answer_below packages paths directory q
right_at answers packages paths directory right q = go (answer_to q answers) refl
  where
    go : (a : Option (List (List ℕ))) → answer_to q answers ≡ a → is_some a ≡ true → found_or_none a ≡ answer_below packages paths directory q
    go None e h = cc
    go (Some below) e h = right q below e

-- what a pattern's question finds
by_pattern : (packages : List ℕ → Bool) (paths : List (List ℕ)) (directory : List ℕ) (dirs : Bool) (p : List ℕ) → is_pattern p ≡ true
    → answer_below packages paths directory (question dirs p) ≡ found_below packages (sought dirs packages paths) directory (segments p)
by_pattern packages paths directory dirs p good = let h = has_its_pattern dirs p good in
    λ i. found_below packages (sought (h.1 i) packages paths) directory (segments (h.0 i))

all_found : (answers : Answers) (packages : List ℕ → Bool) (paths : List (List ℕ)) (directory : List ℕ) (dirs : Bool) → AreRight answers packages paths directory
    → (ps : List (List ℕ)) → list_all is_pattern ps ≡ true → queries_without_result answers [] (each (question dirs) ps) ≡ []
    → flat_map (λ q. found_or_none (answer_to q answers)) (each (question dirs) ps) ≡ flat_map (found_below packages (sought dirs packages paths) directory) (each segments ps)
all_found answers packages paths directory dirs right [] good e = refl
all_found answers packages paths directory dirs right (p ∷ ps) good e =
    let h = first_answered answers (question dirs p) (each (question dirs) ps) e in
    let both = and_parts (is_pattern p) (list_all is_pattern ps) good in
    rw (right_at answers packages paths directory right (question dirs p) h.0 ∙ by_pattern packages paths directory dirs p both.0, all_found answers packages paths directory dirs right ps both.1 h.1) refl

pub globs_find : GlobsFindFiles
globs_find answers packages paths directory g good right e =
    in_order_sorted (filter (λ path. not (some_matches (each segments g.excludes) path)) (flat_map (λ q. found_or_none (answer_to q answers)) (questions g)))
    ∙ ap (λ xs. sorted_names (filter (λ path. not (some_matches (each segments g.excludes) path)) xs)) (all_found answers packages paths directory g.directories right g.includes good e)
    ∙ sym (found_by_patterns packages (sought g.directories packages paths) directory (each segments g.includes) (each segments g.excludes))
