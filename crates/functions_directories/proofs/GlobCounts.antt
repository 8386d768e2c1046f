-- How many globs a glob asks.
use Rattle.std.proofs.Common.{◌≡◌, ◌∙◌, ap, sym, ℕ, suc, Bool, true, false, cond, List, ◌∷◌, length, nat_lt, nat_le, arith}
use Rattle.std.proofs.lemmas.List.{length-map}
use Rattle.std.proofs.lemmas.Bool.Decides.{nat_tests}
use Rattle.keys.specs.declared.key.Key.TheVariants as key
use Rattle.pattern.specs.Globs.{path_in}
use Rattle.functions_directories.specs.Globs.{globs, globs_below, asks_here, pattern_below, other_segments, text_or_none}

below_count : (directory : List ℕ) (directories : Bool) (pattern : List ℕ) (names : List (List ℕ)) → length (globs_below directory directories pattern names) ≡ length names
below_count directory directories pattern names = length-map names (λ name. key.Glob (path_in directory name) pattern directories)

one_more_test : (a n : ℕ) → nat_le a n ≡ nat_lt a (suc n)
one_more_test a n = grind (arith, nat_tests)

-- the glob of the directory itself is one more
pub count_here : (a : ℕ) (directory : List ℕ) (directories : Bool) (pattern : List ℕ) (names : List (List ℕ)) → asks_here pattern ≡ true
    → nat_le a (length names) ≡ nat_lt a (length (globs directory directories pattern names))
count_here a directory directories pattern names h =
    let below = globs_below directory directories (pattern_below pattern) names in
    one_more_test a (length names) ∙ ap (λ n. nat_lt a (suc n)) (sym (below_count directory directories (pattern_below pattern) names))
    ∙ ap (λ b. nat_lt a (length (cond b (key.Glob directory (text_or_none (other_segments pattern)) directories ∷ below) below))) (sym h)

pub count_below : (a : ℕ) (directory : List ℕ) (directories : Bool) (pattern : List ℕ) (names : List (List ℕ)) → asks_here pattern ≡ false
    → nat_lt a (length names) ≡ nat_lt a (length (globs directory directories pattern names))
count_below a directory directories pattern names h =
    let below = globs_below directory directories (pattern_below pattern) names in
    ap (nat_lt a) (sym (below_count directory directories (pattern_below pattern) names))
    ∙ ap (λ b. nat_lt a (length (cond b (key.Glob directory (text_or_none (other_segments pattern)) directories ∷ below) below))) (sym h)
