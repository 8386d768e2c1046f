-- Lists with the same texts are the same in order.
use Rattle.std.proofs.Common.{◌≡◌, ℕ, suc, ◌+◌, ◌<◌, Bool, true, false, cond, List, [], ◌∷◌, ◌++◌, length, drop, take, get_or, map, refl, ap, sym, subst, ◌∙◌, append_assoc, append-nil, add-one, arith, zero, ◌≤◌}
use Rattle.std.specs.Prelude.{◌||◌, if◌then◌else◌, not}
use Rattle.std.specs.Ordering.{nat_cmp, ordering_reverse, is_eq}
use Rattle.std.specs.Cmp.Lexicographic.{slice_cmp, nat_list_cmp_total}
use Rattle.std.specs.declared.cmp.Ordering.{Ordering}
use Rattle.std.specs.declared.cmp.Ordering.TheVariants.{Less, Equal, Greater}
use Rattle.std.proofs.lemmas.Map.Text.{is_eq-slice_cmp}
use Rattle.std.proofs.Math.Seq.{take-suc}
use lib.Pointwise.{bytes_decides}
use Rattle.values_semantics.specs.Comparing.{same_text}
use Rattle.evaluator_semantics.specs.Environment.{Answers}
use Rattle.evaluator_semantics.specs.Globs.{answer_to, found_or_none}
use Rattle.evaluator_semantics.specs.Names.{has_name}
use Rattle.evaluator_semantics.specs.Sorting.{put_by, put, in_order, RisesFrom, Rises}
use Rattle.evaluator_semantics.proofs.Rising.{in_order_rises}
use Rattle.evaluator_package_calls.specs.GlobResults.{kept_unless, found_all}
use Rattle.evaluator_package_calls.specs.SameTexts.{HasSame, with_text}
use Rattle.evaluator_package_calls.proofs.Gathering.{has-append, kept-append}
use Rattle.values_builtins.proofs.Rows.{drop_item}

-- a text by itself, as its own name
abbrev pub itself : List ℕ → List ℕ
itself text = text

alike : (x y : List ℕ) → same_text x y ≡ true → x ≡ y
alike x y h = (bytes_decides x y).0 h

same_self : (x : List ℕ) → same_text x x ≡ true
same_self x = (bytes_decides x x).1 refl

decided : (x y : List ℕ) (o : Ordering) → slice_cmp nat_cmp x y ≡ o → same_text x y ≡ is_eq o
decided x y o e = sym (is_eq-slice_cmp x y) ∙ ap is_eq e

-- ---- what is in order has the same texts

chosen : (s : Bool) (p q : Bool) → (if s then true else (p || q)) ≡ (p || (if s then true else q))
chosen true true q = refl
chosen true false q = refl
chosen false p q = refl

or_same : (p q : Bool) → (p ≡ true → q ≡ true) → q ≡ (p || q)
or_same true q h = h refl
or_same false q h = refl

has_put : (x p : List ℕ) (ys : List (List ℕ)) → has_name x (put itself p ys) ≡ ((if same_text x p then true else false) || has_name x ys)
has_put x p [] = by (same_text x p)
  where
    by : (s : Bool) → (if s then true else false) ≡ ((if s then true else false) || false)
    by true = refl
    by false = refl
has_put x p (y ∷ ys) = go (slice_cmp nat_cmp p y) refl (has_put x p ys)
  where
    first : (s : Bool) (q : Bool) → (if s then true else q) ≡ ((if s then true else false) || q)
    first true q = refl
    first false q = refl

    equal : slice_cmp nat_cmp p y ≡ Equal → (if same_text x p then true else false) ≡ true → has_name x (y ∷ ys) ≡ true
    equal e h = by (same_text x p) refl h
      where
        by : (s : Bool) → same_text x p ≡ s → (if s then true else false) ≡ true → has_name x (y ∷ ys) ≡ true
        by true g h = ap (λ b. if b then true else has_name x ys) (ap (same_text x) (sym (alike p y (decided p y Equal e))) ∙ g)
        by false g h = cc

    go : (o : Ordering) → slice_cmp nat_cmp p y ≡ o → has_name x (put itself p ys) ≡ ((if same_text x p then true else false) || has_name x ys) → has_name x (put_by o p y ys (put itself p ys)) ≡ ((if same_text x p then true else false) || has_name x (y ∷ ys))
    go Less e more = first (same_text x p) (has_name x (y ∷ ys))
    go Equal e more = or_same (if same_text x p then true else false) (has_name x (y ∷ ys)) (equal e)
    go Greater e more = ap (λ b. if same_text x y then true else b) more ∙ chosen (same_text x y) (if same_text x p then true else false) (has_name x ys)

has_in_order : (x : List ℕ) (ys : List (List ℕ)) → has_name x (in_order itself ys) ≡ has_name x ys
has_in_order x [] = refl
has_in_order x (y ∷ ys) = has_put x y (in_order itself ys) ∙ ap (λ b. (if same_text x y then true else false) || b) (has_in_order x ys) ∙ by (same_text x y)
  where
    by : (s : Bool) → ((if s then true else false) || has_name x ys) ≡ (if s then true else has_name x ys)
    by true = refl
    by false = refl

-- ---- lists that rise

-- what is before a list that rises is not in it
not_behind : (x y : List ℕ) (ys : List (List ℕ)) → slice_cmp nat_cmp x y ≡ Less → RisesFrom y ys → has_name x (y ∷ ys) ≡ false
not_behind x y [] e r = ap (λ b. if b then true else false) (decided x y Less e)
not_behind x y (z ∷ zs) e r = ap (λ b. if b then true else has_name x (z ∷ zs)) (decided x y Less e) ∙ not_behind x z zs (nat_list_cmp_total.trans x y z e r.0) r.1

not_in_rest : (x : List ℕ) (ys : List (List ℕ)) → RisesFrom x ys → has_name x ys ≡ false
not_in_rest x [] r = refl
not_in_rest x (y ∷ ys) r = not_behind x y ys r.0 r.1

rest_rises : (x : List ℕ) (ys : List (List ℕ)) → RisesFrom x ys → Rises ys
rest_rises x [] r = tt
rest_rises x (y ∷ ys) r = r.1

has_first : (x : List ℕ) (xs : List (List ℕ)) → has_name x (x ∷ xs) ≡ true
has_first x xs = ap (λ b. if b then true else has_name x xs) (same_self x)

turned : (x y : List ℕ) → slice_cmp nat_cmp x y ≡ Greater → slice_cmp nat_cmp y x ≡ Less
turned x y e = nat_list_cmp_total.antisymm y x ∙ ap ordering_reverse e

not_both : {X : Type 0} → true ≡ false → X
not_both e = cc

-- lists that rise and have the same texts are the same
same_rising : (xs ys : List (List ℕ)) → Rises xs → Rises ys → HasSame xs ys → xs ≡ ys
same_rising [] [] r t h = refl
same_rising [] (y ∷ ys) r t h = not_both (sym (has_first y ys) ∙ sym (h y))
same_rising (x ∷ xs) [] r t h = not_both (sym (has_first x xs) ∙ h x)
same_rising (x ∷ xs) (y ∷ ys) r t h = go (slice_cmp nat_cmp x y) refl (same_rising xs ys (rest_rises x xs r) (rest_rises y ys t))
  where
    rests : x ≡ y → HasSame xs ys
    rests e z = by (same_text z x) refl
      where
        u : RisesFrom x ys
        u = subst (λ w. RisesFrom w ys) (sym e) t

        g : has_name z (x ∷ xs) ≡ has_name z (x ∷ ys)
        g = h z ∙ ap (λ w. has_name z (w ∷ ys)) (sym e)

        by : (s : Bool) → same_text z x ≡ s → has_name z xs ≡ has_name z ys
        by true q = ap (λ w. has_name w xs) (alike z x q) ∙ not_in_rest x xs r ∙ sym (not_in_rest x ys u) ∙ ap (λ w. has_name w ys) (sym (alike z x q))
        by false q = ap (λ b. if b then true else has_name z xs) (sym q) ∙ g ∙ ap (λ b. if b then true else has_name z ys) q

    go : (o : Ordering) → slice_cmp nat_cmp x y ≡ o → (HasSame xs ys → xs ≡ ys) → x ∷ xs ≡ y ∷ ys
    go Less e more = not_both (sym (has_first x xs) ∙ h x ∙ not_behind x y ys e t)
    go Equal e more = let s = alike x y (decided x y Equal e) in ap (λ l. x ∷ l) (more (rests s)) ∙ ap (λ w. w ∷ ys) s
    go Greater e more = not_both (sym (has_first y ys) ∙ sym (h y) ∙ not_behind y x xs (turned x y e) r)

each_itself : (xs : List (List ℕ)) → map itself xs ≡ xs
each_itself [] = refl
each_itself (x ∷ xs) = ap (λ l. x ∷ l) (each_itself xs)

rises : (xs : List (List ℕ)) → Rises (in_order itself xs)
rises xs = subst Rises (each_itself (in_order itself xs)) (in_order_rises itself xs)

pub same_in_order : (xs ys : List (List ℕ)) → HasSame xs ys → in_order itself xs ≡ in_order itself ys
same_in_order xs ys h = same_rising (in_order itself xs) (in_order itself ys) (rises xs) (rises ys) (λ x. has_in_order x xs ∙ h x ∙ sym (has_in_order x ys))

-- ---- what a question finds

-- where it was asked before, nothing more
has_found : (answers : Answers) (test : List ℕ → Bool) (q x : List ℕ) (qs : List (List ℕ)) → has_name q qs ≡ true → has_name x (kept_unless test (found_or_none (answer_to q answers))) ≡ true → has_name x (kept_unless test (found_all answers qs)) ≡ true
has_found answers test q x [] h g = not_both (sym h)
has_found answers test q x (r ∷ rs) h g =
    let found : List ℕ → List (List ℕ) = λ t. found_or_none (answer_to t answers) in
    ap (has_name x) (kept-append test (found r) (found_all answers rs)) ∙ has-append x (kept_unless test (found r)) (kept_unless test (found_all answers rs))
    ∙ by (same_text q r) refl h (λ k. has_found answers test q x rs k g)
  where
    here : (p b : Bool) → p ≡ true → (p || b) ≡ true
    here true b e = refl
    here false b e = cc

    there : (p b : Bool) → b ≡ true → (p || b) ≡ true
    there true b e = refl
    there false b e = e

    by : (s : Bool) → same_text q r ≡ s → (if s then true else has_name q rs) ≡ true → (has_name q rs ≡ true → has_name x (kept_unless test (found_all answers rs)) ≡ true) → (has_name x (kept_unless test (found_or_none (answer_to r answers))) || has_name x (kept_unless test (found_all answers rs))) ≡ true
    by true e k more = here _ _ (ap (λ t. has_name x (kept_unless test (found_or_none (answer_to t answers)))) (sym (alike q r e)) ∙ g)
    by false e k more = there _ _ (more k)

found_more : (answers : Answers) (test : List ℕ → Bool) (q : List ℕ) (qs : List (List ℕ)) → kept_unless test (found_all answers (qs ++ q ∷ [])) ≡ kept_unless test (found_all answers qs) ++ kept_unless test (found_or_none (answer_to q answers))
found_more answers test q [] = ap (kept_unless test) (no_more (found_or_none (answer_to q answers)))
  where
    no_more : (l : List (List ℕ)) → l ++ [] ≡ l
    no_more [] = refl
    no_more (x ∷ l) = ap (λ m. x ∷ m) (no_more l)
found_more answers test q (r ∷ rs) =
    let found : List ℕ → List (List ℕ) = λ t. found_or_none (answer_to t answers) in
    kept-append test (found r) (found_all answers (rs ++ q ∷ []))
    ∙ ap (λ l. kept_unless test (found r) ++ l) (found_more answers test q rs)
    ∙ sym (append_assoc (kept_unless test (found r)) (kept_unless test (found_all answers rs)) (kept_unless test (found q)))
    ∙ ap (λ l. l ++ kept_unless test (found q)) (sym (kept-append test (found r) (found_all answers rs)))

-- a question that was asked before
pub asked_again : (answers : Answers) (test : List ℕ → Bool) (q : List ℕ) (qs all : List (List ℕ)) → has_name q qs ≡ true → HasSame all (kept_unless test (found_all answers qs)) → HasSame all (kept_unless test (found_all answers (qs ++ q ∷ [])))
asked_again answers test q qs all h same x =
    same x ∙ or_same' (has_name x (kept_unless test (found_all answers qs))) (has_name x (kept_unless test (found_or_none (answer_to q answers)))) (has_found answers test q x qs h)
    ∙ sym (has-append x (kept_unless test (found_all answers qs)) (kept_unless test (found_or_none (answer_to q answers))))
    ∙ ap (has_name x) (sym (found_more answers test q qs))
  where
    or_same' : (p q : Bool) → (q ≡ true → p ≡ true) → p ≡ (p || q)
    or_same' true q h = refl
    or_same' false true h = h refl
    or_same' false false h = refl

-- and one that was not
pub asked_first : (answers : Answers) (test : List ℕ → Bool) (q : List ℕ) (qs all more : List (List ℕ)) → HasSame more (all ++ kept_unless test (found_or_none (answer_to q answers))) → HasSame all (kept_unless test (found_all answers qs)) → HasSame more (kept_unless test (found_all answers (qs ++ q ∷ [])))
asked_first answers test q qs all more m same x =
    let found = kept_unless test (found_or_none (answer_to q answers)) in
    m x ∙ has-append x all found ∙ ap (λ b. b || has_name x found) (same x)
    ∙ sym (has-append x (kept_unless test (found_all answers qs)) found)
    ∙ ap (has_name x) (sym (found_more answers test q qs))

-- ---- one text more

-- one that is there
pub there_already : (p : List ℕ) (all : List (List ℕ)) → has_name p all ≡ true → HasSame all (all ++ p ∷ [])
there_already p all h x = by (same_text x p) refl ∙ sym (has-append x all (p ∷ []))
  where
    yes : (b : Bool) → b ≡ true → b ≡ (b || true)
    yes true e = refl
    yes false e = cc

    no : (b : Bool) → b ≡ (b || false)
    no true = refl
    no false = refl

    by : (s : Bool) → same_text x p ≡ s → has_name x all ≡ (has_name x all || (if same_text x p then true else false))
    by true e = yes (has_name x all) (ap (λ t. has_name t all) (alike x p e) ∙ h) ∙ ap (λ b. has_name x all || (if b then true else false)) (sym e)
    by false e = no (has_name x all) ∙ ap (λ b. has_name x all || (if b then true else false)) (sym e)

-- a text that is kept once
pub kept_once : (p : List ℕ) (all : List (List ℕ)) → HasSame (with_text p all) (all ++ p ∷ [])
kept_once p all = by (has_name p all) refl
  where
    by : (s : Bool) → has_name p all ≡ s → HasSame (if s then all else all ++ p ∷ []) (all ++ p ∷ [])
    by true e = there_already p all e
    by false e = λ x. refl

-- a path that is passed over
pub path_passed : (test : List ℕ → Bool) (paths : List (List ℕ)) (i : ℕ) (p : List ℕ) (all whole : List (List ℕ)) → i < length paths → p ≡ get_or paths i p → test p ≡ true → HasSame (all ++ kept_unless test (drop i paths)) whole → HasSame (all ++ kept_unless test (drop (i + 1) paths)) whole
path_passed test paths i p all whole lt is t same x =
    ap (λ b. has_name x (all ++ cond (not b) (p ∷ kept_unless test (drop (i + 1) paths)) (kept_unless test (drop (i + 1) paths)))) (sym t)
    ∙ ap (λ ps. has_name x (all ++ kept_unless test ps)) (sym (drop_item paths i p lt is)) ∙ same x

-- and one that is added
pub path_added : (test : List ℕ → Bool) (paths : List (List ℕ)) (i : ℕ) (p : List ℕ) (all more whole : List (List ℕ)) → i < length paths → p ≡ get_or paths i p → test p ≡ false → HasSame more (all ++ p ∷ []) → HasSame (all ++ kept_unless test (drop i paths)) whole → HasSame (more ++ kept_unless test (drop (i + 1) paths)) whole
path_added test paths i p all more whole lt is t m same x =
    let rest = kept_unless test (drop (i + 1) paths) in
    has-append x more rest ∙ ap (λ b. b || has_name x rest) (m x) ∙ sym (has-append x (all ++ p ∷ []) rest)
    ∙ ap (has_name x) (append_assoc all (p ∷ []) rest)
    ∙ ap (λ b. has_name x (all ++ cond (not b) (p ∷ rest) rest)) (sym t)
    ∙ ap (λ ps. has_name x (all ++ kept_unless test ps)) (sym (drop_item paths i p lt is)) ∙ same x

drop_past : {A : Type 0} (xs : List A) (i : ℕ) → length xs ≤ i → drop i xs ≡ []
drop_past [] zero h = refl
drop_past [] (suc i) h = refl
drop_past (x ∷ xs) zero h = absurd (omega (arith, h))
drop_past (x ∷ xs) (suc i) h = drop_past xs i (omega (arith, h))

-- all paths were passed over or added
pub all_passed : (test : List ℕ → Bool) (paths : List (List ℕ)) (i : ℕ) (all whole : List (List ℕ)) → length paths ≤ i → HasSame (all ++ kept_unless test (drop i paths)) whole → HasSame all whole
all_passed test paths i all whole h same x = ap (has_name x) (sym (ap (λ ps. all ++ kept_unless test ps) (drop_past paths i h) ∙ append-nil all)) ∙ same x

pub one_more_taken : (qs : List (List ℕ)) (i : ℕ) (q : List ℕ) → i < length qs → q ≡ get_or qs i q → take (i + 1) qs ≡ take i qs ++ q ∷ []
one_more_taken qs i q lt is = ap (λ n. take n qs) (add-one i) ∙ take-suc qs i q lt ∙ ap (λ x. take i qs ++ x ∷ []) (sym is)
