-- The places of functions by their names, and one function more.
use Rattle.std.proofs.Common.{◌≡◌, ◌<◌, ◌+◌, ℕ, zero, suc, Bool, true, false, cond, List, [], ◌∷◌, length, take, get_or, refl, ap, sym, ◌∙◌, arith}
use Rattle.std.proofs.lemmas.Option.{slice_get-get_or}
use Rattle.std.specs.Prelude.{is_some, Option, Some, None}
use lib.Pointwise.{bytes_decides}
use Rattle.values_semantics.specs.Comparing.{same_text}
use Rattle.syntax_tree.specs.Tree.{Fn}
use Rattle.values_modules.specs.FunctionNames.{first_named, function_at}

one_more : (i : ℕ) → i + 1 ≡ suc i
one_more i = omega arith

-- the first of two that is there
abbrev or_else : Option Fn → Option Fn → Option Fn
or_else (Some f) o = Some f
or_else None o = o

or_none : (o : Option Fn) → or_else o None ≡ o
or_none (Some f) = refl
or_none None = refl

behind : (b : Bool) (f : Fn) (o p q : Option Fn) → o ≡ or_else p q → cond b (Some f) o ≡ or_else (cond b (Some f) p) q
behind true f o p q e = refl
behind false f o p q e = e

more : (x : List ℕ) (fs : List Fn) (i : ℕ) (d : Fn) → i < length fs → first_named x (take (suc i) fs) ≡ or_else (first_named x (take i fs)) (first_named x (get_or fs i d ∷ []))
more x [] i d lt = absurd (omega arith)
more x (f ∷ fs) zero d lt = refl
more x (f ∷ fs) (suc i) d lt = behind (same_text x f.name) f (first_named x (take (suc i) fs)) (first_named x (take i fs)) (first_named x (get_or fs i d ∷ [])) (more x fs i d (omega arith))

next : (x : List ℕ) (fs : List Fn) (i : ℕ) (d : Fn) → i < length fs → first_named x (take (i + 1) fs) ≡ or_else (first_named x (take i fs)) (first_named x (get_or fs i d ∷ []))
next x fs i d lt = ap (λ n. first_named x (take n fs)) (one_more i) ∙ more x fs i d lt

-- what is not there is none
pub none_there : (o : Option ℕ) → is_some o ≡ false → o ≡ None
none_there (Some i) e = cc
none_there None e = refl

other : (x y : List ℕ) (b : Bool) → same_text y x ≡ false → same_text x y ≡ b → b ≡ false
other x y true e is = let clash : false ≡ true = sym e ∙ (bytes_decides y x).1 (sym ((bytes_decides x y).0 is)) in sym clash
other x y false e is = refl

-- the places of the names so far, with that of one name more
pub one_place_more : (fs : List Fn) (i : ℕ) (d : Fn) (n : List ℕ) (before after : List ℕ → Option ℕ) → i < length fs → n ≡ (get_or fs i d).name → before n ≡ None → ((q : List ℕ) → after q ≡ cond (same_text n q) (Some i) (before q))
    → ((q : List ℕ) → function_at fs (before q) ≡ first_named q (take i fs)) → (q : List ℕ) → function_at fs (after q) ≡ first_named q (take (i + 1) fs)
one_place_more fs i d n before after lt named new updates so q = by (same_text n q) refl
  where
    f : Fn
    f = get_or fs i d

    by : (b : Bool) → same_text n q ≡ b → function_at fs (after q) ≡ first_named q (take (i + 1) fs)
    by true is =
        let same : n ≡ q = (bytes_decides n q).0 is in
        let none : None ≡ first_named q (take i fs) = ap (function_at fs) (sym new) ∙ ap (λ x. function_at fs (before x)) same ∙ so q in
        let hit : same_text q f.name ≡ true = (bytes_decides q f.name).1 (sym same ∙ named) in
        ap (function_at fs) (updates q ∙ ap (λ b. cond b (Some i) (before q)) is)
        ∙ slice_get-get_or fs i d lt
        ∙ ap (λ b. cond b (Some f) None) (sym hit)
        ∙ ap (λ o. or_else o (first_named q (f ∷ []))) none
        ∙ sym (next q fs i d lt)
    by false is =
        let miss : same_text q f.name ≡ false = other q f.name (same_text q f.name) (ap (λ x. same_text x q) (sym named) ∙ is) refl in
        ap (function_at fs) (updates q ∙ ap (λ b. cond b (Some i) (before q)) is)
        ∙ so q
        ∙ sym (or_none (first_named q (take i fs)))
        ∙ ap (λ b. or_else (first_named q (take i fs)) (cond b (Some f) None)) (sym miss)
        ∙ sym (next q fs i d lt)

-- a name that has a place keeps it
pub same_places : (fs : List Fn) (i : ℕ) (d : Fn) (n : List ℕ) (places : List ℕ → Option ℕ) → i < length fs → n ≡ (get_or fs i d).name → is_some (places n) ≡ true
    → ((q : List ℕ) → is_some (places q) ≡ is_some (first_named q (take i fs))) → (q : List ℕ) → first_named q (take i fs) ≡ first_named q (take (i + 1) fs)
same_places fs i d n places lt named there known q = by (same_text n q) refl
  where
    f : Fn
    f = get_or fs i d

    absorbs : (o : Option Fn) → is_some o ≡ true → o ≡ or_else o (first_named q (f ∷ []))
    absorbs (Some g) e = refl
    absorbs None e = cc

    by : (b : Bool) → same_text n q ≡ b → first_named q (take i fs) ≡ first_named q (take (i + 1) fs)
    by true is =
        let same : n ≡ q = (bytes_decides n q).0 is in
        absorbs (first_named q (take i fs)) (sym (known q) ∙ ap (λ x. is_some (places x)) (sym same) ∙ there) ∙ sym (next q fs i d lt)
    by false is =
        let miss : same_text q f.name ≡ false = other q f.name (same_text q f.name) (ap (λ x. same_text x q) (sym named) ∙ is) refl in
        sym (or_none (first_named q (take i fs))) ∙ ap (λ b. or_else (first_named q (take i fs)) (cond b (Some f) None)) (sym miss) ∙ sym (next q fs i d lt)

-- with the place of one name more, the names that have a place are those of the functions so far
pub one_more_known : (fs : List Fn) (i : ℕ) (d : Fn) (n : List ℕ) (before after : List ℕ → Option ℕ) → i < length fs → n ≡ (get_or fs i d).name → ((q : List ℕ) → after q ≡ cond (same_text n q) (Some i) (before q))
    → ((q : List ℕ) → is_some (before q) ≡ is_some (first_named q (take i fs))) → (q : List ℕ) → is_some (after q) ≡ is_some (first_named q (take (i + 1) fs))
one_more_known fs i d n before after lt named updates known q = by (same_text n q) refl
  where
    f : Fn
    f = get_or fs i d

    ends : (o : Option Fn) → true ≡ is_some (or_else o (Some f))
    ends (Some g) = refl
    ends None = refl

    by : (b : Bool) → same_text n q ≡ b → is_some (after q) ≡ is_some (first_named q (take (i + 1) fs))
    by true is =
        let same : n ≡ q = (bytes_decides n q).0 is in
        let hit : same_text q f.name ≡ true = (bytes_decides q f.name).1 (sym same ∙ named) in
        ap is_some (updates q ∙ ap (λ b. cond b (Some i) (before q)) is)
        ∙ ends (first_named q (take i fs))
        ∙ ap (λ b. is_some (or_else (first_named q (take i fs)) (cond b (Some f) None))) (sym hit)
        ∙ ap is_some (sym (next q fs i d lt))
    by false is =
        let miss : same_text q f.name ≡ false = other q f.name (same_text q f.name) (ap (λ x. same_text x q) (sym named) ∙ is) refl in
        ap is_some (updates q ∙ ap (λ b. cond b (Some i) (before q)) is)
        ∙ known q
        ∙ ap is_some (sym (or_none (first_named q (take i fs))) ∙ ap (λ b. or_else (first_named q (take i fs)) (cond b (Some f) None)) (sym miss) ∙ sym (next q fs i d lt))
