-- Names that were found: each of them is kept once.
use Rattle.std.proofs.Common.{◌≡◌, ◌++◌, ℕ, Bool, ◌||◌, true, false, cond, List, [], ◌∷◌, refl, ap, sym, ◌∙◌, append_assoc}
use Rattle.std.proofs.lemmas.List.{append-nil}
use Rattle.std.specs.Prelude.{nat_eq}
use Rattle.std.specs.List.{list_any}
use Rattle.std.specs.Cmp.Lexicographic.{pointwise}
use lib.Pointwise.{bytes_decides}
use Rattle.indexmap.specs.IndexSet.{insert_key}
use Rattle.syntax_tree.specs.Bindings.{has_name, names_once}
use Rattle.syntax_bindings.specs.NameSets.{names_of, SameNames, kept_with, Finds}
use Rattle.syntax_bindings.specs.declared.finding.NameSet.{NameSet}

abbrev same_text : List ℕ → List ℕ → Bool
same_text = pointwise nat_eq

either : (a b c : Bool) → cond a true (cond b true c) ≡ cond (cond a true b) true c
either true b c = refl
either false b c = refl

pub has-append : (x : List ℕ) (xs ys : List (List ℕ)) → has_name x (xs ++ ys) ≡ cond (has_name x xs) true (has_name x ys)
has-append x [] ys = refl
has-append x (y ∷ xs) ys = ap (λ b. cond (same_text x y) true b) (has-append x xs ys) ∙ either (same_text x y) (has_name x xs) (has_name x ys)

pub once_same : (ns ds es : List (List ℕ)) → ((y : List ℕ) → has_name y ds ≡ has_name y es) → names_once ds ns ≡ names_once es ns
once_same [] ds es h = refl
once_same (n ∷ ns) ds es h =
    ap (λ b. cond b (names_once ds ns) (n ∷ names_once (n ∷ ds) ns)) (h n)
    ∙ ap (λ l. cond (has_name n es) l (n ∷ names_once (n ∷ ds) ns)) (once_same ns ds es h)
    ∙ ap (λ l. cond (has_name n es) (names_once es ns) (n ∷ l)) (once_same ns (n ∷ ds) (n ∷ es) (λ y. ap (λ b. cond (same_text y n) true b) (h y)))

pub finds_again : (f : NameSet) (x : List ℕ) → has_name x (names_of f) ≡ true → Finds f (x ∷ []) f
unfolding kept_with
finds_again f x e = record { then_others = λ others. ap (λ b. f.kept.items ++ cond b (names_once (names_of f) others) (x ∷ names_once (x ∷ names_of f) others)) (sym e) }

pub finds_new : (f g : NameSet) (x : List ℕ) → has_name x (names_of f) ≡ false → SameNames (names_of g) (x ∷ names_of f) → g.kept.items ≡ f.kept.items ++ x ∷ [] → Finds f (x ∷ []) g
unfolding kept_with
finds_new f g x e same kept = record {
  then_others = λ others.
      ap (λ (l : List (List ℕ)). l ++ names_once (names_of g) others) kept
      ∙ ap (λ l. (f.kept.items ++ x ∷ []) ++ l) (once_same others (names_of g) (x ∷ names_of f) same.same)
      ∙ append_assoc f.kept.items (x ∷ []) (names_once (x ∷ names_of f) others)
      ∙ ap (λ b. f.kept.items ++ cond b (names_once (names_of f) others) (x ∷ names_once (x ∷ names_of f) others)) (sym e);
}

pub finds_both : (f g h : NameSet) (xs ys : List (List ℕ)) → Finds f xs g → Finds g ys h → Finds f (xs ++ ys) h
finds_both f g h xs ys p q = record { then_others = λ others. q.then_others others ∙ p.then_others (ys ++ others) ∙ ap (λ l. kept_with f l) (sym (append_assoc xs ys others)) }

-- the names that are kept at the end
pub kept_at_last : (f g : NameSet) (xs done names : List (List ℕ)) → SameNames (names_of f) done → f.kept.items ≡ names → Finds f xs g → g.kept.items ≡ names ++ names_once done xs
unfolding kept_with
kept_at_last f g xs done names same begun h =
    sym (append-nil g.kept.items)
    ∙ h.then_others []
    ∙ ap (λ l. f.kept.items ++ names_once (names_of f) l) (append-nil xs)
    ∙ ap (λ l. f.kept.items ++ l) (once_same xs (names_of f) done same.same)
    ∙ ap (λ (l : List (List ℕ)). l ++ names_once done xs) begun

pub none_seen : (f : NameSet) → names_of f ≡ [] → SameNames (names_of f) []
none_seen f e = record { same = λ x. ap (λ l. has_name x l) e }

pub only_these : (xs ys zs : List (List ℕ)) → SameNames xs (ys ++ zs) → zs ≡ [] → SameNames xs ys
only_these xs ys zs h e = record { same = λ x. h.same x ∙ ap (λ l. has_name x (ys ++ l)) e ∙ ap (λ l. has_name x l) (append-nil ys) }

-- of these names the rest is left to be found
pub record Left (old : NameSet) (names : List (List ℕ)) (now : NameSet) (rest : List (List ℕ)) : Type 0 where
  pub then_others : (others : List (List ℕ)) → kept_with now (rest ++ others) ≡ kept_with old (names ++ others)

-- one more name, before or after the others
pub same_front : (x : List ℕ) (few more : List (List ℕ)) → SameNames ((few ++ x ∷ []) ++ more) (x ∷ (few ++ more))
same_front x few more = record {
  same = λ y.
      has-append y (few ++ x ∷ []) more
      ∙ ap (λ b. cond b true (has_name y more)) (has-append y few (x ∷ []))
      ∙ turned (has_name y few) (same_text y x) (has_name y more)
      ∙ ap (λ b. cond (same_text y x) true b) (sym (has-append y few more));
}
  where
    turned : (a b c : Bool) → cond (cond a true (cond b true false)) true c ≡ cond b true (cond a true c)
    turned true true c = refl
    turned true false c = refl
    turned false true c = refl
    turned false false c = refl

same_back : (x : List ℕ) (few more : List (List ℕ)) → SameNames (few ++ (more ++ x ∷ [])) (x ∷ (few ++ more))
same_back x few more = record {
  same = λ y.
      has-append y few (more ++ x ∷ [])
      ∙ ap (λ b. cond (has_name y few) true b) (has-append y more (x ∷ []))
      ∙ turned (has_name y few) (has_name y more) (same_text y x)
      ∙ ap (λ b. cond (same_text y x) true b) (sym (has-append y few more));
}
  where
    turned : (a b c : Bool) → cond a true (cond b true (cond c true false)) ≡ cond c true (cond a true b)
    turned true b true = refl
    turned true b false = refl
    turned false true true = refl
    turned false true false = refl
    turned false false true = refl
    turned false false false = refl

pub has_any : (x : List ℕ) (xs : List (List ℕ)) → list_any (pointwise nat_eq x) xs ≡ has_name x xs
has_any x [] = refl
has_any x (y ∷ ys) = tested (same_text x y) (list_any (pointwise nat_eq x) ys) ∙ ap (λ b. cond (same_text x y) true b) (has_any x ys)
  where
    tested : (a b : Bool) → (a || b) ≡ cond a true b
    tested true b = refl
    tested false b = refl

always : (a : Bool) → cond a true true ≡ true
always true = refl
always false = refl

there : (x y : List ℕ) (few more : List (List ℕ)) (b : Bool) → has_name x more ≡ true → same_text y x ≡ b → has_name y (few ++ more) ≡ cond b true (has_name y (few ++ more))
there x y few more true e f =
    has-append y few more
    ∙ ap (λ b. cond (has_name y few) true b) (ap (λ z. has_name z more) ((bytes_decides y x).0 f) ∙ e)
    ∙ always (has_name y few)
there x y few more false e f = refl

-- a name that is in the set, and one that is added to it
same_there : (x : List ℕ) (few more : List (List ℕ)) (b : Bool) → has_name x more ≡ b → SameNames (few ++ cond b more (more ++ x ∷ [])) (x ∷ (few ++ more))
same_there x few more true e = record { same = λ y. there x y few more (same_text y x) e refl }
same_there x few more false e = same_back x few more

pub same_inserted : (x : List ℕ) (few more : List (List ℕ)) → SameNames (few ++ insert_key (pointwise nat_eq) more x) (x ∷ (few ++ more))
same_inserted x few more = same_there x few more (list_any (pointwise nat_eq x) more) (sym (has_any x more))

pub params_more : (x : List ℕ) (xs seen_before seen_now all : List (List ℕ)) → SameNames (x ∷ xs ++ seen_before) all → SameNames seen_now (x ∷ seen_before) → SameNames (xs ++ seen_now) all
params_more x xs before now all h s = record {
  same = λ y.
      has-append y xs now
      ∙ ap (λ b. cond (has_name y xs) true b) (s.same y)
      ∙ turned (has_name y xs) (same_text y x) (has_name y before)
      ∙ ap (λ b. cond (same_text y x) true b) (sym (has-append y xs before))
      ∙ h.same y;
}
  where
    turned : (a b c : Bool) → cond a true (cond b true c) ≡ cond b true (cond a true c)
    turned true true c = refl
    turned true false c = refl
    turned false true c = refl
    turned false false c = refl
