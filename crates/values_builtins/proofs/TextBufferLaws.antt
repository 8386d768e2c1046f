-- What is kept of texts that are written one after another.
use Rattle.std.proofs.Common.{◌≡◌, ℕ, zero, suc, ◌+◌, ◌≤◌, ◌<◌, get_or, List, [], ◌∷◌, ◌++◌, length, drop, Bool, true, false, cond, Option, Some, None, Err, refl, sym, ap, ◌∙◌, append_assoc, length-append, arith, add-one}
use Rattle.std.specs.Prelude.{slice_get}
use Rattle.std.specs.Option.{unwrap_or}
use Rattle.std.proofs.lemmas.List.{append-nil}
use Rattle.std.proofs.lemmas.Bool.{leb-true, le-leb}
use Rattle.values_semantics.specs.Outcome.{Out, gives, faults, Does, and_then, pure, fault, tick}
use Rattle.values_semantics.specs.Heap.{text, is_sized, makes, makes_text}
use Rattle.values_semantics.specs.Printing.{following, separated, enclosed, container, plain, escaped, all_escaped, quoted}
use Rattle.values_objects.specs.declared.halt.Halt.{Halt}
use Rattle.values_objects.specs.declared.halt.Halt.TheVariants.{Code, Memory}
use Rattle.values_builtins.specs.declared.text_buffer.TextBuffer.{TextBuffer}
use Rattle.values_builtins.specs.TextBuffers.{keep, text_so_far, more, text_after, before, Tells}

too_long : (a b : List ℕ) → is_sized (length a) ≡ false → is_sized (length (a ++ b)) ≡ false
too_long a b h = by_size (is_sized (length (a ++ b))) refl
  where
    by_size : (c : Bool) → is_sized (length (a ++ b)) ≡ c → c ≡ false
    by_size false e = refl
    by_size true e = sym (le-leb (length a) 65536 (omega (arith, leb-true (length (a ++ b)) 65536 e, length-append a b))) ∙ h

none_kept : (a b : List ℕ) (c : Bool) → is_sized (length a) ≡ c → more (cond c (Some a) None) b ≡ keep (a ++ b)
unfolding more
none_kept a b true e = refl
none_kept a b false e = sym (ap (λ c. cond c (Some (a ++ b)) None) (too_long a b e))

pub keep_more : (a b : List ℕ) → more (keep a) b ≡ keep (a ++ b)
keep_more a b = none_kept a b (is_sized (length a)) refl

-- one part after another is both at once
pub more_more : (o : Option (List ℕ)) (a b : List ℕ) → more (more o a) b ≡ more o (a ++ b)
unfolding more
more_more None a b = refl
more_more (Some x) a b = keep_more (x ++ a) b ∙ ap keep (append_assoc x a b)

-- what is too long stays so
pub too_long_stays : (w : TextBuffer) (part : List ℕ) → w.long ≡ true → text_so_far w ≡ more (text_so_far w) part
unfolding text_so_far more
too_long_stays w part h = rw h refl

-- nothing more
pub more_nothing : (w : TextBuffer) → more (text_so_far w) [] ≡ text_so_far w
unfolding text_so_far more
more_nothing w = by_flag w.long
  where
    by_flag : (b : Bool) → more (cond b None (keep w.bytes.items)) [] ≡ cond b None (keep w.bytes.items)
    by_flag true = refl
    by_flag false = keep_more w.bytes.items [] ∙ ap keep (append-nil w.bytes.items)

-- texts that are kept alike make one string
pub kept_alike : (a b : List ℕ) → keep a ≡ keep b → makes_text a ≡ makes_text b
kept_alike a b h = by_sizes (is_sized (length a)) (is_sized (length b)) h
  where
    by_sizes : (c d : Bool) → cond c (Some a) None ≡ cond d (Some b) None → cond c (makes (text a)) (fault 13) ≡ cond d (makes (text b)) (fault 13)
    by_sizes true true e = let same : a ≡ b = cc in ap (λ l. makes (text l)) same
    by_sizes true false e = cc
    by_sizes false true e = cc
    by_sizes false false e = refl

-- a byte of a string between quotes
pub escapes : (o p all : Option (List ℕ)) (c : ℕ) (cs : List ℕ) → more o (all_escaped (c ∷ cs)) ≡ all → p ≡ more o (escaped c) → more p (all_escaped cs) ≡ all
escapes o p all c cs h e = ap (λ q. more q (all_escaped cs)) e ∙ (more_more o (escaped c) (all_escaped cs) ∙ h)

drop_end : (xs : List ℕ) (i : ℕ) → length xs ≤ i → drop i xs ≡ []
drop_end [] zero h = refl
drop_end [] (suc i) h = refl
drop_end (x ∷ xs) zero h = absurd (omega (arith, h))
drop_end (x ∷ xs) (suc i) h = drop_end xs i (omega (arith, h))

get_there : (xs : List ℕ) (i : ℕ) → i < length xs → drop i xs ≡ get_or xs i 0 ∷ drop (suc i) xs
get_there [] i h = absurd (omega (arith, h))
get_there (x ∷ xs) zero h = refl
get_there (x ∷ xs) (suc i) h = get_there xs i (omega (arith, h))

pub byte_there : (xs : List ℕ) (i : ℕ) → i < length xs → drop i xs ≡ get_or xs i 0 ∷ drop (i + 1) xs
byte_there xs i h = rw add-one (get_there xs i h)

pub quotes : (o p q r : Option (List ℕ)) (cs : List ℕ) (i : ℕ) → length cs ≤ i → more q (all_escaped (drop i cs)) ≡ more (more o (34 ∷ [])) (all_escaped cs) → r ≡ more q (34 ∷ []) → r ≡ more o (quoted cs)
quotes o p q r cs i end inv last =
    let inner : more q [] ≡ more (more o (34 ∷ [])) (all_escaped cs) = sym (ap (λ l. more q (all_escaped l)) (drop_end cs i end)) ∙ inv in
    last ∙ (sym (more_more q [] (34 ∷ [])) ∙ (ap (λ x. more x (34 ∷ [])) (inner ∙ more_more o (34 ∷ []) (all_escaped cs)) ∙ more_more o (34 ∷ all_escaped cs) (34 ∷ [])))

-- three parts
pub three : (o p q r : Option (List ℕ)) (a b c : List ℕ) → p ≡ more o a → q ≡ more p b → r ≡ more q c → r ≡ more o (a ++ b ++ c)
three o p q r a b c e f g =
    g ∙ (ap (λ x. more x c) (f ∙ (ap (λ x. more x b) e ∙ more_more o a b)) ∙ more_more o (a ++ b) c)

pub three_plainly : (s u : ℕ) (o p q r : Option (List ℕ)) (a b c : List ℕ) → tick s ≡ gives tt u → p ≡ more o a → q ≡ more p b → r ≡ more q c → text_after (plain (a ++ b ++ c)) s o ≡ gives r u
three_plainly s u o p q r a b c h e f g = ap (λ out. and_then (and_then out (λ x. pure (a ++ b ++ c))) (λ x. gives (more o x))) h ∙ ap (λ y. gives y u) (sym (three o p q r a b c e f g))

-- what is written before and after what a walk writes
around_out : (out : Out ℕ (List ℕ)) (t : ℕ) (o p q r : Option (List ℕ)) (a b : List ℕ) → p ≡ more o a → and_then out (λ x. gives (more p x)) ≡ gives q t → r ≡ more q b → and_then (and_then out (λ x. pure (a ++ x ++ b))) (λ x. gives (more o x)) ≡ gives r t
around_out (faults c) t o p q r a b e h g = cc
around_out (gives x u) t o p q r a b e h g =
    let k : gives (more p x) u ≡ gives q t = h in
    let same : u ≡ t = cc in
    let inner : q ≡ more p x = cc in
    let whole = three o p q r a x b e inner g in
    ap (λ y. gives y u) (sym whole) ∙ ap (gives r) same

pub around : (walk : Does ℕ (List ℕ)) (s t : ℕ) (o p q r : Option (List ℕ)) (a b : List ℕ) → p ≡ more o a → text_after walk s p ≡ gives q t → r ≡ more q b → text_after (enclosed a walk b) s o ≡ gives r t
around walk s t o p q r a b e h g = around_out (walk s) t o p q r a b e h g

-- the same after a step
pub contained : (walk : Does ℕ (List ℕ)) (s u t : ℕ) (o p q r : Option (List ℕ)) (a b : List ℕ) → tick s ≡ gives tt u → p ≡ more o a → text_after walk u p ≡ gives q t → r ≡ more q b → text_after (container a walk b) s o ≡ gives r t
contained walk s u t o p q r a b h e f g = ap (λ out. and_then (and_then out (λ x. enclosed a walk b)) (λ x. gives (more o x))) h ∙ around walk u t o p q r a b e f g

-- two walks with a text between them
pub twice : (walk other : Does ℕ (List ℕ)) (s t u : ℕ) (o p q r : Option (List ℕ)) (a : List ℕ) → text_after walk s o ≡ gives p t → q ≡ more p a → text_after other t q ≡ gives r u → and_then (and_then (walk s) (λ k. λ v. and_then (other v) (λ x. pure (k ++ a ++ x)))) (λ x. gives (more o x)) ≡ gives r u
twice walk other s t u o p q r a h e g = by_first (walk s) h
  where
    by_second : (k : List ℕ) (out : Out ℕ (List ℕ)) → p ≡ more o k → and_then out (λ x. gives (more q x)) ≡ gives r u → and_then (and_then out (λ x. pure (k ++ a ++ x))) (λ x. gives (more o x)) ≡ gives r u
    by_second k (faults c) f i = cc
    by_second k (gives x v) f i =
        let same : v ≡ u = cc in
        let inner : r ≡ more q x = cc in
        ap (λ y. gives y v) (sym (three o p q r k a x f e inner)) ∙ ap (gives r) same

    by_first : (out : Out ℕ (List ℕ)) → and_then out (λ k. gives (more o k)) ≡ gives p t → and_then (and_then out (λ k. λ v. and_then (other v) (λ x. pure (k ++ a ++ x)))) (λ x. gives (more o x)) ≡ gives r u
    by_first (faults c) i = cc
    by_first (gives k v) i =
        let same : v ≡ t = cc in
        let inner : p ≡ more o k = cc in
        rw same (by_second k (other t) inner g)

-- what is left of items, where this many came before
abbrev pub left_of : {A : Type 0} → (A → Does ℕ (List ℕ)) → ℕ → List A → Does ℕ (List ℕ)
left_of show zero xs = separated show xs
left_of show (suc i) xs = following show xs

none_left : {A : Type 0} → (show : A → Does ℕ (List ℕ)) (i : ℕ) (s : ℕ) → left_of show i [] s ≡ gives [] s
none_left show zero s = refl
none_left show (suc i) s = refl

one_left : {A : Type 0} → (show : A → Does ℕ (List ℕ)) (i : ℕ) (x : A) (xs : List A) (s : ℕ) → left_of show i (x ∷ xs) s ≡ and_then (show x s) (λ t. λ u. and_then (following show xs u) (λ ts. pure (before i ++ t ++ ts)))
one_left show zero x xs s = refl
one_left show (suc i) x xs s = refl

there : {A : Type 0} → (xs : List A) (i : ℕ) (x : A) → slice_get xs i ≡ Some x → drop i xs ≡ x ∷ drop (suc i) xs
there [] i x h = cc
there (y ∷ ys) zero x h = ap (λ o. unwrap_or o y ∷ ys) h
there (y ∷ ys) (suc i) x h = there ys i x h

drop_past : {A : Type 0} → (xs : List A) (i : ℕ) → slice_get xs i ≡ None → drop i xs ≡ []
drop_past [] zero h = refl
drop_past [] (suc i) h = refl
drop_past (y ∷ ys) zero h = cc
drop_past (y ∷ ys) (suc i) h = drop_past ys i h

past_all : {A : Type 0} → (xs : List A) → None ≡ slice_get xs (length xs)
past_all [] = refl
past_all (x ∷ xs) = past_all xs

told_faults : (out : Out ℕ (List ℕ)) (o : Option (List ℕ)) (c : ℕ) → and_then out (λ x. gives (more o x)) ≡ faults c → out ≡ faults c
told_faults (gives x s) o c h = cc
told_faults (faults d) o c h = cc

-- an iteration of a loop over items, where `whole` is the walk over all of them
module _ {A : Type 0} (show : A → Does ℕ (List ℕ)) (xs : List A) (i : ℕ) (s : ℕ) (o : Option (List ℕ)) (whole : Does ℕ (List ℕ)) (s0 : ℕ) (o0 : Option (List ℕ)) (inv : text_after (left_of show i (drop i xs)) s o ≡ text_after whole s0 o0) where
  pub items_over : None ≡ slice_get xs i → text_after whole s0 o0 ≡ gives (more o []) s
  items_over h = sym (ap (λ out. and_then out (λ x. gives (more o x))) (sym (none_left show i s)) ∙ (ap (λ l. text_after (left_of show i l) s o) (sym (drop_past xs i (sym h))) ∙ inv))

  pub items_end : i ≡ length xs → text_after whole s0 o0 ≡ gives (more o []) s
  items_end h = items_over (rw h (past_all xs))

  module _ (x : A) (h : Some x ≡ slice_get xs i) where
    now : text_after (left_of show i (x ∷ drop (suc i) xs)) s o ≡ text_after whole s0 o0
    now = ap (λ l. text_after (left_of show i l) s o) (sym (there xs i x (sym h))) ∙ inv

    turned : text_after (λ v. and_then (show x v) (λ t. λ u. and_then (following show (drop (suc i) xs) u) (λ ts. pure (before i ++ t ++ ts)))) s o ≡ text_after whole s0 o0
    turned = ap (λ out. and_then out (λ y. gives (more o y))) (sym (one_left show i x (drop (suc i) xs) s)) ∙ now

    item_faults : (c : ℕ) → show x s ≡ faults c → whole s0 ≡ faults c
    item_faults c e = told_faults (whole s0) o0 c (sym turned ∙ ap (λ out. and_then (and_then out (λ t. λ u. and_then (following show (drop (suc i) xs) u) (λ ts. pure (before i ++ t ++ ts)))) (λ y. gives (more o y))) e)

    pub item_halts : (B : Type 0) (p : Option (List ℕ)) (halt : Halt) (t : ℕ) (q q0 : Option (List ℕ)) → Tells {A = B} (show x) s p (Err halt) t q → Tells {A = B} whole s0 o0 (Err halt) t q0
    item_halts B p (Code c) t q q0 said = item_faults c said
    item_halts B p (Memory _) t q q0 said = tt

    pub item_told : (p : Option (List ℕ)) (t : ℕ) (q : Option (List ℕ)) → p ≡ more o (before i) → text_after (show x) s p ≡ gives q t → text_after (left_of show (i + 1) (drop (i + 1) xs)) t q ≡ text_after whole s0 o0
    item_told p t q e said = rw add-one (by_first (show x s) said turned)
      where
        by_rest : (y : List ℕ) (out : Out ℕ (List ℕ)) → q ≡ more p y → and_then out (λ x. gives (more q x)) ≡ and_then (and_then out (λ ts. pure (before i ++ y ++ ts))) (λ x. gives (more o x))
        by_rest y (faults c) f = refl
        by_rest y (gives ts v) f = ap (λ r. gives r v) (three o p q (more q ts) (before i) y ts e f refl)

        by_first : (out : Out ℕ (List ℕ)) → and_then out (λ x. gives (more p x)) ≡ gives q t → and_then (and_then out (λ y. λ u. and_then (following show (drop (suc i) xs) u) (λ ts. pure (before i ++ y ++ ts)))) (λ x. gives (more o x)) ≡ text_after whole s0 o0 → text_after (following show (drop (suc i) xs)) t q ≡ text_after whole s0 o0
        by_first (faults c) f g = cc
        by_first (gives y v) f g =
            let same : v ≡ t = cc in
            let inner : q ≡ more p y = cc in
            rw same at (by_rest y (following show (drop (suc i) xs) v) inner ∙ g)
