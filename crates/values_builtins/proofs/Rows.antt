-- Rows of lists.
use Rattle.std.proofs.Common.{◌≡◌, ℕ, zero, suc, ◌+◌, ◌-◌, ◌<◌, List, [], ◌∷◌, ◌++◌, length, map, drop, get_or, drop-cons, drop-drop, append_assoc, Option, Some, None, option_map, refl, sym, ap, ◌∙◌, Err, add-one, arith}
use Rattle.std.specs.Prelude.{slice_get}
use Rattle.std.specs.declared.vec.Vec.{Vec}
use Rattle.std.specs.declared.alloc.Global.{Global}
use Rattle.values_semantics.specs.declared.val.Val.{Val}
use Rattle.std.proofs.lemmas.List.{append-nil}
use Rattle.values_semantics.specs.Outcome.{Out, gives, faults, and_then}
use Rattle.values_semantics.specs.Heap.{Store, makes_tuple}
use Rattle.values_semantics.specs.Functions.{heads, rows, zipped, makes_tuples}
use Rattle.values_objects.specs.declared.halt.Halt.{Halt}
use Rattle.values_objects.specs.declared.halt.Halt.TheVariants.{Code, Memory}
use Rattle.values_heap.specs.View.{Says, SaysItems}
use Rattle.values_builtins.specs.Results.{lists_of}

-- a list with a member at a place, before others
pub heads_there : (l : List Val) (i : ℕ) (rest : List (List Val)) (x : Val) → slice_get l i ≡ Some x → heads (drop i l ∷ rest) ≡ option_map (λ hs. x ∷ hs) (heads rest)
heads_there [] i rest x h = cc
heads_there (y ∷ ys) zero rest x h = let e : y ≡ x = cc in ap (λ z. option_map (λ hs. z ∷ hs) (heads rest)) e
heads_there (y ∷ ys) (suc i) rest x h = heads_there ys i rest x h

pub heads_past : (l : List Val) (i : ℕ) (rest : List (List Val)) → slice_get l i ≡ None → heads (drop i l ∷ rest) ≡ None
heads_past [] zero rest h = refl
heads_past [] (suc i) rest h = refl
heads_past (y ∷ ys) zero rest h = cc
heads_past (y ∷ ys) (suc i) rest h = heads_past ys i rest h

further : (row : List Val) (x : Val) (o : Option (List Val)) → option_map (λ hs. row ++ hs) (option_map (λ hs. x ∷ hs) o) ≡ option_map (λ hs. (row ++ x ∷ []) ++ hs) o
further row x None = refl
further row x (Some hs) = ap Some (sym (append_assoc row (x ∷ []) hs))

-- what is at an index, before what follows it
pub drop_item : {A : Type 0} → (xs : List A) (k : ℕ) (x : A) → k < length xs → x ≡ get_or xs k x → drop k xs ≡ x ∷ drop (k + 1) xs
drop_item xs k x h e = rw add-one (drop-cons xs k x h ∙ ap (λ y. y ∷ drop (suc k) xs) (sym e))

-- what is known of an iteration of the loop, where `all` is the whole row
module _ (row : List Val) (lists : List (Vec Val Global)) (k i : ℕ) (v : Vec Val Global) (there : k < length lists) (is : v ≡ get_or lists k v) (all : Option (List Val)) (inv : option_map (λ hs. row ++ hs) (heads (map (drop i) (lists_of (drop k lists)))) ≡ all) where
  turn : option_map (λ hs. row ++ hs) (heads (drop i v.items ∷ map (drop i) (lists_of (drop (k + 1) lists)))) ≡ all
  turn = rw (drop_item lists k v there is) at inv

  pub row_goes : (x : Val) (more : List Val) → slice_get v.items i ≡ Some x → more ≡ row ++ x ∷ [] → option_map (λ hs. more ++ hs) (heads (map (drop i) (lists_of (drop (k + 1) lists)))) ≡ all
  row_goes x more h e = rw e (sym (further row x _) ∙ rw (heads_there v.items i _ x h) at turn)

  pub row_ends : slice_get v.items i ≡ None → None ≡ all
  row_ends h = rw (heads_past v.items i _ h) at turn

one_less : (n i : ℕ) → i < n → n - i ≡ suc (n - (i + 1))
one_less n i h = omega arith

dropped : (ls : List (List Val)) (i : ℕ) → map (drop 1) (map (drop i) ls) ≡ map (drop (i + 1)) ls
dropped [] i = refl
dropped (l ∷ ls) i = rw (dropped ls i) (ap (λ m. m ∷ map (drop (i + 1)) ls) (drop-drop 1 i l))

-- where a list has ended there are no more rows
no_rows : (n : ℕ) (ls : List (List Val)) → heads ls ≡ None → rows n ls ≡ []
no_rows zero ls h = refl
no_rows (suc n) ls h = rw h refl

undropped : (ls : List (List Val)) → map (drop 0) ls ≡ ls
undropped [] = refl
undropped (l ∷ ls) = ap (λ ms. l ∷ ms) (undropped ls)

pub rows_begin : (lists : List (Vec Val Global)) (v : Vec Val Global) → slice_get lists 0 ≡ Some v → rows (length v.items - 0) (map (drop 0) (lists_of lists)) ≡ zipped (lists_of lists)
rows_begin [] v h = cc
rows_begin (w ∷ ws) v h = let e : v ≡ w = cc in let z : length w.items - 0 ≡ length w.items = omega arith in rw (e, z, undropped (lists_of (w ∷ ws))) refl

-- what is known of an iteration of the loop, where `all` is what the whole loop gives
module _ (ls : List (List Val)) (n i : ℕ) (tuples : List Val) (s : Store) (all : Out Store (List Val)) (inv : and_then (makes_tuples (rows (n - i) (map (drop i) ls)) s) (λ ts. gives (tuples ++ ts)) ≡ all) where
  pub rows_end : heads (map (drop i) ls) ≡ None → all ≡ gives tuples s
  rows_end h = sym (rw (no_rows (n - i) (map (drop i) ls) h, append-nil tuples) at inv)

  module _ (within : i < n) (r : List Val) (h : heads (map (drop i) ls) ≡ Some r) where
    now : and_then (makes_tuples (r ∷ rows (n - (i + 1)) (map (drop (i + 1)) ls)) s) (λ ts. gives (tuples ++ ts)) ≡ all
    now = rw (one_less n i within, h, dropped ls i) at inv

    pub rows_go : (t : Val) (more : List Val) (u : Store) → makes_tuple r s ≡ gives t u → more ≡ tuples ++ t ∷ [] → and_then (makes_tuples (rows (n - (i + 1)) (map (drop (i + 1)) ls)) u) (λ ts. gives (more ++ ts)) ≡ all
    rows_go t more u made e = rw e (further (makes_tuples (rows (n - (i + 1)) (map (drop (i + 1)) ls)) u) ∙ rw made at now)
      where
        further : (out : Out Store (List Val)) → and_then out (λ ts. gives ((tuples ++ t ∷ []) ++ ts)) ≡ and_then (and_then out (λ ts. gives (t ∷ ts))) (λ ts. gives (tuples ++ ts))
        further (gives ts w) = ap (λ l. gives l w) (append_assoc tuples (t ∷ []) ts)
        further (faults c) = refl

    pub rows_stop : (e : Halt) (u : Store) → Says (makes_tuple r s) (Err e) u → SaysItems all (Err e) u
    rows_stop (Code c) u said = sym (rw said at now)
    rows_stop (Memory _) u said = tt

-- with nothing made yet
pub unmade : (out : Out Store (List Val)) → and_then out (λ ts. gives ([] ++ ts)) ≡ out
unmade (gives ts s) = refl
unmade (faults c) = refl
