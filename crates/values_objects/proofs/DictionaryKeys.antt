-- Dictionaries of the code and those of the definitions, side by side.
use Rattle.std.proofs.Common.{◌≡◌, ℕ, zero, suc, ◌+◌, List, [], ◌∷◌, ◌++◌, length, take, Bool, true, false, cond, Option, Some, None, is_some, option_map, refl, ap, ◌∙◌, arith, add-one}
use Rattle.std.specs.Prelude.{slice_get}
use Rattle.std.specs.Option.{unwrap_or}
use Rattle.values_semantics.specs.declared.val.Val.{Val}
use Rattle.std.specs.Map.{lookup}
use Rattle.indexmap.specs.IndexMap.{insert_entry}
use Rattle.values_semantics.specs.declared.key.Part.{Part}
use Rattle.values_semantics.specs.declared.val.Entry.{Entry}
use Rattle.values_semantics.specs.Keys.{same_key}
use Rattle.values_semantics.specs.Heap.{Entries}
use Rattle.values_semantics.specs.Comparing.{entry_at}
use Rattle.values_semantics.specs.Indexing.{with_key, keys_of}

pub lookup_found : (k : List Part) (es : Entries) → lookup (same_key k) es ≡ entry_at k es
lookup_found k [] = refl
lookup_found k (e ∷ es) = ap (λ o. cond (same_key k e.0) (Some e.1) o) (lookup_found k es)

pub insert_with_key : (k : List Part) (x : Entry) (es : Entries) → insert_entry same_key es k x ≡ with_key k x es
insert_with_key k x [] = refl
insert_with_key k x (e ∷ es) = ap (λ l. cond (same_key k e.0) ((e.0, x) ∷ es) (e ∷ l)) (insert_with_key k x es)

over : (b : Bool) (n : ℕ) → suc (cond b n (n + 1)) ≡ cond b (suc n) (suc n + 1)
over true n = refl
over false n = omega arith

-- one entry more, or as many
one_more : (b : Bool) (e x : Entry) (k kept : List Part) (es more : Entries) (o : Option Entry) → length more ≡ cond (is_some o) (length es) (length es + 1) → length (cond b ((kept, x) ∷ es) ((k, e) ∷ more)) ≡ cond (is_some (cond b (Some e) o)) (suc (length es)) (suc (length es) + 1)
one_more true e x k kept es more o h = refl
one_more false e x k kept es more o h = ap suc h ∙ over (is_some o) (length es)

pub with_key_length : (k : List Part) (x : Entry) (es : Entries) → length (with_key k x es) ≡ cond (is_some (entry_at k es)) (length es) (length es + 1)
with_key_length k x [] = refl
with_key_length k x (e ∷ es) = one_more (same_key k e.0) e.1 x e.0 e.0 es (with_key k x es) (entry_at k es) (with_key_length k x es)

some_more : (xs : List Val) (i : ℕ) (x : Val) → slice_get xs i ≡ Some x → take (suc i) xs ≡ take i xs ++ x ∷ []
some_more [] i x h = cc
some_more (y ∷ ys) zero x h = ap (λ o. unwrap_or o y ∷ []) h
some_more (y ∷ ys) (suc i) x h = ap (λ l. y ∷ l) (some_more ys i x h)

none_more : (xs : List Val) (i : ℕ) → slice_get xs i ≡ None → take (suc i) xs ≡ take i xs
none_more [] zero h = refl
none_more [] (suc i) h = refl
none_more (y ∷ ys) zero h = cc
none_more (y ∷ ys) (suc i) h = ap (λ l. y ∷ l) (none_more ys i h)

pub take_some : (xs : List Val) (i : ℕ) (x : Val) → slice_get xs i ≡ Some x → take (i + 1) xs ≡ take i xs ++ x ∷ []
take_some xs i x h = rw add-one (some_more xs i x h)

pub take_none : (xs : List Val) (i : ℕ) → slice_get xs i ≡ None → take (i + 1) xs ≡ take i xs
take_none xs i h = rw add-one (none_more xs i h)

pub take_keys : (es : Entries) (n : ℕ) → n ≡ length es → take n (keys_of es) ≡ keys_of es
take_keys es n e = rw e (whole es)
  where
    whole : (es : Entries) → take (length es) (keys_of es) ≡ keys_of es
    whole [] = refl
    whole (e ∷ es) = ap (λ l. e.1.key ∷ l) (whole es)

pub key_there : (es : Entries) (i : ℕ) → slice_get (keys_of es) i ≡ option_map (λ e. e.1.key) (slice_get es i)
key_there [] i = refl
key_there (e ∷ es) zero = refl
key_there (e ∷ es) (suc i) = key_there es i
