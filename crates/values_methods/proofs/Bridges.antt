-- The methods as they are called one by one are those of the definition.
use Rattle.std.proofs.Common.{◌≡◌, ℕ, List, [], ◌∷◌, Bool, map, Option, Some, refl, ap, sym, subst, ◌∙◌}
use Rattle.std.specs.Prelude.{codes, if◌then◌else◌}
use Rattle.values_semantics.specs.declared.val.Val.{Val}
use Rattle.values_semantics.specs.Outcome.{Does, ◌>>=◌, pure, fault}
use Rattle.values_semantics.specs.Heap.{Entries, Store, Obj, text, list, dict, makes_list}
use Rattle.values_semantics.specs.Comparing.{same_text}
use Rattle.values_semantics.specs.Indexing.{keys_of}
use Rattle.values_semantics.specs.Methods.{object_method, list_method, dict_method, text_method, makes_items}
use Rattle.values_methods.specs.Cases.{of_list, of_dict, of_text, entry_tuple, entry_tuples, entry_list, get_other}

pub list_same : (a : ℕ) (members : List Val) (f : Bool) (name : List ℕ) (xs : List Val) → list_method a (list members f) name xs ≡ of_list a (Some (list members f)) name xs
list_same a members f name [] = refl
list_same a members f name (x ∷ []) = refl
list_same a members f name (x ∷ y ∷ ys) = refl

pub text_same : (bytes name : List ℕ) (xs : List Val) → text_method bytes name xs ≡ of_text bytes name xs
text_same bytes name [] = refl
text_same bytes name (x ∷ []) = refl
text_same bytes name (x ∷ y ∷ ys) = refl

items_same : (es : Entries) → makes_items es ≡ entry_tuples (entry_list es)
items_same [] = refl
items_same (e ∷ es) = ap (λ m. entry_tuple e.1 >>= λ t. m >>= λ ts. pure (t ∷ ts)) (items_same es)

values_same : (es : Entries) → map (λ e. e.1.value) es ≡ map (λ e. e.value) (entry_list es)
values_same [] = refl
values_same (e ∷ es) = ap (λ l. e.1.value ∷ l) (values_same es)

-- one of the four by its name
abbrev in_turn : List ℕ → Does Store Val → Does Store Val → Does Store Val → Does Store Val → Does Store Val
in_turn name get keys values items =
    if same_text name (codes "get") then get
    else (if same_text name (codes "keys") then keys
    else (if same_text name (codes "values") then values
    else (if same_text name (codes "items") then items else fault 5)))

pub dict_same : (es : Entries) (f : Bool) (name : List ℕ) (xs : List Val) → dict_method es name xs ≡ of_dict (Some (dict es f)) name xs
unfolding get_other
dict_same es f name [] =
    ap (λ (m : Does Store Val). in_turn name (fault 25) (makes_list (keys_of es)) (makes_list (map (λ e. e.1.value) es)) m) (ap (λ m. m >>= makes_list) (items_same es))
    ∙ ap (λ l. in_turn name (fault 25) (makes_list (keys_of es)) (makes_list l) (entry_tuples (entry_list es) >>= makes_list)) (values_same es)
dict_same es f name (x ∷ []) = refl
dict_same es f name (x ∷ y ∷ []) = refl
dict_same es f name (x ∷ y ∷ z ∷ zs) = refl

-- the same, of what is at a place
pub text_here : (a : ℕ) (o : Option Obj) (bytes name : List ℕ) (xs : List Val) → o ≡ Some (text bytes) → object_method a o name xs ≡ of_text bytes name xs
text_here a o bytes name xs h = ap (λ p. object_method a p name xs) h ∙ text_same bytes name xs

pub list_here : (a : ℕ) (o : Option Obj) (members : List Val) (f : Bool) (name : List ℕ) (xs : List Val) → o ≡ Some (list members f) → object_method a o name xs ≡ of_list a o name xs
list_here a o members f name xs h = subst (λ p. object_method a p name xs ≡ of_list a p name xs) (sym h) (list_same a members f name xs)

pub dict_here : (a : ℕ) (o : Option Obj) (es : Entries) (f : Bool) (name : List ℕ) (xs : List Val) → o ≡ Some (dict es f) → object_method a o name xs ≡ of_dict o name xs
dict_here a o es f name xs h = subst (λ p. object_method a p name xs ≡ of_dict p name xs) (sym h) (dict_same es f name xs)
