-- One item more of a list whose results are gathered.
use Rattle.std.proofs.Common.{◌≡◌, ◌+◌, ◌<◌, ℕ, zero, suc, List, [], ◌∷◌, ◌++◌, length, drop, get_or, map, Some, None, Option, refl, ap, sym, ◌∙◌, add-one, append_assoc, arith}
use Rattle.std.specs.Prelude.{slice_get, Err}
use Rattle.std.proofs.lemmas.List.{map-append}
use Rattle.std.specs.declared.vec.Vec.{Vec}
use Rattle.std.specs.declared.alloc.Global.{Global}
use Rattle.values_semantics.specs.declared.val.Val.{Val}
use Rattle.values_semantics.specs.Heap.{Store}
use Rattle.values_semantics.specs.Methods.{bytes_of}
use Rattle.values_semantics.specs.Outcome.{ValueOrFault, good, bad, then_checked}
use Rattle.values_objects.specs.declared.halt.Halt.{Halt}
use Rattle.values_objects.specs.declared.halt.Halt.TheVariants.{Code, Memory}
use Rattle.values_heap.specs.View.{Checks, ChecksItems}
use Rattle.values_modules.specs.Values.{Attribute}
use Rattle.evaluator_semantics.specs.Globs.{all_texts}
use Rattle.evaluator_semantics.specs.Rules.{RuleArgument, typed, typed_if, label_in}
use Rattle.evaluator_state.specs.View.{attributed_of}
use Rattle.evaluator_state.specs.declared.state.TargetAttribute.{TargetAttribute}
use Rattle.evaluator_package_calls.specs.Fields.{field_name, field_shape, shape_of}
use Rattle.evaluator_package_calls.specs.Lists.{tested}
use Rattle.evaluator_package_calls.specs.RuleArguments.{value_at, typed_fields, labels_each, read_as, read_if, read_fields}
use Rattle.evaluator_package_calls.specs.View.{ChecksAs}
use Rattle.evaluator_package_calls.specs.declared.fields.Field.{Field}
use Rattle.values_builtins.proofs.Rows.{drop_item}

-- what is at a place, before what follows it
pub drop_there : {A : Type 0} → (xs : List A) (i : ℕ) (x : A) → slice_get xs i ≡ Some x → drop i xs ≡ x ∷ drop (i + 1) xs
drop_there {A} xs i x h = rw add-one (there xs i h)
  where
    there : (xs : List A) (i : ℕ) → slice_get xs i ≡ Some x → drop i xs ≡ x ∷ drop (suc i) xs
    there [] i h = absurd cc
    there (y ∷ ys) zero h = let e : y ≡ x = cc in ap (λ z. z ∷ ys) e
    there (y ∷ ys) (suc i) h = there ys i h

-- what is in a list is the same whatever stands for what is past its end
pub at_default : {A : Type 0} → (xs : List A) (i : ℕ) (a b : A) → i < length xs → get_or xs i a ≡ get_or xs i b
at_default [] i a b h = absurd (omega arith)
at_default (x ∷ xs) zero a b h = refl
at_default (x ∷ xs) (suc i) a b h = at_default xs i a b (omega arith)

pub none_left : {A : Type 0} → (o : Option A) → ((x : A) → o ≡ Some x → ⊥) → o ≡ None
none_left (Some x) h = absurd (h x refl)
none_left None h = refl

more_checked : {B : Type 0} (r : ValueOrFault (List B)) (b : B) (all : List B) → then_checked (then_checked r (λ bs. good (b ∷ bs))) (λ bs. good (all ++ bs)) ≡ then_checked r (λ bs. good ((all ++ b ∷ []) ++ bs))
more_checked (good bs) b all = ap good (sym (append_assoc all (b ∷ []) bs))
more_checked (bad c) b all = refl

-- ---- strings

module _ (xs : List Val) (s : Store) (i : ℕ) (x : Val) (is : slice_get xs i ≡ Some x) where
  abbrev rest : ValueOrFault (List (List ℕ))
  rest = all_texts (drop (i + 1) xs) s

  first : all_texts (drop i xs) s ≡ then_checked (bytes_of x s) (λ t. then_checked rest (λ ts. good (t ∷ ts)))
  first = ap (λ l. all_texts l s) (drop_there xs i x is)

  pub texts_step : (t : List ℕ) (done more : List (List ℕ)) → bytes_of x s ≡ good t → more ≡ done ++ t ∷ []
      → then_checked (all_texts (drop i xs) s) (λ ts. good (done ++ ts)) ≡ all_texts xs s → then_checked rest (λ ts. good (more ++ ts)) ≡ all_texts xs s
  texts_step t done more e m inv =
      ap (λ all. then_checked rest (λ ts. good (all ++ ts))) m
      ∙ sym (more_checked rest t done)
      ∙ ap (λ r. then_checked (then_checked r (λ t. then_checked rest (λ ts. good (t ∷ ts)))) (λ ts. good (done ++ ts))) (sym e)
      ∙ ap (λ r. then_checked r (λ ts. good (done ++ ts))) (sym first)
      ∙ inv

  pub texts_stop : (c : ℕ) (done : List (List ℕ)) → bytes_of x s ≡ bad c → then_checked (all_texts (drop i xs) s) (λ ts. good (done ++ ts)) ≡ all_texts xs s → all_texts xs s ≡ bad c
  texts_stop c done e inv = sym inv ∙ ap (λ r. then_checked r (λ ts. good (done ++ ts))) (first ∙ ap (λ r. then_checked r (λ t. then_checked rest (λ ts. good (t ∷ ts)))) e)

  pub texts_halt : (halt : Halt) (done : List (List ℕ)) → Checks (bytes_of x s) (Err halt) → then_checked (all_texts (drop i xs) s) (λ ts. good (done ++ ts)) ≡ all_texts xs s → ChecksItems (all_texts xs s) (Err halt)
  texts_halt (Code c) done e inv = texts_stop c done e inv
  texts_halt (Memory _) done e inv = tt

  abbrev labels_rest : List ℕ → ValueOrFault (List (List ℕ))
  labels_rest name = labels_each name (drop (i + 1) xs) s

  label_first : (name : List ℕ) → labels_each name (drop i xs) s ≡ then_checked (bytes_of x s) (λ t. then_checked (label_in name t) (λ l. then_checked (labels_rest name) (λ ls. good (l ∷ ls))))
  label_first name = ap (λ l. labels_each name l s) (drop_there xs i x is)

  in_turn : (name : List ℕ) (r : ValueOrFault (List ℕ)) → then_checked r (λ t. then_checked (label_in name t) (λ l. then_checked (labels_rest name) (λ ls. good (l ∷ ls)))) ≡ then_checked (then_checked r (label_in name)) (λ l. then_checked (labels_rest name) (λ ls. good (l ∷ ls)))
  in_turn name (good t) = refl
  in_turn name (bad c) = refl

  pub labels_step : (name l : List ℕ) (done more : List (List ℕ)) → then_checked (bytes_of x s) (label_in name) ≡ good l → more ≡ done ++ l ∷ []
      → then_checked (labels_each name (drop i xs) s) (λ ls. good (done ++ ls)) ≡ labels_each name xs s → then_checked (labels_rest name) (λ ls. good (more ++ ls)) ≡ labels_each name xs s
  labels_step name l done more e m inv =
      ap (λ all. then_checked (labels_rest name) (λ ls. good (all ++ ls))) m
      ∙ sym (more_checked (labels_rest name) l done)
      ∙ ap (λ r. then_checked (then_checked r (λ l. then_checked (labels_rest name) (λ ls. good (l ∷ ls)))) (λ ls. good (done ++ ls))) (sym e)
      ∙ ap (λ r. then_checked r (λ ls. good (done ++ ls))) (sym (label_first name ∙ in_turn name (bytes_of x s)))
      ∙ inv

  pub labels_stop : (name : List ℕ) (c : ℕ) (done : List (List ℕ)) → then_checked (bytes_of x s) (label_in name) ≡ bad c → then_checked (labels_each name (drop i xs) s) (λ ls. good (done ++ ls)) ≡ labels_each name xs s → labels_each name xs s ≡ bad c
  labels_stop name c done e inv =
      sym inv ∙ ap (λ r. then_checked r (λ ls. good (done ++ ls))) (label_first name ∙ in_turn name (bytes_of x s) ∙ ap (λ r. then_checked r (λ l. then_checked (labels_rest name) (λ ls. good (l ∷ ls)))) e)

  pub labels_halt : (name : List ℕ) (halt : Halt) (done : List (List ℕ)) → Checks (then_checked (bytes_of x s) (label_in name)) (Err halt) → then_checked (labels_each name (drop i xs) s) (λ ls. good (done ++ ls)) ≡ labels_each name xs s
      → ChecksItems (labels_each name xs s) (Err halt)
  labels_halt name (Code c) done e inv = labels_stop name c done e inv
  labels_halt name (Memory _) done e inv = tt

-- ---- whether there is a fault

pub unit_more : {A B : Type 0} (r : ValueOrFault A) (rest : ValueOrFault (List B)) (g : A → B) → tested r ≡ good tt
    → tested (then_checked r (λ a. then_checked rest (λ bs. good (g a ∷ bs)))) ≡ tested rest
unit_more (good a) (good bs) g e = refl
unit_more (good a) (bad c) g e = refl
unit_more (bad c) rest g e = absurd cc

pub unit_stop : {A B : Type 0} (r : ValueOrFault A) (rest : ValueOrFault (List B)) (g : A → B) (c : ℕ) → tested r ≡ bad c
    → tested (then_checked r (λ a. then_checked rest (λ bs. good (g a ∷ bs)))) ≡ bad c
unit_stop (good a) rest g c e = absurd cc
unit_stop (bad d) rest g c e = e

pub tested_step : (xs : List Val) (s : Store) (i : ℕ) (x : Val) → slice_get xs i ≡ Some x → tested (bytes_of x s) ≡ good tt → tested (all_texts (drop i xs) s) ≡ tested (all_texts xs s)
    → tested (all_texts (drop (i + 1) xs) s) ≡ tested (all_texts xs s)
tested_step xs s i x is e inv = sym (unit_more (bytes_of x s) (all_texts (drop (i + 1) xs) s) (λ t. t) e) ∙ ap (λ l. tested (all_texts l s)) (sym (drop_there xs i x is)) ∙ inv

pub tested_stop : (xs : List Val) (s : Store) (i : ℕ) (x : Val) (c : ℕ) → slice_get xs i ≡ Some x → tested (bytes_of x s) ≡ bad c → tested (all_texts (drop i xs) s) ≡ tested (all_texts xs s)
    → tested (all_texts xs s) ≡ bad c
tested_stop xs s i x c is e inv = sym inv ∙ ap (λ l. tested (all_texts l s)) (drop_there xs i x is) ∙ unit_stop (bytes_of x s) (all_texts (drop (i + 1) xs) s) (λ t. t) c e

pub tested_halt : (xs : List Val) (s : Store) (i : ℕ) (x : Val) (halt : Halt) → slice_get xs i ≡ Some x → Checks (tested (bytes_of x s)) (Err halt)
    → tested (all_texts (drop i xs) s) ≡ tested (all_texts xs s) → Checks (tested (all_texts xs s)) (Err halt)
tested_halt xs s i x (Code c) is e inv = tested_stop xs s i x c is e inv
tested_halt xs s i x (Memory _) is e inv = tt

-- ---- attributes

module _ (xs : List Field) (slots : List (Option Val)) (s : Store) (i : ℕ) (x : Field) (lt : i < length xs) (is : x ≡ get_or xs i x) where
  abbrev typed_rest : ValueOrFault (List RuleArgument)
  typed_rest = typed_fields (drop (i + 1) xs) slots s

  typed_first : typed_fields (drop i xs) slots s ≡ typed_if (shape_of x) (value_at slots x) s typed_rest
  typed_first = ap (λ l. typed_fields l slots s) (drop_item xs i x lt is)

  pub typed_over : value_at slots x ≡ None → tested (typed_fields (drop i xs) slots s) ≡ tested (typed_fields xs slots s) → tested typed_rest ≡ tested (typed_fields xs slots s)
  typed_over n inv = ap (λ r. tested r) (sym (typed_first ∙ ap (λ o. typed_if (shape_of x) o s typed_rest) n)) ∙ inv

  pub typed_step : (y : Val) → value_at slots x ≡ Some y → tested (typed (field_shape x) y s) ≡ good tt
      → tested (typed_fields (drop i xs) slots s) ≡ tested (typed_fields xs slots s) → tested typed_rest ≡ tested (typed_fields xs slots s)
  typed_step y v e inv =
      sym (unit_more (typed (field_shape x) y s) typed_rest (λ t. record { attribute = field_name x; shape = field_shape x; texts = t }) e)
      ∙ ap (λ r. tested r) (sym (typed_first ∙ ap (λ o. typed_if (shape_of x) o s typed_rest) v))
      ∙ inv

  pub typed_stop : (y : Val) (c : ℕ) → value_at slots x ≡ Some y → tested (typed (field_shape x) y s) ≡ bad c
      → tested (typed_fields (drop i xs) slots s) ≡ tested (typed_fields xs slots s) → tested (typed_fields xs slots s) ≡ bad c
  typed_stop y c v e inv =
      sym inv
      ∙ ap (λ r. tested r) (typed_first ∙ ap (λ o. typed_if (shape_of x) o s typed_rest) v)
      ∙ unit_stop (typed (field_shape x) y s) typed_rest (λ t. record { attribute = field_name x; shape = field_shape x; texts = t }) c e

  pub typed_halt : (y : Val) (halt : Halt) → value_at slots x ≡ Some y → Checks (tested (typed (field_shape x) y s)) (Err halt)
      → tested (typed_fields (drop i xs) slots s) ≡ tested (typed_fields xs slots s) → Checks (tested (typed_fields xs slots s)) (Err halt)
  typed_halt y (Code c) v e inv = typed_stop y c v e inv
  typed_halt y (Memory _) v e inv = tt

  module _ (name : List ℕ) (done : List TargetAttribute) (inv : then_checked (read_fields name (drop i xs) slots s) (λ more. good (map attributed_of done ++ more)) ≡ read_fields name xs slots s) where
    abbrev read_rest : ValueOrFault (List (List ℕ × Attribute))
    read_rest = read_fields name (drop (i + 1) xs) slots s

    read_first : (o : Option Val) → value_at slots x ≡ o → then_checked (read_if name x o s read_rest) (λ more. good (map attributed_of done ++ more)) ≡ read_fields name xs slots s
    read_first o v = ap (λ r. then_checked r (λ more. good (map attributed_of done ++ more))) (sym (ap (λ l. read_fields name l slots s) (drop_item xs i x lt is) ∙ ap (λ o. read_if name x o s read_rest) v)) ∙ inv

    pub read_over : value_at slots x ≡ None → then_checked read_rest (λ more. good (map attributed_of done ++ more)) ≡ read_fields name xs slots s
    read_over n = read_first None n

    module _ (y : Val) (v : value_at slots x ≡ Some y) where
      abbrev in_a_row : ValueOrFault Attribute
      in_a_row = read_as name (field_shape x) y s

      pub read_step : (a : TargetAttribute) (more : List TargetAttribute) → then_checked in_a_row (λ b. good (field_name x, b)) ≡ good (attributed_of a) → more ≡ done ++ a ∷ []
          → then_checked read_rest (λ rest. good (map attributed_of more ++ rest)) ≡ read_fields name xs slots s
      read_step a more e m =
          ap (λ l. then_checked read_rest (λ rest. good (l ++ rest))) (ap (map attributed_of) m ∙ map-append attributed_of done (a ∷ []))
          ∙ sym (more_checked read_rest (attributed_of a) (map attributed_of done))
          ∙ ap (λ r. then_checked r (λ more. good (map attributed_of done ++ more))) (sym (named in_a_row e))
          ∙ read_first (Some y) v
        where
          named : (r : ValueOrFault Attribute) → then_checked r (λ b. good (field_name x, b)) ≡ good (attributed_of a) → then_checked r (λ b. then_checked read_rest (λ more. good ((field_name x, b) ∷ more))) ≡ then_checked read_rest (λ more. good (attributed_of a ∷ more))
          named (good b) h = let same : (field_name x, b) ≡ attributed_of a = cc in ap (λ p. then_checked read_rest (λ more. good (p ∷ more))) same
          named (bad c) h = absurd cc

      pub read_stop : (c : ℕ) → then_checked {B = List ℕ × Attribute} in_a_row (λ b. good (field_name x, b)) ≡ bad c → read_fields name xs slots s ≡ bad c
      read_stop c e = sym (read_first (Some y) v) ∙ ap (λ r. then_checked r (λ more. good (map attributed_of done ++ more))) (stopped in_a_row e)
        where
          stopped : (r : ValueOrFault Attribute) → then_checked {B = List ℕ × Attribute} r (λ b. good (field_name x, b)) ≡ bad c → then_checked {B = List (List ℕ × Attribute)} r (λ b. then_checked read_rest (λ more. good ((field_name x, b) ∷ more))) ≡ bad c
          stopped (good b) h = absurd cc
          stopped (bad d) h = let same : d ≡ c = cc in ap (λ n. bad n) same

      pub read_halt : (halt : Halt) → ChecksAs attributed_of (then_checked {B = List ℕ × Attribute} in_a_row (λ b. good (field_name x, b))) (Err halt) → ChecksAs (λ (v : Vec TargetAttribute Global). map attributed_of v.items) (read_fields name xs slots s) (Err halt)
      read_halt (Code c) e = read_stop c e
      read_halt (Memory _) e = tt
