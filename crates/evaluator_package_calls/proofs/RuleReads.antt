-- The target of a rule's call, by its arguments at their places: types first, and then each attribute read for itself.
use Rattle.std.proofs.Common.{◌≡◌, ◌==◌, ◌&&◌, ℕ, Bool, true, false, cond, not, List, [], ◌∷◌, length, Some, None, Option, is_some, refl, ap, sym, ◌∙◌}
use Rattle.std.specs.Prelude.{Err, codes}
use lib.Pointwise.{bytes_decides}
use Rattle.labels.specs.Paths.{is_path}
use Rattle.values_objects.specs.declared.halt.Halt.{Halt}
use Rattle.values_objects.specs.declared.halt.Halt.TheVariants.{Code, Memory}
use Rattle.values_heap.specs.View.{Checks}
use Rattle.values_semantics.specs.declared.val.Val.{Val}
use Rattle.values_semantics.specs.declared.val.Val.TheVariants as v
use Rattle.values_semantics.specs.declared.builtin.Builtin.{Builtin}
use Rattle.values_semantics.specs.Builtins.{builtin_name}
use Rattle.values_semantics.specs.Outcome.{ValueOrFault, good, bad, then_checked}
use Rattle.values_semantics.specs.Heap.{Obj, text, list, tuple, dict, function, Store, at}
use Rattle.values_semantics.specs.Comparing.{same_text}
use Rattle.values_semantics.specs.Functions.{KeywordArguments, is_named, is_twice}
use Rattle.values_semantics.specs.Methods.{bytes_of}
use Rattle.values_modules.specs.Values.{Attribute, several, Target}
use Rattle.evaluator_semantics.specs.Arguments.{value_named}
use Rattle.evaluator_semantics.specs.Globs.{all_texts, object_texts, texts_in}
use Rattle.evaluator_semantics.specs.Rules.{Shape, one_text, one_label, texts, labels, paths, RuleArgument, typed, typed_if, all_typed, label_in, labels_in, as_shape, all_shaped, are_attributes, are_arguments, not_none, name_text, makes_target, target_of, shapes_of}
use Rattle.evaluator_package_calls.specs.Fields.{field_name, field_shape, shape_of, shapes}
use Rattle.evaluator_package_calls.specs.Lists.{tested}
use Rattle.evaluator_package_calls.specs.RuleArguments.{HasValues, given, value_at, typed_fields, labels_each, object_labels, labels_at, read_as, read_if, read_fields, described, target_read}
use Rattle.evaluator_package_calls.specs.View.{ChecksAs}
use Rattle.evaluator_package_calls.specs.declared.fields.Field.{Field}
use Rattle.evaluator_package_calls.specs.declared.fields.Field.TheVariants as d
use Rattle.evaluator_package_calls.proofs.RuleSlots.{named_some, are_taken}

-- ---- labels that are read as they come

labels_come : (name : List ℕ) (xs : List Val) (s : Store) (ts : List (List ℕ)) → all_texts xs s ≡ good ts → labels_each name xs s ≡ labels_in name ts
labels_come name [] s ts h = let e : [] ≡ ts = cc in ap (labels_in name) e
labels_come name (x ∷ xs) s ts h = by (λ more g. labels_come name xs s more g) (bytes_of x s) (all_texts xs s) refl refl h
  where
    by : ((more : List (List ℕ)) → all_texts xs s ≡ good more → labels_each name xs s ≡ labels_in name more) → (t : ValueOrFault (List ℕ)) (rest : ValueOrFault (List (List ℕ))) → bytes_of x s ≡ t → all_texts xs s ≡ rest → then_checked t (λ t. then_checked rest (λ ts. good (t ∷ ts))) ≡ good ts → labels_each name (x ∷ xs) s ≡ labels_in name ts
    by so (good t) (good more) e g h =
        let is : t ∷ more ≡ ts = cc in
        ap (λ r. then_checked r (λ t. then_checked (label_in name t) (λ l. then_checked (labels_each name xs s) (λ ls. good (l ∷ ls))))) e
        ∙ ap (λ r. then_checked (label_in name t) (λ l. then_checked r (λ ls. good (l ∷ ls)))) (so more g)
        ∙ ap (labels_in name) is
    by so (good t) (bad c) e g h = absurd cc
    by so (bad c) rest e g h = absurd cc

object_come : (name : List ℕ) (o : Option Obj) (s : Store) (ts : List (List ℕ)) → object_texts o s ≡ good ts → object_labels name o s ≡ labels_in name ts
object_come name (Some (list members f)) s ts h = labels_come name members s ts h
object_come name (Some (text b)) s ts h = absurd cc
object_come name (Some (tuple b)) s ts h = absurd cc
object_come name (Some (dict b g)) s ts h = absurd cc
object_come name (Some (function l g)) s ts h = absurd cc
object_come name None s ts h = absurd cc

labels_there : (name : List ℕ) (x : Val) (s : Store) (ts : List (List ℕ)) → texts_in x s ≡ good ts → labels_at name x s ≡ labels_in name ts
labels_there name (v.At a) s ts h = object_come name (at a s) s ts h
labels_there name x s ts h = absurd cc

-- an attribute of the right type, read directly
read_typed : (name : List ℕ) (shape : Shape) (x : Val) (s : Store) (a : Attribute) → typed shape x s ≡ good a → read_as name shape x s ≡ as_shape name shape a
read_typed name labels x s a h = by (texts_in x s) refl h
  where
    by : (r : ValueOrFault (List (List ℕ))) → texts_in x s ≡ r → then_checked r (λ ts. good (several ts)) ≡ good a → read_as name labels x s ≡ as_shape name labels a
    by (good ts) e h =
        let is : several ts ≡ a = cc in
        ap (λ r. then_checked r (λ ls. good (several ls))) (labels_there name x s ts e) ∙ ap (as_shape name labels) is
    by (bad c) e h = absurd cc
read_typed name one_text x s a h = ap (λ r. then_checked r (as_shape name one_text)) h
read_typed name one_label x s a h = ap (λ r. then_checked r (as_shape name one_label)) h
read_typed name texts x s a h = ap (λ r. then_checked r (as_shape name texts)) h
read_typed name paths x s a h = ap (λ r. then_checked r (as_shape name paths)) h

-- ---- all attributes

-- where all have their types, they are read one after the other
pub reads_all : (name : List ℕ) (xs : List Field) (slots : List (Option Val)) (s : Store) (gs : List RuleArgument) → typed_fields xs slots s ≡ good gs → read_fields name xs slots s ≡ all_shaped name gs
reads_all name [] slots s gs h = let e : [] ≡ gs = cc in ap (all_shaped name) e
reads_all name (x ∷ xs) slots s gs h = by (λ more g. reads_all name xs slots s more g) (value_at slots x) h
  where
    there : ((more : List RuleArgument) → typed_fields xs slots s ≡ good more → read_fields name xs slots s ≡ all_shaped name more) → (y : Val) (t : ValueOrFault Attribute) (rest : ValueOrFault (List RuleArgument)) → typed (field_shape x) y s ≡ t → typed_fields xs slots s ≡ rest
        → then_checked t (λ t. then_checked rest (λ gs. good (record { attribute = field_name x; shape = field_shape x; texts = t } ∷ gs))) ≡ good gs
        → read_if name x (Some y) s (read_fields name xs slots s) ≡ all_shaped name gs
    there so y (good a) (good more) e g h =
        let item : RuleArgument = record { attribute = field_name x; shape = field_shape x; texts = a } in
        let is : item ∷ more ≡ gs = cc in
        ap (λ r. then_checked r (λ a. then_checked (read_fields name xs slots s) (λ more. good ((field_name x, a) ∷ more)))) (read_typed name (field_shape x) y s a e)
        ∙ ap (λ r. then_checked (as_shape name (field_shape x) a) (λ a. then_checked r (λ more. good ((field_name x, a) ∷ more)))) (so more g)
        ∙ ap (all_shaped name) is
    there so y (good a) (bad c) e g h = absurd cc
    there so y (bad c) rest e g h = absurd cc

    by : ((more : List RuleArgument) → typed_fields xs slots s ≡ good more → read_fields name xs slots s ≡ all_shaped name more) → (o : Option Val) → typed_if (shape_of x) o s (typed_fields xs slots s) ≡ good gs → read_if name x o s (read_fields name xs slots s) ≡ all_shaped name gs
    by so None h = so gs h
    by so (Some y) h = there so y (typed (field_shape x) y s) (typed_fields xs slots s) refl refl h

-- the values at their places are those of the arguments that are not None

neither : (a b : Bool) → cond a true b ≡ false → (a ≡ false) × (b ≡ false)
neither true b e = absurd cc
neither false b e = (refl, e)

not_there : (name : List ℕ) (ns : KeywordArguments) → is_named name ns ≡ false → value_named name (not_none ns) ≡ None
not_there name [] h = refl
not_there name ((n, v.Nothing) ∷ ns) h = not_there name ns (neither (same_text name n) (is_named name ns) h).1
not_there name ((n, x) ∷ ns) h =
    let both = neither (same_text name n) (is_named name ns) h in
    ap (λ b. cond b (Some x) (value_named name (not_none ns))) both.0 ∙ not_there name ns both.1

given_named : (name : List ℕ) (ns : KeywordArguments) → is_twice ns ≡ false → given (Some (value_named name ns)) ≡ value_named name (not_none ns)
given_named name [] h = refl
given_named name ((n, v.Nothing) ∷ ns) h = by (λ e. given_named name ns e) (same_text name n) refl
  where
    once : (is_named n ns ≡ false) × (is_twice ns ≡ false)
    once = neither (is_named n ns) (is_twice ns) h

    by : (is_twice ns ≡ false → given (Some (value_named name ns)) ≡ value_named name (not_none ns)) → (b : Bool) → same_text name n ≡ b → given (Some (cond b (Some v.Nothing) (value_named name ns))) ≡ value_named name (not_none ns)
    by so true e = sym (not_there name ns (ap (λ m. is_named m ns) ((bytes_decides name n).0 e) ∙ once.0))
    by so false e = so once.1
given_named name ((n, x) ∷ ns) h = by (given_named name ns (neither (is_named n ns) (is_twice ns) h).1) (same_text name n)
  where
    by : given (Some (value_named name ns)) ≡ value_named name (not_none ns) → (b : Bool) → given (Some (cond b (Some x) (value_named name ns))) ≡ cond b (Some x) (value_named name (not_none ns))
    by so true = refl
    by so false = so

all_at : (ns : KeywordArguments) (slots : List (Option Val)) → is_twice ns ≡ false → HasValues ns slots → (x : Field) → value_at slots x ≡ value_named (field_name x) (not_none ns)
all_at ns slots once has x = ap given (has x) ∙ given_named (field_name x) ns once

typed_at : (ns : KeywordArguments) (slots : List (Option Val)) (xs : List Field) (s : Store) → is_twice ns ≡ false → HasValues ns slots → typed_fields xs slots s ≡ all_typed (shapes xs) (not_none ns) s
typed_at ns slots [] s once has = refl
typed_at ns slots (x ∷ xs) s once has =
    ap (λ o. typed_if (shape_of x) o s (typed_fields xs slots s)) (all_at ns slots once has x)
    ∙ ap (λ r. typed_if (shape_of x) (value_named (field_name x) (not_none ns)) s r) (typed_at ns slots xs s once has)

-- ---- the target

shaped : (kind name : List ℕ) (package_name : List ℕ) (xs : List Field) (slots : List (Option Val)) (s : Store) (gs : List RuleArgument) → typed_fields xs slots s ≡ good gs → makes_target kind package_name name gs ≡ target_read kind package_name name xs slots s
shaped kind name package_name xs slots s gs e =
    ap (λ r. cond (is_path name) (then_checked r (λ attributes. good (record { kind = kind; name = name; attributes = attributes }))) (bad 15)) (sym (reads_all package_name xs slots s gs e))

module _ (f : Builtin) (package_name : List ℕ) (xs : List Field) (slots : List (Option Val)) (s : Store) where
  pub no_name : (c : ℕ) → name_text (value_at slots d.Name) s ≡ bad c → described f package_name xs slots s ≡ bad c
  no_name c e = ap (λ r. then_checked r (λ name. then_checked (typed_fields xs slots s) (makes_target (builtin_name f) package_name name))) e

  pub name_halts : {B C : Type 0} → (g : B → List ℕ) (k : C → Target) (halt : Halt) → ChecksAs g (name_text (value_at slots d.Name) s) (Err halt) → ChecksAs k (described f package_name xs slots s) (Err halt)
  name_halts g k (Code c) e = no_name c e
  name_halts g k (Memory _) e = tt

  module _ (name : List ℕ) (is : name_text (value_at slots d.Name) s ≡ good name) where
    goes_on : (r : ValueOrFault (List RuleArgument)) → typed_fields xs slots s ≡ r → described f package_name xs slots s ≡ then_checked r (makes_target (builtin_name f) package_name name)
    goes_on r e =
        ap (λ r. then_checked r (λ name. then_checked (typed_fields xs slots s) (makes_target (builtin_name f) package_name name))) is
        ∙ ap (λ r. then_checked r (makes_target (builtin_name f) package_name name)) e

    pub untyped : (c : ℕ) → tested (typed_fields xs slots s) ≡ bad c → described f package_name xs slots s ≡ bad c
    untyped c h = by (typed_fields xs slots s) refl h
      where
        by : (r : ValueOrFault (List RuleArgument)) → typed_fields xs slots s ≡ r → tested r ≡ bad c → described f package_name xs slots s ≡ bad c
        by (good gs) e h = absurd cc
        by (bad d) e h = let same : d ≡ c = cc in goes_on (bad d) e ∙ ap (λ n. bad n) same

    pub type_halts : {C : Type 0} → (k : C → Target) (halt : Halt) → Checks (tested (typed_fields xs slots s)) (Err halt) → ChecksAs k (described f package_name xs slots s) (Err halt)
    type_halts k (Code c) e = untyped c e
    type_halts k (Memory _) e = tt

    pub read_at_once : tested (typed_fields xs slots s) ≡ good tt → described f package_name xs slots s ≡ target_read (builtin_name f) package_name name xs slots s
    read_at_once h = by (typed_fields xs slots s) refl h
      where
        by : (r : ValueOrFault (List RuleArgument)) → typed_fields xs slots s ≡ r → tested r ≡ good tt → described f package_name xs slots s ≡ target_read (builtin_name f) package_name name xs slots s
        by (good gs) e h = goes_on (good gs) e ∙ shaped (builtin_name f) name package_name xs slots s gs e
        by (bad d) e h = absurd cc

module _ (f : Builtin) (package_name : List ℕ) (plain : List Val) (ns : KeywordArguments) (s : Store) where
  chosen : (b : Bool) → are_arguments plain ns (shapes_of f) ≡ b → target_of f package_name plain ns s ≡ cond b (then_checked (name_text (value_named (codes "name") (not_none ns)) s) (λ name. then_checked (all_typed (shapes_of f) (not_none ns) s) (makes_target (builtin_name f) package_name name))) (bad 25)
  chosen b e = ap (λ b. cond b (then_checked (name_text (value_named (codes "name") (not_none ns)) s) (λ name. then_checked (all_typed (shapes_of f) (not_none ns) s) (makes_target (builtin_name f) package_name name))) (bad 25)) e

  pub plain_refused : (length plain == 0) ≡ false → target_of f package_name plain ns s ≡ bad 25
  plain_refused e = chosen false (ap (λ b. b && not (is_twice ns) && are_attributes (not_none ns) (shapes_of f) && is_named (codes "name") (not_none ns)) e)

  together : (a b c d : Bool) → (b && c) ≡ false → (a && b && c && d) ≡ false
  together true true true d e = absurd cc
  together true true false d e = refl
  together true false c d e = refl
  together false b c d e = refl

  apart : (a b c d : Bool) → a ≡ true → (b && c) ≡ true → (a && b && c && d) ≡ d
  apart true true true d e g = refl
  apart true true false d e g = absurd cc
  apart true false c d e g = absurd cc
  apart false b c d e g = absurd cc

  module _ (xs : List Field) (are : shapes xs ≡ shapes_of f) where
    pub named_refused : are_taken ns (shapes xs) ≡ false → target_of f package_name plain ns s ≡ bad 25
    named_refused e = chosen false (together (length plain == 0) (not (is_twice ns)) (are_attributes (not_none ns) (shapes_of f)) (is_named (codes "name") (not_none ns)) (ap (are_taken ns) (sym are) ∙ e))

    pub described_is : (slots : List (Option Val)) → (length plain == 0) ≡ true → are_taken ns (shapes xs) ≡ true → HasValues ns slots → described f package_name xs slots s ≡ target_of f package_name plain ns s
    described_is slots none takes has = by (value_named (codes "name") (not_none ns)) refl
      where
        once : is_twice ns ≡ false
        once = first (is_twice ns) (are_attributes (not_none ns) (shapes xs)) takes
          where
            first : (a b : Bool) → (not a && b) ≡ true → a ≡ false
            first true b e = absurd cc
            first false b e = refl

        named : is_named (codes "name") (not_none ns) ≡ are_arguments plain ns (shapes_of f)
        named = sym (apart (length plain == 0) (not (is_twice ns)) (are_attributes (not_none ns) (shapes_of f)) (is_named (codes "name") (not_none ns)) none (ap (are_taken ns) (sym are) ∙ takes))

        at_name : described f package_name xs slots s ≡ then_checked (name_text (value_named (codes "name") (not_none ns)) s) (λ name. then_checked (all_typed (shapes_of f) (not_none ns) s) (makes_target (builtin_name f) package_name name))
        at_name =
            ap (λ o. then_checked (name_text o s) (λ name. then_checked (typed_fields xs slots s) (makes_target (builtin_name f) package_name name))) (all_at ns slots once has d.Name)
            ∙ ap (λ r. then_checked (name_text (value_named (codes "name") (not_none ns)) s) (λ name. then_checked r (makes_target (builtin_name f) package_name name))) (typed_at ns slots xs s once has ∙ ap (λ l. all_typed l (not_none ns) s) are)

        by : (o : Option Val) → value_named (codes "name") (not_none ns) ≡ o → described f package_name xs slots s ≡ target_of f package_name plain ns s
        by (Some x) e = at_name ∙ sym (chosen true (sym named ∙ named_some (codes "name") (not_none ns) ∙ ap is_some e))
        by None e =
            at_name ∙ ap (λ o. then_checked (name_text o s) (λ name. then_checked (all_typed (shapes_of f) (not_none ns) s) (makes_target (builtin_name f) package_name name))) e
            ∙ sym (chosen false (sym named ∙ named_some (codes "name") (not_none ns) ∙ ap is_some e))
