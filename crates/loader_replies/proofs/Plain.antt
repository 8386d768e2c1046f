-- Replies have no floats.
use Rattle.std.proofs.Common.{◌≡◌, ℕ, List, [], ◌∷◌, map, Bool, true, false, ◌||◌, refl, ap, ◌∙◌}
use Rattle.std.specs.List.{AllByRecursion}
use Rattle.std.specs.Str.Lossy.{utf8_lossy}
use Rattle.std.proofs.lemmas.Str.{utf8_lossy-IsUtf8}
use Rattle.values_modules.specs.Values.{Attribute, single, several, Target}
use Rattle.serde_json.specs.Data.{Data, string, Members, no_members, member, put}
use Rattle.serde_json.specs.View.{items_of}
use Rattle.serde_json.specs.Written.{has_float, items_have_float, members_have_float}
use Rattle.std.specs.Ordering.{nat_cmp, match_ordering}
use Rattle.std.specs.Cmp.Lexicographic.{slice_cmp}
use Rattle.std.specs.declared.cmp.Ordering.{Ordering}
use Rattle.std.specs.declared.cmp.Ordering.TheVariants.{Less, Equal, Greater}
use Rattle.loader_replies.specs.Answers.{string_data, attribute_data, put_attributes, target_data, exported_names}
use Rattle.loader_replies.specs.Laws.{IsPlain, TextsStay, AnswersArePlain}

items_plain : (ds : List Data) → AllByRecursion IsPlain ds → items_have_float (items_of ds) ≡ false
items_plain [] h = refl
items_plain (d ∷ ds) h = ap (λ b. b || items_have_float (items_of ds)) h.0 ∙ items_plain ds h.1

each_plain : {A : Type 0} (f : A → Data) → ((x : A) → IsPlain (f x)) → (xs : List A) → items_have_float (items_of (map f xs)) ≡ false
each_plain f h [] = refl
each_plain f h (x ∷ xs) = ap (λ b. b || items_have_float (items_of (map f xs))) (h x) ∙ each_plain f h xs

attribute_plain : (a : Attribute) → IsPlain (attribute_data a)
attribute_plain (single s) = refl
attribute_plain (several ss) = each_plain string_data (λ s. refl) ss

members_plain : (l : List ℕ) (d : Data) (ms : Members) → members_have_float (member l d ms) ≡ false → (has_float d ≡ false) × (members_have_float ms ≡ false)
members_plain l d ms h = by (has_float d) refl h
  where
    by : (b : Bool) → has_float d ≡ b → b || members_have_float ms ≡ false → (has_float d ≡ false) × (members_have_float ms ≡ false)
    by true e h = absurd (cc)
    by false e h = (e, h)

put_plain : (k : List ℕ) (d : Data) (ms : Members) → IsPlain d → members_have_float ms ≡ false → members_have_float (put k d ms) ≡ false
put_plain k d no_members p h = ap (λ b. b || false) p
put_plain k d (member l e ms) p h = by (slice_cmp nat_cmp k l) (put_plain k d ms p (members_plain l e ms h).1)
  where
    by : (o : Ordering) → members_have_float (put k d ms) ≡ false → members_have_float (match_ordering o (member k d (member l e ms)) (member l d ms) (member l e (put k d ms))) ≡ false
    by Less g = ap (λ b. b || members_have_float (member l e ms)) p ∙ h
    by Equal g = ap (λ b. b || members_have_float ms) p ∙ (members_plain l e ms h).1
    by Greater g = ap (λ b. b || members_have_float (put k d ms)) (members_plain l e ms h).0 ∙ g

attributes_plain : (attributes : List (List ℕ × Attribute)) (ms : Members) → members_have_float ms ≡ false → members_have_float (put_attributes attributes ms) ≡ false
attributes_plain [] ms h = h
attributes_plain (a ∷ more) ms h = attributes_plain more (put (utf8_lossy a.0) (attribute_data a.1) ms) (put_plain (utf8_lossy a.0) (attribute_data a.1) ms (attribute_plain a.1) h)

target_plain : (t : Target) → IsPlain (target_data t)
target_plain t = ap (λ b. b || false) (attributes_plain t.attributes no_members refl)

or_false : (b : Bool) → b ≡ false → b || false ≡ false
or_false b h = ap (λ x. x || false) h

pub answers_are_plain : AnswersArePlain
answers_are_plain = record {
  loaded_package = λ name targets. or_false _ (each_plain target_data target_plain targets);
  faulty_package = λ name fault h. or_false _ h;
  packages = λ ds h. or_false _ (items_plain ds h);
  fault = λ code path line. refl;
  cycle = λ labels. or_false _ (each_plain string (λ s. refl) labels);
  exports = λ body. or_false _ (each_plain string (λ s. refl) (exported_names body));
  faulty_module = λ fault h. or_false _ h;
}

pub texts_stay : TextsStay
texts_stay s h = ap string (utf8_lossy-IsUtf8 s h)
