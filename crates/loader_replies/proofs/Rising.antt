-- Names in byte order.
use Rattle.std.proofs.Common.{◌≡◌, ℕ, List, [], ◌∷◌, map, refl, ap, ◌∙◌, subst}
use Rattle.std.specs.Ordering.{nat_cmp, ordering_reverse, match_ordering}
use Rattle.std.specs.Cmp.Lexicographic.{slice_cmp, nat_list_cmp_total}
use Rattle.std.specs.declared.cmp.Ordering.{Ordering}
use Rattle.std.specs.declared.cmp.Ordering.TheVariants.{Less, Equal, Greater}
use Rattle.evaluator_semantics.specs.Sorting.{RisesFrom, Rises}
use Rattle.evaluator_semantics.specs.Modules.{exports}
use Rattle.evaluator_semantics.proofs.Rising.{in_order_rises}
use Rattle.values_modules.specs.Values.{Attribute}
use Rattle.serde_json.specs.Data.{Data, Members, no_members, member, put}
use Rattle.std.specs.Str.Lossy.{utf8_lossy}
use Rattle.loader_replies.specs.Answers.{attribute_data, put_attributes, exported_names}
use Rattle.loader_replies.specs.Laws.{names_of, AttributesRise, ExportsRise}

turned : (x y : List ℕ) → slice_cmp nat_cmp x y ≡ Greater → slice_cmp nat_cmp y x ≡ Less
turned x y e = nat_list_cmp_total.antisymm y x ∙ ap ordering_reverse e

put_from : (z k : List ℕ) (d : Data) (ms : Members) → slice_cmp nat_cmp z k ≡ Less → RisesFrom z (names_of ms) → RisesFrom z (names_of (put k d ms))
put_from z k d no_members h r = (h, tt)
put_from z k d (member l e ms) h r = go (slice_cmp nat_cmp k l) refl (λ g. put_from l k d ms (turned k l g) r.1)
  where
    go : (o : Ordering) → slice_cmp nat_cmp k l ≡ o → (slice_cmp nat_cmp k l ≡ Greater → RisesFrom l (names_of (put k d ms)))
        → RisesFrom z (names_of (match_ordering o (member k d (member l e ms)) (member l d ms) (member l e (put k d ms))))
    go Less g f = (h, (g, r.1))
    go Equal g f = r
    go Greater g f = (r.0, f g)

put_rises : (k : List ℕ) (d : Data) (ms : Members) → Rises (names_of ms) → Rises (names_of (put k d ms))
put_rises k d no_members r = tt
put_rises k d (member l e ms) r = go (slice_cmp nat_cmp k l) refl
  where
    go : (o : Ordering) → slice_cmp nat_cmp k l ≡ o → Rises (names_of (match_ordering o (member k d (member l e ms)) (member l d ms) (member l e (put k d ms))))
    go Less g = (g, r)
    go Equal g = r
    go Greater g = put_from l k d ms (turned k l g) r

attributes_from : (attributes : List (List ℕ × Attribute)) (ms : Members) → Rises (names_of ms) → Rises (names_of (put_attributes attributes ms))
attributes_from [] ms r = r
attributes_from (a ∷ more) ms r = attributes_from more (put (utf8_lossy a.0) (attribute_data a.1) ms) (put_rises (utf8_lossy a.0) (attribute_data a.1) ms r)

pub attributes_rise : AttributesRise
attributes_rise attributes = attributes_from attributes no_members tt

themselves : (xs : List (List ℕ)) → map (λ x. x) xs ≡ xs
themselves [] = refl
themselves (x ∷ xs) = ap (λ l. x ∷ l) (themselves xs)

pub exports_rise : ExportsRise
exports_rise body = subst Rises (themselves (exported_names body)) (in_order_rises (λ x. x) (exports body))
