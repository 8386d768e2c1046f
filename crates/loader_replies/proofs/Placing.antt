-- Rows put in byte order of their names.
use Rattle.std.proofs.Common.{◌≡◌, ◌≢◌, ℕ, suc, ◌+◌, ◌<◌, ◌≤◌, Bool, true, false, List, [], ◌∷◌, ◌++◌, length, take, drop, get_or, refl, ap, sym, ◌∙◌, subst, arith, drop-cons, drop_of_length-le}
use Rattle.std.proofs.Math.Seq.{take-suc}
use Rattle.std.proofs.lemmas.List.{take-append-drop, set_split}
use Rattle.std.specs.Prelude.{slice_set}
use Rattle.std.specs.List.{insert}
use Rattle.std.specs.FinMap as map
use Rattle.std.specs.Ordering.{nat_cmp, match_ordering, is_gt, is_eq}
use Rattle.std.specs.Cmp.Lexicographic.{slice_cmp}
use Rattle.std.specs.declared.cmp.Ordering.{Ordering}
use Rattle.std.specs.declared.cmp.Ordering.TheVariants.{Less, Equal, Greater}
use Rattle.serde_json.specs.Data.{Data, Members, no_members, member, put}
use Rattle.values_modules.specs.View.{attribute_of}
use Rattle.loader_replies.specs.Answers.{attribute_data}
use Rattle.loader_replies.specs.Order.{name_of, onto, Passes}
use Rattle.loader_replies.specs.declared.order.Row.{Row}

pub onto_append : (xs ys : List Row) (ms : Members) → onto (xs ++ ys) ms ≡ onto xs (onto ys ms)
onto_append [] ys ms = refl
onto_append (x ∷ xs) ys ms = ap (member (name_of x) (attribute_data (attribute_of x.value))) (onto_append xs ys ms)

abbrev Below : List ℕ → List Row → ℕ → Type 0
Below name rows at = (d : Data) (ms : Members) → put name d (onto (take at rows) ms) ≡ onto (take at rows) (put name d ms)

-- one row more is below the name
pub below_more : (name : List ℕ) (rows : List Row) (at : ℕ) (r : Row) → at < length rows → r ≡ get_or rows at r → slice_cmp nat_cmp name (name_of r) ≡ Greater → Below name rows at → Below name rows (at + 1)
below_more name rows at r within is greater below d ms =
    let n : suc at ≡ at + 1 = omega arith in
    let more : take (at + 1) rows ≡ take at rows ++ r ∷ [] = ap (λ k. take k rows) (sym n) ∙ take-suc rows at r within ∙ ap (λ z. take at rows ++ z ∷ []) (sym is) in
    let one : put name d (member (name_of r) (attribute_data (attribute_of r.value)) ms) ≡ member (name_of r) (attribute_data (attribute_of r.value)) (put name d ms)
    = ap (λ o. match_ordering o (member name d (member (name_of r) (attribute_data (attribute_of r.value)) ms)) (member (name_of r) d ms) (member (name_of r) (attribute_data (attribute_of r.value)) (put name d ms))) greater in
    ap (λ rs. put name d (onto rs ms)) more ∙ ap (put name d) (onto_append (take at rows) (r ∷ []) ms) ∙ below d (onto (r ∷ []) ms) ∙ ap (onto (take at rows)) one ∙ sym (onto_append (take at rows) (r ∷ []) (put name d ms))
    ∙ ap (λ rs. onto rs (put name d ms)) (sym more)

greater_of : (o : Ordering) → is_gt o ≡ true → o ≡ Greater
greater_of Less h = absurd cc
greater_of Equal h = absurd cc
greater_of Greater h = refl

equal_of : (o : Ordering) → is_eq o ≡ true → o ≡ Equal
equal_of Less h = absurd cc
equal_of Equal h = refl
equal_of Greater h = absurd cc

same_text : (x y : List ℕ) → slice_cmp nat_cmp x y ≡ Equal → x ≡ y
same_text = map.slice_cmp-IsAntisymmetric map.nat_cmp-IsAntisymmetric

-- what a test of two names says
pub is_greater : (b : Bool) (x y : List ℕ) → b ≡ true → b ≡ is_gt (slice_cmp nat_cmp x y) → slice_cmp nat_cmp x y ≡ Greater
is_greater b x y h e = greater_of (slice_cmp nat_cmp x y) (sym e ∙ h)

-- the row at a place, and those after it
pub row_at : (rows : List Row) (at : ℕ) (r : Row) → at < length rows → r ≡ get_or rows at r → drop at rows ≡ r ∷ drop (suc at) rows
row_at rows at r within is = drop-cons rows at r within ∙ ap (λ z. z ∷ drop (suc at) rows) (sym is)

first_same : (r s : Row) (xs ys : List Row) → r ∷ xs ≡ s ∷ ys → r ≡ s
first_same r s xs ys e = cc

-- rows cut at a place
cut : (rows : List Row) (at : ℕ) (ms : Members) → onto rows ms ≡ onto (take at rows) (onto (drop at rows) ms)
cut rows at ms = ap (λ rs. onto rs ms) (sym (take-append-drop at rows)) ∙ onto_append (take at rows) (drop at rows) ms

module _ (rows : List Row) (at : ℕ) (new : Row) (p : Passes (name_of new) rows at) where
  abbrev d : Data
  d = attribute_data (attribute_of new.value)

  behind : put (name_of new) d (onto rows no_members) ≡ onto (take at rows) (put (name_of new) d (onto (drop at rows) no_members))
  behind = ap (put (name_of new) d) (cut rows at no_members) ∙ p.below d (onto (drop at rows) no_members)

  -- the row takes the place of one of its name
  pub put_over : (r : Row) → at < length rows → r ≡ get_or rows at r → is_eq (slice_cmp nat_cmp (name_of new) (name_of r)) ≡ true → onto (slice_set rows at new) no_members ≡ put (name_of new) d (onto rows no_members)
  put_over r within is same =
      let equal : slice_cmp nat_cmp (name_of new) (name_of r) ≡ Equal = equal_of (slice_cmp nat_cmp (name_of new) (name_of r)) same in
      let rest = onto (drop (suc at) rows) no_members in
      let e = attribute_data (attribute_of r.value) in
      let there : put (name_of new) d (onto (drop at rows) no_members) ≡ member (name_of new) d rest
      = ap (λ rs. put (name_of new) d (onto rs no_members)) (row_at rows at r within is)
      ∙ ap (λ o. match_ordering o (member (name_of new) d (member (name_of r) e rest)) (member (name_of r) d rest) (member (name_of r) e (put (name_of new) d rest))) equal
      ∙ ap (λ n. member n d rest) (sym (same_text (name_of new) (name_of r) equal)) in
      ap (λ rs. onto rs no_members) (set_split rows at new within) ∙ onto_append (take at rows) (new ∷ drop (suc at) rows) no_members ∙ ap (onto (take at rows)) (sym there) ∙ sym behind

  -- the row goes before the first that is not below it
  put_first : (rest : List Row) → ((r : Row) (more : List Row) → rest ≡ r ∷ more → (slice_cmp nat_cmp (name_of new) (name_of r) ≢ Greater) × (is_eq (slice_cmp nat_cmp (name_of new) (name_of r)) ≡ false))
      → put (name_of new) d (onto rest no_members) ≡ member (name_of new) d (onto rest no_members)
  put_first [] h = refl
  put_first (r ∷ more) h = go (slice_cmp nat_cmp (name_of new) (name_of r)) (h r more refl)
    where
      rest : Members
      rest = onto more no_members

      e : Data
      e = attribute_data (attribute_of r.value)

      go : (o : Ordering) → (o ≢ Greater) × (is_eq o ≡ false)
          → match_ordering o (member (name_of new) d (member (name_of r) e rest)) (member (name_of r) d rest) (member (name_of r) e (put (name_of new) d rest)) ≡ member (name_of new) d (member (name_of r) e rest)
      go Less h = refl
      go Equal h = absurd cc
      go Greater h = absurd (h.0 refl)

  pub put_between : ((r : Row) (more : List Row) → drop at rows ≡ r ∷ more → is_eq (slice_cmp nat_cmp (name_of new) (name_of r)) ≡ false) → onto (insert rows at new) no_members ≡ put (name_of new) d (onto rows no_members)
  put_between apart =
      onto_append (take at rows) (new ∷ drop at rows) no_members ∙ ap (onto (take at rows)) (sym (put_first (drop at rows) (λ r more is. (p.stops r more is, apart r more is)))) ∙ sym behind

  -- after the last row
  pub at_end : length rows ≤ at → (r : Row) (more : List Row) → drop at rows ≡ r ∷ more → is_eq (slice_cmp nat_cmp (name_of new) (name_of r)) ≡ false
  at_end past r more is = let none : [] ≡ r ∷ more = sym (drop_of_length-le rows past) ∙ is in absurd cc

  -- before a row of another name
  pub before : (s : Row) → at < length rows → s ≡ get_or rows at s → is_eq (slice_cmp nat_cmp (name_of new) (name_of s)) ≡ false
      → (r : Row) (more : List Row) → drop at rows ≡ r ∷ more → is_eq (slice_cmp nat_cmp (name_of new) (name_of r)) ≡ false
  before s within there other r more is =
      let same : s ≡ r = first_same s r (drop (suc at) rows) more (sym (row_at rows at s within there) ∙ is) in
      ap (λ (z : Row). is_eq (slice_cmp nat_cmp (name_of new) (name_of z))) (sym same) ∙ other

-- the same of equal names and rows
pub passes_at : (x y : List ℕ) (rows others : List Row) (at : ℕ) → x ≡ y → rows ≡ others → Passes x rows at → Passes y others at
passes_at x y rows others at e h p = subst (λ n. Passes n others at) e (subst (λ rs. Passes x rs at) h p)

-- the test of equal names
pub tested : {b : Bool} (x y z w : List ℕ) → x ≡ y → z ≡ w → is_eq (slice_cmp nat_cmp x z) ≡ b → is_eq (slice_cmp nat_cmp y w) ≡ b
tested x y z w e h t = ap (λ n. is_eq (slice_cmp nat_cmp n w)) (sym e) ∙ ap (λ n. is_eq (slice_cmp nat_cmp x n)) (sym h) ∙ t
