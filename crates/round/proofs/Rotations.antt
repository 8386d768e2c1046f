-- The least of a cycle's labels, found by going over them once.
use Rattle.std.proofs.Common.{◌≡◌, ℕ, ◌+◌, ◌<◌, ◌≤◌, true, false, List, [], ◌∷◌, ◌++◌, Option, refl, sym, ◌∙◌, ap, subst, length, take, drop, slice_index_or, append_assoc, arith, ◌==◌}
use Rattle.std.specs.List.{AllByRecursion, filter_map, cons_option}
use Rattle.std.proofs.Math.Seq.{take_all, drop-append_seam, take-append_seam, get_or-append_seam}
use Rattle.std.proofs.lemmas.List.{take-append-drop, length-append, length-take-le}
use Rattle.std.proofs.lemmas.List.Elements.{filter_map-append}
use Rattle.engine_semantics.specs.Rotation.{is_least, text_le, rotated}
use Rattle.engine_semantics.proofs.Rotating.{rotated_from, least_stays, least_moves, greater_than, least_alone}
use Rattle.keys.specs.Cycles.{label_of}
use Rattle.keys.specs.declared.key.Key.{Key}
use Rattle.node.proofs.Reaching.{one_more}

-- the first least of these texts is at this place
pub record IsBest (seen : List (List ℕ)) (best : ℕ) : Type 0 where
  pub before : List (List ℕ)
  pub least : List ℕ
  pub rest : List (List ℕ)
  pub split : seen ≡ before ++ least ∷ rest
  pub place : length before ≡ best
  pub low : is_least text_le least seen ≡ true
  pub greater : AllByRecursion (λ a. text_le a least ≡ false) before

pub best_one : (labels : List (List ℕ)) → (labels ≡ [] → ⊥) → IsBest (take 1 labels) 0
best_one [] n = absurd (n refl)
best_one (x ∷ labels) n = record { before = []; least = x; rest = []; split = refl; place = refl; low = least_alone x; greater = tt }

best_stays : (seen : List (List ℕ)) (best : ℕ) (x : List ℕ) (b : IsBest seen best) → text_le b.least x ≡ true → IsBest (seen ++ x ∷ []) best
best_stays seen best x b h = record {
  before = b.before;
  least = b.least;
  rest = b.rest ++ x ∷ [];
  split = ap (λ s. s ++ x ∷ []) b.split ∙ append_assoc b.before (b.least ∷ b.rest) (x ∷ []);
  place = b.place;
  low = least_stays b.least seen x b.low h;
  greater = b.greater;
}

best_moves : (seen : List (List ℕ)) (best : ℕ) (x : List ℕ) (b : IsBest seen best) → text_le b.least x ≡ false → IsBest (seen ++ x ∷ []) (length seen)
best_moves seen best x b h = record {
  before = seen;
  least = x;
  rest = [];
  split = refl;
  place = refl;
  low = least_moves b.least seen x b.low h;
  greater = greater_than b.least seen x b.low h;
}

-- one label more
module _ (labels : List (List ℕ)) (at best : ℕ) (d x y : List ℕ) (there : x ≡ slice_index_or labels at x) (below : at < length labels) (b : IsBest (take at labels) best) (its : y ≡ slice_index_or labels best y) where
  next : take (at + 1) labels ≡ take at labels ++ x ∷ []
  next = one_more labels at x below ∙ ap (λ z. take at labels ++ z ∷ []) (sym there)

  whole : labels ≡ b.before ++ b.least ∷ (b.rest ++ drop at labels)
  whole = sym (take-append-drop at labels) ∙ ap (λ s. s ++ drop at labels) b.split ∙ append_assoc b.before (b.least ∷ b.rest) (drop at labels)

  same : y ≡ b.least
  same = its ∙ ap (λ l. slice_index_or l best y) whole ∙ ap (λ n. slice_index_or (b.before ++ b.least ∷ (b.rest ++ drop at labels)) n y) (sym b.place) ∙ get_or-append_seam b.before b.least (b.rest ++ drop at labels) y

  pub stays : text_le y x ≡ true → IsBest (take (at + 1) labels) best
  stays h = subst (λ s. IsBest s best) (sym next) (best_stays (take at labels) best x b (subst (λ z. text_le z x ≡ true) same h))

  pub moves : length (take at labels) ≡ at → text_le y x ≡ false → IsBest (take (at + 1) labels) at
  moves l h = subst (λ s. IsBest s at) (sym next) (subst (IsBest (take at labels ++ x ∷ [])) l (best_moves (take at labels) best x b (subst (λ z. text_le z x ≡ false) same h)))

pub best_within : (labels : List (List ℕ)) (best : ℕ) → IsBest labels best → best ≤ length labels
best_within labels best b = let e = ap length b.split ∙ length-append b.before (b.least ∷ b.rest) in omega (arith, e, b.place)

pub best_rotates : (labels : List (List ℕ)) (best : ℕ) → IsBest labels best → rotated labels ≡ drop best labels ++ take best labels
best_rotates labels best b =
    let whole = b.before ++ b.least ∷ b.rest in
    let r : rotated whole ≡ drop (length b.before) whole ++ take (length b.before) whole =
    rotated_from b.before b.least b.rest (subst (λ s. is_least text_le b.least s ≡ true) b.split b.low) b.greater
    ∙ ap (λ s. s ++ b.before) (sym (drop-append_seam b.before (b.least ∷ b.rest)))
    ∙ ap (λ s. drop (length b.before) whole ++ s) (sym (take-append_seam b.before (b.least ∷ b.rest))) in
    subst (λ n. rotated labels ≡ drop n labels ++ take n labels) b.place
    (subst (λ s. rotated s ≡ drop (length b.before) s ++ take (length b.before) s) (sym b.split) r)

pub best_of_all : (labels : List (List ℕ)) (at best : ℕ) → IsBest (take at labels) best → length labels ≤ at → IsBest labels best
best_of_all labels at best b h = subst (λ s. IsBest s best) (take_all at labels h) b

-- one member more
pub labels_more : (members : List Key) (at : ℕ) (d member : Key) → member ≡ slice_index_or members at d → at < length members → (labels now : List (List ℕ)) → labels ≡ filter_map label_of (take at members)
    → (o : Option (List ℕ)) → label_of member ≡ o → now ≡ labels ++ cons_option o [] → now ≡ filter_map label_of (take (at + 1) members)
labels_more members at d member e l labels now is o f n =
    n ∙ ap (λ x. labels ++ cons_option x []) (sym f) ∙ ap (λ xs. xs ++ cons_option (label_of member) []) is
    ∙ sym (filter_map-append label_of (take at members) (member ∷ []))
    ∙ ap (filter_map label_of) (ap (λ z. take at members ++ z ∷ []) e ∙ sym (one_more members at d l))

-- the place is one of the list
pub best_below : (labels : List (List ℕ)) (at best : ℕ) → IsBest (take at labels) best → best < length labels
best_below labels at best b =
    let e = ap length b.split ∙ length-append b.before (b.least ∷ b.rest) in
    let f = ap length (take-append-drop at labels) in
    let g = length-append (take at labels) (drop at labels) in
    omega (arith, e, f, g, b.place)

pub taken_length : (labels : List (List ℕ)) (at : ℕ) → at < length labels → length (take at labels) ≡ at
taken_length labels at h = length-take-le at labels (omega (arith, h))

pub not_empty : (labels : List (List ℕ)) → false ≡ (length labels == 0) → labels ≡ [] → ⊥
not_empty [] e q = no e
  where
    no : false ≡ true → ⊥
    no h = cc
not_empty (x ∷ labels) e q = cc
