-- Texts with another one in the place of each occurrence of a part, from the left.
use Rattle.std.proofs.Common.{◌≡◌, ℕ, zero, suc, ◌==◌, ◌&&◌, ◌+◌, ◌-◌, ◌<◌, ◌≤◌, List, [], ◌∷◌, ◌++◌, map, length, length-append, length-drop, get_or, take, drop, Bool, true, false, cond, Some, None, Err, refl, sym, ap, subst, ◌∙◌, append_assoc, arith}
use Rattle.std.proofs.lemmas.List.{append-nil, take_rest, length-map, drop_all, take_more, get_or-drop}
use Rattle.std.proofs.lemmas.Bool.{eqb-true, eq-eqb}
use Rattle.std.proofs.Math.Seq.{drop-cons}
use Rattle.std.specs.List.{flat_map}
use Rattle.std.proofs.lemmas.Bool.Decides.{nat_tests}
use Rattle.memchr.specs.Find.{FindsNeedle}
use Rattle.values_semantics.specs.Heap.{is_sized}
use Rattle.values_semantics.specs.Membership.{begins}
use Rattle.values_semantics.specs.Methods.{parts, split_by, with_between}
use Rattle.values_objects.specs.declared.halt.Halt.{Halt}
use Rattle.values_objects.specs.declared.halt.Halt.TheVariants.{Code, Memory}
use Rattle.values_objects.specs.ListSizes.{SizedAs}
use Rattle.values_methods.specs.Texts.{Grows, exchanged, replaced}
use Rattle.values_methods.proofs.Separators.{split_found, split_over}

-- there is a part at least, so the text stands between the first one and the others
next_part : (new t : List ℕ) (n : ℕ) (sep done rest : List ℕ) → with_between new (t ∷ parts n sep done rest) ≡ t ++ new ++ with_between new (parts n sep done rest)
next_part new t zero sep done rest = refl
next_part new t (suc n) sep done [] = refl
next_part new t (suc n) sep done (c ∷ cs) = by (begins sep (c ∷ cs)) (next_part new t n sep (done ++ c ∷ []) cs)
  where
    by : (b : Bool) → with_between new (t ∷ parts n sep (done ++ c ∷ []) cs) ≡ t ++ new ++ with_between new (parts n sep (done ++ c ∷ []) cs) → with_between new (t ∷ cond b (done ∷ parts n sep [] (drop (length sep) (c ∷ cs))) (parts n sep (done ++ c ∷ []) cs)) ≡ t ++ new ++ with_between new (cond b (done ∷ parts n sep [] (drop (length sep) (c ∷ cs))) (parts n sep (done ++ c ∷ []) cs))
    by true h = refl
    by false h = h

-- where the text that is replaced is of one byte, each byte is kept or replaced
module _ (old : ℕ) (new : List ℕ) where
  by_bytes : (n : ℕ) (done rest : List ℕ) → length rest ≤ n → with_between new (parts n (old ∷ []) done rest) ≡ done ++ flat_map (replaced old new) rest
  by_bytes zero done [] h = refl
  by_bytes zero done (c ∷ cs) h = absurd (omega (arith, h))
  by_bytes (suc n) done [] h = sym (append-nil done)
  by_bytes (suc n) done (c ∷ cs) h = either (old == c) (by_bytes n [] cs (omega (arith, h))) (by_bytes n (done ++ c ∷ []) cs (omega (arith, h)))
    where
      either : (b : Bool) → with_between new (parts n (old ∷ []) [] cs) ≡ flat_map (replaced old new) cs → with_between new (parts n (old ∷ []) (done ++ c ∷ []) cs) ≡ (done ++ c ∷ []) ++ flat_map (replaced old new) cs → with_between new (cond (b && true) (done ∷ parts n (old ∷ []) [] cs) (parts n (old ∷ []) (done ++ c ∷ []) cs)) ≡ done ++ (cond b new (c ∷ []) ++ flat_map (replaced old new) cs)
      either true h g = next_part new done n (old ∷ []) [] cs ∙ (append_assoc done new (with_between new (parts n (old ∷ []) [] cs)) ∙ ap (λ l. done ++ (new ++ l)) h)
      either false h g = g ∙ append_assoc done (c ∷ []) (flat_map (replaced old new) cs)

  pub by_each : (whole : List ℕ) → with_between new (split_by (old ∷ []) whole) ≡ flat_map (replaced old new) whole
  by_each whole = by_bytes (length whole) [] whole (omega arith)

-- where both are of one byte, each byte is kept or exchanged
module _ (old new : ℕ) where
  each_exchanged : (whole : List ℕ) → flat_map (replaced old (new ∷ [])) whole ≡ map (exchanged old new) whole
  each_exchanged [] = refl
  each_exchanged (c ∷ cs) = either (old == c) (each_exchanged cs)
    where
      either : (b : Bool) → flat_map (replaced old (new ∷ [])) cs ≡ map (exchanged old new) cs → cond b (new ∷ []) (c ∷ []) ++ flat_map (replaced old (new ∷ [])) cs ≡ cond b new c ∷ map (exchanged old new) cs
      either true h = ap (λ l. new ∷ l) h
      either false h = ap (λ l. c ∷ l) h

  pub by_exchange : (whole : List ℕ) → with_between (new ∷ []) (split_by (old ∷ []) whole) ≡ map (exchanged old new) whole
  by_exchange whole = by_each old (new ∷ []) whole ∙ each_exchanged whole

  pub exchange_sized : (whole : List ℕ) → is_sized (length (with_between (new ∷ []) (split_by (old ∷ []) whole))) ≡ is_sized (length whole)
  exchange_sized whole = ap (λ l. is_sized (length l)) (by_exchange whole) ∙ ap is_sized (length-map whole (exchanged old new))

-- what is too long stays so with more behind it
pub still_long : (a b whole : List ℕ) → a ++ b ≡ whole → is_sized (length a) ≡ false → is_sized (length whole) ≡ false
still_long a b whole e h = grind (arith, nat_tests, simp length-append at (ap length e))

-- a text that is refused as too long leaves the whole one too long
refused : (old more rest whole new : List ℕ) (h : Halt) → (old ++ more) ++ rest ≡ whole → Grows old more (Err h) new → SizedAs whole (Err h)
refused old more rest whole new (Code c) e g = (g.0, still_long (old ++ more) rest whole e g.1)
refused old more rest whole new (Memory m) e g = tt

-- the bytes up to place i are written, but for those from `from` on, none of which is replaced
module _ (old : ℕ) (new whole : List ℕ) where
  abbrev each : List ℕ → List ℕ
  each = flat_map (replaced old new)

  abbrev part : ℕ → ℕ → List ℕ
  part from i = take (i - from) (drop from whole)

  next_byte : (i : ℕ) → i < length whole → drop i whole ≡ get_or whole i 0 ∷ drop (i + 1) whole
  next_byte i lt =
      let same : suc i ≡ i + 1 = omega arith in
      drop-cons whole i 0 lt ∙ ap (λ n. get_or whole i 0 ∷ drop n whole) same

  longer_part : (from i : ℕ) → from ≤ i → i < length whole → part from (i + 1) ≡ part from i ++ get_or whole i 0 ∷ []
  longer_part from i le lt =
      let same : from + (i - from) ≡ i = omega arith in
      let longer : i + 1 - from ≡ (i - from) + 1 = omega arith in
      ap (λ n. take n (drop from whole)) longer
      ∙ (take_more (drop from whole) (i - from) 0 (omega (arith, length-drop from whole))
      ∙ ap (λ c. part from i ++ c ∷ []) (get_or-drop from whole (i - from) 0 ∙ ap (λ n. get_or whole n 0) same))

  unless : (b : Bool) → (b ≡ true → ⊥) → b ≡ false
  unless true h = absurd (h refl)
  unless false h = refl

  with_next : (done text : List ℕ) (i : ℕ) → i < length whole → replaced old new (get_or whole i 0) ≡ text → done ++ each (drop i whole) ≡ each whole → (done ++ text) ++ each (drop (i + 1) whole) ≡ each whole
  with_next done text i lt e inv =
      let rest = each (drop (i + 1) whole) in
      append_assoc done text rest ∙ (ap (λ l. done ++ (l ++ rest)) (sym e) ∙ (ap (λ l. done ++ each l) (sym (next_byte i lt)) ∙ inv))

  pub byte_kept : (all : List ℕ) (from i : ℕ) → from ≤ i → i < length whole → (get_or whole i 0 ≡ old → ⊥) → (all ++ part from i) ++ each (drop i whole) ≡ each whole → (all ++ part from (i + 1)) ++ each (drop (i + 1) whole) ≡ each whole
  byte_kept all from i le lt differs inv =
      let c = get_or whole i 0 in
      let rest = each (drop (i + 1) whole) in
      ap (λ p. (all ++ p) ++ rest) (longer_part from i le lt)
      ∙ (ap (λ l. l ++ rest) (sym (append_assoc all (part from i) (c ∷ [])))
      ∙ with_next (all ++ part from i) (c ∷ []) i lt (ap (λ b. cond b new (c ∷ [])) (unless (old == c) (λ e. differs (sym (eqb-true old c e))))) inv)

  text_written : (all : List ℕ) (from i : ℕ) → i < length whole → get_or whole i 0 ≡ old → (all ++ part from i) ++ each (drop i whole) ≡ each whole → (all ++ (part from i ++ new)) ++ each (drop (i + 1) whole) ≡ each whole
  text_written all from i lt is_old inv =
      let c = get_or whole i 0 in
      ap (λ l. l ++ each (drop (i + 1) whole)) (sym (append_assoc all (part from i) new))
      ∙ with_next (all ++ part from i) new i lt (ap (λ b. cond b new (c ∷ [])) (eq-eqb old c (sym is_old))) inv

  pub begun_again : (all more : List ℕ) (from i : ℕ) → i < length whole → get_or whole i 0 ≡ old → more ≡ all ++ (part from i ++ new) → (all ++ part from i) ++ each (drop i whole) ≡ each whole → (more ++ part (i + 1) (i + 1)) ++ each (drop (i + 1) whole) ≡ each whole
  begun_again all more from i lt is_old m inv =
      let none : i + 1 - (i + 1) ≡ 0 = omega arith in
      let rest = each (drop (i + 1) whole) in
      ap (λ n. (more ++ take n (drop (i + 1) whole)) ++ rest) none
      ∙ (ap (λ l. l ++ rest) (append-nil more ∙ m) ∙ text_written all from i lt is_old inv)

  pub text_refused : (all new_all : List ℕ) (from i : ℕ) (h : Halt) → i < length whole → get_or whole i 0 ≡ old → (all ++ part from i) ++ each (drop i whole) ≡ each whole → Grows all (part from i ++ new) (Err h) new_all → SizedAs (with_between new (split_by (old ∷ []) whole)) (Err h)
  text_refused all new_all from i h lt is_old inv g =
      subst (λ (l : List ℕ). SizedAs l (Err h)) (sym (by_each old new whole))
      (refused all (part from i ++ new) (each (drop (i + 1) whole)) (each whole) new_all h (text_written all from i lt is_old inv) g)

  -- all that is left is written
  pub all_written : (all : List ℕ) (from i : ℕ) → length whole ≤ i → i ≤ length whole → (all ++ part from i) ++ each (drop i whole) ≡ each whole → all ++ (part from (length whole) ++ []) ≡ with_between new (split_by (old ∷ []) whole)
  all_written all from i le ge inv =
      let same : length whole ≡ i = omega arith in
      ap (λ l. all ++ l) (append-nil (part from (length whole)) ∙ ap (part from) same)
      ∙ (sym (append-nil (all ++ part from i))
      ∙ (ap (λ l. (all ++ part from i) ++ each l) (sym (drop_all i whole le)) ∙ (inv ∙ sym (by_each old new whole))))

  pub all_refused : (all new_all : List ℕ) (from i : ℕ) (h : Halt) → length whole ≤ i → i ≤ length whole → (all ++ part from i) ++ each (drop i whole) ≡ each whole → Grows all (part from (length whole) ++ []) (Err h) new_all → SizedAs (with_between new (split_by (old ∷ []) whole)) (Err h)
  all_refused all new_all from i h le ge inv g =
      let more = all ++ (part from (length whole) ++ []) in
      refused all (part from (length whole) ++ []) [] _ new_all h (append-nil more ∙ all_written all from i le ge inv) g

module _ (sep : List ℕ) (some : 0 < length sep) (new whole : List ℕ) where
  -- a part and the text behind it are written
  pub more_replaced : (done more rest part tail next : List ℕ) (k : ℕ) → done ++ with_between new (split_by sep rest) ≡ with_between new (split_by sep whole) → FindsNeedle rest sep 0 (Some k) → part ≡ take k rest → tail ≡ drop k rest → next ≡ take (length tail - length sep) (drop (length sep) tail) → more ≡ done ++ (part ++ new) → more ++ with_between new (split_by sep next) ≡ with_between new (split_by sep whole)
  more_replaced done more rest part tail next k inv found p t n m =
      let left : next ≡ drop (length sep) (drop k rest) = n ∙ (take_rest tail (length sep) ∙ ap (drop (length sep)) t) in
      let parted : split_by sep rest ≡ part ∷ split_by sep next = split_found sep some rest k found ∙ (ap (λ l. l ∷ split_by sep (drop (length sep) (drop k rest))) (sym p) ∙ ap (λ l. part ∷ split_by sep l) (sym left)) in
      ap (λ l. l ++ with_between new (split_by sep next)) m
      ∙ (append_assoc done (part ++ new) (with_between new (split_by sep next))
      ∙ (ap (λ l. done ++ l) (sym (next_part new part (length next) sep [] next) ∙ ap (with_between new) (sym parted)) ∙ inv))

  -- the last part is written
  pub last_replaced : (done more rest : List ℕ) → done ++ with_between new (split_by sep rest) ≡ with_between new (split_by sep whole) → FindsNeedle rest sep 0 None → more ≡ done ++ (rest ++ []) → more ≡ with_between new (split_by sep whole)
  last_replaced done more rest inv none m =
      m ∙ (ap (λ l. done ++ l) (append-nil rest ∙ ap (with_between new) (sym (split_over sep some rest none))) ∙ inv)

  -- more is refused where a part is refused
  pub part_refused : (done new_all rest part tail next : List ℕ) (k : ℕ) (h : Halt) → done ++ with_between new (split_by sep rest) ≡ with_between new (split_by sep whole) → FindsNeedle rest sep 0 (Some k) → part ≡ take k rest → tail ≡ drop k rest → next ≡ take (length tail - length sep) (drop (length sep) tail) → Grows done (part ++ new) (Err h) new_all → SizedAs (with_between new (split_by sep whole)) (Err h)
  part_refused done new_all rest part tail next k h inv found p t n g = refused done (part ++ new) (with_between new (split_by sep next)) _ new_all h (more_replaced done (done ++ (part ++ new)) rest part tail next k inv found p t n refl) g

  pub rest_refused : (done new_all rest : List ℕ) (h : Halt) → done ++ with_between new (split_by sep rest) ≡ with_between new (split_by sep whole) → FindsNeedle rest sep 0 None → Grows done (rest ++ []) (Err h) new_all → SizedAs (with_between new (split_by sep whole)) (Err h)
  rest_refused done new_all rest h inv none g = refused done (rest ++ []) [] _ new_all h (append-nil (done ++ (rest ++ [])) ∙ last_replaced done (done ++ (rest ++ [])) rest inv none refl) g
