-- What holds of the names of a folder.
use Rattle.std.proofs.Common.{◌≡◌, ◌∙◌, ap, sym, refl, ℕ, Bool, true, false, ◌&&◌, List, [], ◌∷◌, cond, arith, ◌+◌, ◌<◌, ◌++◌, ◌==◌, length, Option, Some, None, Bor, nat_lt}
use Rattle.std.specs.Prelude.{bytes_eq, flat_map, option_and_then, option_copied, IfSome}
use Rattle.std.specs.Map.{lookup}
use Rattle.std.specs.List.{list_all}
use Rattle.std.proofs.lemmas.Bool.{and_parts, and_from, ltb-true, ne_eqb}
use Rattle.std.proofs.lemmas.List.{length-append, length-map}
use Rattle.filetree.specs.Folders.{Entries, Below, behind, level, has_no_slash, is_distinct, is_inner, is_sound, text_at}
use Rattle.filetree.specs.NameMaps.{is_ascending}
use Rattle.filetree.proofs.Order.{ascending_distinct}

pub parts_of : (fs : Entries) (ds : List (List ℕ × Below)) → is_sound fs ds ≡ true
    → (list_all (λ e. has_no_slash e.0) fs ≡ true) × (list_all is_inner ds ≡ true) × (is_distinct ds ≡ true) × (is_ascending fs ≡ true) × (is_ascending ds ≡ true)
parts_of fs ds h =
    let a = and_parts (list_all (λ e. has_no_slash e.0) fs) (list_all is_inner ds && (is_ascending fs && is_ascending ds)) h in
    let b = and_parts (list_all is_inner ds) (is_ascending fs && is_ascending ds) a.1 in
    let c = and_parts (is_ascending fs) (is_ascending ds) b.1 in
    (a.0, b.0, ascending_distinct ds c.1, c.0, c.1)

pub sound_from : (fs : Entries) (ds : List (List ℕ × Below)) → list_all (λ e. has_no_slash e.0) fs ≡ true → list_all is_inner ds ≡ true → is_ascending fs ≡ true → is_ascending ds ≡ true → is_sound fs ds ≡ true
sound_from fs ds a b c d =
    and_from (list_all (λ e. has_no_slash e.0) fs) (list_all is_inner ds && (is_ascending fs && is_ascending ds)) a
    (and_from (list_all is_inner ds) (is_ascending fs && is_ascending ds) b (and_from (is_ascending fs) (is_ascending ds) c d))

-- a folder in another is not empty
pub inner_some : (ds : List (List ℕ × Below)) (n : List ℕ) (b : Below) → list_all is_inner ds ≡ true → lookup (bytes_eq n) ds ≡ Some b → 0 < length b.entries
inner_some [] n b h e = cc
inner_some (d ∷ ds) n b h e =
    let both = and_parts (is_inner d) (list_all is_inner ds) h in
    elim (bytes_eq n d.0) as (λ t. cond t (Some d.1) (lookup (bytes_eq n) ds) ≡ Some b → 0 < length b.entries) [
      | true ↦ λ g.
          let some : 0 < length d.1.entries = ltb-true 0 (length d.1.entries) (and_parts (has_no_slash d.0) (nat_lt 0 (length d.1.entries)) both.0).1 in
          let same : d.1 ≡ b = cc in
          let size = ap (λ x. length x.entries) same in
          omega (arith, size, some)
      | false ↦ λ g. inner_some ds n b both.1 g
    ] e

-- the folder that a call shows

pub copied_then : (r : Option (Bor Below)) (rest : List ℕ) → option_and_then (λ f. text_at f.now.entries rest) r ≡ option_and_then (λ b. text_at b.entries rest) (option_copied r)
copied_then None rest = refl
copied_then (Some f) rest = refl

pub copied_some : (r : Option (Bor Below)) (ds : List (List ℕ × Below)) (n : List ℕ) → list_all is_inner ds ≡ true → option_copied r ≡ lookup (bytes_eq n) ds → IfSome r (λ f. 0 < length f.now.entries)
copied_some None ds n h e = tt
copied_some (Some f) ds n h e = inner_some ds n f.now h (sym e)

-- which folders have no files
pub is_empty_level : (fs : Entries) (ds : List (List ℕ × Below)) (r : Bool) → length fs ≡ 0 → list_all is_inner ds ≡ true
    → (r ≡ true → length ds ≡ 0) → (length ds ≡ 0 → r ≡ true) → r ≡ (length (level fs ds) == 0)
is_empty_level (f ∷ fs) ds r none good to from = absurd (omega arith)
is_empty_level [] [] r none good to from = from refl
is_empty_level [] (d ∷ ds) r none good to from =
    let some : 0 < length d.1.entries = ltb-true 0 (length d.1.entries) (and_parts (has_no_slash d.0) (nat_lt 0 (length d.1.entries)) (and_parts (is_inner d) (list_all is_inner ds) good).0).1 in
    let size : length (behind d.0 d.1.entries ++ flat_map (λ e. behind e.0 e.1.entries) ds) ≡ length d.1.entries + length (flat_map (λ e. behind e.0 e.1.entries) ds) =
    length-append (behind d.0 d.1.entries) (flat_map (λ e. behind e.0 e.1.entries) ds) ∙ ap (λ n. n + length (flat_map (λ e. behind e.0 e.1.entries) ds)) (length-map d.1.entries (λ e. (d.0 ++ 47 ∷ e.0, e.1))) in
    (elim r as (λ b. (b ≡ true → length (d ∷ ds) ≡ 0) → b ≡ false) [
      | true ↦ λ g. absurd (let z = g refl in omega (arith, z))
      | false ↦ λ g. refl
    ] to) ∙ sym (ne_eqb (length (level [] (d ∷ ds))) 0 (λ e. omega (arith, e, size, some)))
