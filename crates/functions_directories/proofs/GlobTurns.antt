-- The turns of a glob, from the values of what it asks.
use Rattle.std.proofs.Common.{◌≡◌, ◌∙◌, ap, sym, refl, subst, arith, ℕ, suc, Bool, true, false, cond, List, [], ◌∷◌, ◌++◌, length, drop, Option}
use Rattle.std.specs.Prelude.{nat_lt}
use Rattle.std.proofs.lemmas.Bool.{le-ltb, lt-ltb}
use Rattle.std.proofs.lemmas.List.{append-nil, drop_at, length-map, length-append}
use Rattle.engine_semantics.specs.Reply.{Reply, Ask, Done}
use Rattle.engine_semantics.specs.Value.{Grounded, Turns, ends, asks, AllGrounded, none, one}
use Rattle.filetree.specs.Listings.{sorted_names}
use Rattle.pattern.specs.Globs.{path_in}
use Rattle.keys.specs.declared.key.Key.{Key}
use Rattle.keys.specs.declared.key.Key.TheVariants as key
use Rattle.keys.specs.declared.value.Value.{Value}
use Rattle.keys.specs.declared.value.Value.TheVariants as value
use Rattle.functions_directories.specs.Globs.{files_in, directories_in, has_build, own_found, asked_names, directories_to_enter, lookups, open_names, globs, found_by, by_open, step}

abbrev asking : List Key → Reply Key Value
asking group = Ask group

abbrev ending : Value → Reply Key Value
ending v = Done v

-- further answers change nothing
open_more : (names : List (List ℕ)) (looks more : List Value) → length looks ≡ length names → open_names names (looks ++ more) ≡ open_names names looks
open_more [] looks more h = refl
open_more (name ∷ names) [] more h = absurd (omega (arith, h))
open_more (name ∷ names) (look ∷ looks) more h = ap (λ rest. cond (has_build look) rest (name ∷ rest)) (open_more names looks more (omega (arith, h)))

module _ (next : Key → List Value → Reply Key Value) (read : Key → Option Value) where
  as_many : {group : List Key} {values : List Value} → AllGrounded next read group values → length values ≡ length group
  as_many none = refl
  as_many (one g all) = ap suc (as_many all)

  -- a group that may be empty
  abbrev Goes : Key → List Value → Value → Type 0
  Goes k answers v = (groups : List (List Key)) × Turns next read k answers groups v

  after : (k : Key) (answers : List Value) (v : Value) (group : List Key) (values : List Value) → AllGrounded next read group values
      → (nat_lt 0 (length group) ≡ true → next k answers ≡ Ask group) → Goes k (answers ++ values) v → Goes k answers v
  after k answers v [] (w ∷ values) all asked rest = elim all [ ]
  after k answers v [] [] none asked rest = subst (λ (b : List Value). Goes k b v) (append-nil answers) rest
  after k answers v (j ∷ group) values all asked rest = ((j ∷ group) ∷ rest.0, asks (asked (lt-ltb 0 (length (j ∷ group)) (omega arith))) all rest.1)

  module _ (directory : List ℕ) (directories : Bool) (pattern : List ℕ) (listing : Value) (looks founds : List Value) where
    abbrev asked : List (List ℕ)
    asked = asked_names directories pattern (directories_in listing)

    abbrev free : List (List ℕ)
    free = open_names asked looks

    abbrev names : List (List ℕ)
    names = directories_to_enter directories pattern free

    abbrev end : List Value → Value
    end answers = value.Paths (sorted_names (own_found directories pattern (files_in listing) free ++ found_by pattern names answers))

    module _ (k : Key) (same : (answers : List Value) → next k answers ≡ step directory directories pattern answers)
        (all_looks : AllGrounded next read (lookups directory asked) looks) (all_founds : AllGrounded next read (globs directory directories pattern names) founds) where
      looks_many : length looks ≡ length asked
      looks_many = as_many all_looks ∙ length-map asked (λ name. key.Lookup (path_in directory name))

      enough_looks : (more : List Value) → nat_lt (length (looks ++ more)) (length asked) ≡ false
      enough_looks more = le-ltb (length (looks ++ more)) (length asked) (omega (arith, looks_many, length-append looks more))

      asks_looks : nat_lt 0 (length (lookups directory asked)) ≡ true → next k (listing ∷ []) ≡ Ask (lookups directory asked)
      asks_looks h =
          same (listing ∷ [])
          ∙ ap (λ b. cond b (asking (lookups directory asked)) (by_open directory directories pattern (files_in listing) (open_names asked []) (drop (length asked) [])))
          (sym (ap (nat_lt 0) (length-map asked (λ name. key.Lookup (path_in directory name)))) ∙ h)

      past_looks : (more : List Value) → next k (listing ∷ (looks ++ more)) ≡ by_open directory directories pattern (files_in listing) free more
      past_looks more =
          same (listing ∷ (looks ++ more))
          ∙ ap (λ b. cond b (asking (lookups directory asked)) (by_open directory directories pattern (files_in listing) (open_names asked (looks ++ more)) (drop (length asked) (looks ++ more)))) (enough_looks more)
          ∙ (λ i. by_open directory directories pattern (files_in listing) (open_more asked looks more looks_many i) (drop_at looks more (length asked) looks_many i))

      asks_globs : nat_lt 0 (length (globs directory directories pattern names)) ≡ true → next k (listing ∷ looks) ≡ Ask (globs directory directories pattern names)
      asks_globs h =
          ap (λ xs. next k (listing ∷ xs)) (sym (append-nil looks)) ∙ past_looks []
          ∙ ap (λ b. cond b (asking (globs directory directories pattern names)) (ending (end []))) h

      is_end : next k (listing ∷ (looks ++ founds)) ≡ Done (end founds)
      is_end =
          past_looks founds
          ∙ ap (λ b. cond b (asking (globs directory directories pattern names)) (ending (end founds))) (le-ltb (length founds) (length (globs directory directories pattern names)) (omega (arith, as_many all_founds)))

      asks_listing : next k [] ≡ Ask (key.Listing directory ∷ [])
      asks_listing = same []

      pub glob_turns : Grounded next read (key.Listing directory) listing → Goes k [] (end founds)
      glob_turns g =
          after k [] (end founds) (key.Listing directory ∷ []) (listing ∷ []) (one g none) (λ _. asks_listing)
          (after k (listing ∷ []) (end founds) (lookups directory asked) looks all_looks asks_looks
          (after k (listing ∷ looks) (end founds) (globs directory directories pattern names) founds all_founds asks_globs ([], ends is_end)))
