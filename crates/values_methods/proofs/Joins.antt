-- Texts with another between them, one after another.
use Rattle.std.proofs.Common.{◌≡◌, ℕ, List, [], ◌∷◌, ◌++◌, length, Bool, true, false, cond, Err, refl, sym, ap, ◌∙◌, append_assoc}
use Rattle.std.proofs.lemmas.List.{append-nil}
use Rattle.values_semantics.specs.Outcome.{Out, Does, gives, faults, and_then, pure, fault}
use Rattle.values_semantics.specs.Heap.{Store, is_sized}
use Rattle.values_semantics.specs.Methods.{with_between}
use Rattle.values_semantics.specs.declared.faults.TheConstants.{TOO_LARGE}
use Rattle.values_objects.specs.declared.halt.Halt.{Halt}
use Rattle.values_objects.specs.declared.halt.Halt.TheVariants.{Code, Memory}
use Rattle.values_heap.specs.View.{SaysItems}
use Rattle.values_methods.specs.Cases.{sized_text}
use Rattle.values_methods.specs.Texts.{Grows}
use Rattle.values_methods.proofs.Replacing.{still_long}
use Rattle.values_methods.proofs.Turns.{turn}

-- texts, of which the first one comes after `between`, and each other one after the separator
abbrev pub after : List ℕ → List ℕ → List (List ℕ) → List ℕ
after between sep [] = []
after between sep (t ∷ ts) = (between ++ t) ++ after sep sep ts

later_texts : (sep t : List ℕ) (ts : List (List ℕ)) → with_between sep (t ∷ ts) ≡ t ++ after sep sep ts
later_texts sep t [] = sym (append-nil t)
later_texts sep t (u ∷ us) = ap (λ l. t ++ sep ++ l) (later_texts sep u us) ∙ (append_assoc t sep (u ++ after sep sep us) ∙ ap (λ l. t ++ l) (sym (append_assoc sep u (after sep sep us))))

from_start : (sep : List ℕ) (ts : List (List ℕ)) → after [] sep ts ≡ with_between sep ts
from_start sep [] = refl
from_start sep (t ∷ ts) = sym (later_texts sep t ts)

-- what comes after the texts that are there
abbrev pub rest_joined : List ℕ → List ℕ → List ℕ → Out Store (List (List ℕ)) → Out Store (List ℕ)
rest_joined all between sep out = and_then out (λ ts. sized_text (all ++ after between sep ts))

abbrev pub all_joined : List ℕ → Out Store (List (List ℕ)) → Out Store (List ℕ)
all_joined sep out = and_then out (λ ts. sized_text (with_between sep ts))

pub begun : (sep : List ℕ) (out : Out Store (List (List ℕ))) → rest_joined [] [] sep out ≡ all_joined sep out
begun sep (gives ts s) = ap (λ l. sized_text l s) (from_start sep ts)
begun sep (faults c) = refl

-- a text is added after what is between
text_added : (all more between sep t : List ℕ) (first : Out Store (List ℕ)) (rest : Does Store (List (List ℕ))) (s : Store) (whole : Out Store (List ℕ)) → rest_joined all between sep (turn first rest) ≡ whole → first ≡ gives t s → more ≡ all ++ (between ++ t) → rest_joined more sep sep (rest s) ≡ whole
text_added all more between sep t first rest s whole inv e m = grown (rest s) ∙ (sym (ap (λ o. rest_joined all between sep (turn o rest)) e) ∙ inv)
  where
    grown : (out : Out Store (List (List ℕ))) → rest_joined more sep sep out ≡ rest_joined all between sep (and_then out (λ ts. gives (t ∷ ts)))
    grown (gives ts u) = ap (λ l. sized_text l u) (ap (λ l. l ++ after sep sep ts) m ∙ append_assoc all (between ++ t) (after sep sep ts))
    grown (faults c) = refl

-- whether all values are texts
abbrev pub checked : Out Store (List (List ℕ)) → Out Store (Unit {0})
checked out = and_then out (λ ts. pure tt)

-- all values are texts, and what was to be added is too long
too_long : (all between sep t : List ℕ) (first : Out Store (List ℕ)) (rest : Does Store (List (List ℕ))) (s : Store) (out : Out Store (List (List ℕ))) → rest_joined all between sep (turn first rest) ≡ all_joined sep out → first ≡ gives t s → is_sized (length (all ++ (between ++ t))) ≡ false → checked out ≡ gives tt s → all_joined sep out ≡ faults TOO_LARGE
too_long all between sep t first rest s out inv e long texts = by out texts (rest s) (text_added all (all ++ (between ++ t)) between sep t first rest s _ inv e refl)
  where
    none : (ts : List (List ℕ)) (u : Store) → sized_text ((all ++ (between ++ t)) ++ after sep sep ts) u ≡ faults TOO_LARGE
    none ts u = ap (λ b. cond b (pure ((all ++ (between ++ t)) ++ after sep sep ts)) (fault TOO_LARGE) u) (still_long (all ++ (between ++ t)) (after sep sep ts) _ refl long)

    sized_or : (b : Bool) (bytes : List ℕ) (u : Store) (c : ℕ) → faults c ≡ cond b (pure bytes) (fault TOO_LARGE) u → cond b (pure bytes) (fault TOO_LARGE) u ≡ faults TOO_LARGE
    sized_or true bytes u c h = absurd cc
    sized_or false bytes u c h = refl

    by : (out : Out Store (List (List ℕ))) → checked out ≡ gives tt s → (later : Out Store (List (List ℕ))) → rest_joined (all ++ (between ++ t)) sep sep later ≡ all_joined sep out → all_joined sep out ≡ faults TOO_LARGE
    by (gives vs v) h (gives ts u) g = sym g ∙ none ts u
    by (gives vs v) h (faults c) g = sized_or (is_sized (length (with_between sep vs))) (with_between sep vs) v c g
    by (faults d) h later g = absurd cc

-- the same, where an allocation may also have failed
pub refused_text : (all between sep t : List ℕ) (first : Out Store (List ℕ)) (rest : Does Store (List (List ℕ))) (s : Store) (out : Out Store (List (List ℕ))) (h : Halt) (more : List ℕ) → rest_joined all between sep (turn first rest) ≡ all_joined sep out → first ≡ gives t s → Grows all (between ++ t) (Err h) more → checked out ≡ gives tt s → SaysItems (all_joined sep out) (Err h) s
refused_text all between sep t first rest s out (Code c) more inv e g texts = too_long all between sep t first rest s out inv e g.1 texts ∙ ap faults (sym g.0)
refused_text all between sep t first rest s out (Memory m) more inv e g texts = tt
