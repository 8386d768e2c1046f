-- Files above and below a path.
use Rattle.std.proofs.Common.{◌≡◌, ◌∙◌, ap, sym, refl, arith, ℕ, ◌<◌, true, false, cond, List, [], ◌∷◌, ◌++◌, length, Option, Some, None, Bor, inl, inr}
use Rattle.std.specs.Prelude.{option_and_then, option_copied, is_some, IfSome, IfOk, MatchOption, Result, Ok, Err}
use Rattle.std.proofs.lemmas.List.{append_assoc}
use Rattle.filetree.specs.Folders.{Entries, Below, text_at, IsSplit}
use Rattle.filetree.proofs.Slashes.{Cut, cut, one_cut, own_bytes}

pub first_text : (e : List ℕ × List ℕ) (es : Entries) → is_some (text_at (e ∷ es) e.0) ≡ true
first_text e es = ap (λ b. is_some (cond b (Some e.1) (text_at es e.0))) (own_bytes e.0)

some_text : (es : Entries) → 0 < length es → (path : List ℕ) × (is_some (text_at es path) ≡ true)
some_text [] h = absurd (omega arith)
some_text (e ∷ es) h = (e.0, first_text e es)

-- a folder that is there has a file
pub some_below : (r : Option (Bor Below)) (F : List ℕ → Option (List ℕ)) → ((rest : List ℕ) → option_and_then (λ f. text_at f.now.entries rest) r ≡ F rest)
    → IfSome r (λ f. 0 < length f.now.entries) → is_some r ≡ true → (rest : List ℕ) × (is_some (F rest) ≡ true)
some_below None F same some there = cc
some_below (Some f) F same some there = let one = some_text f.now.entries some in (one.0, ap is_some (sym (same one.0)) ∙ one.1)

pub none_copied : {X : Type 0} (r : Option (Bor X)) → is_some r ≡ false → option_copied r ≡ None
none_copied None h = refl
none_copied (Some x) h = cc

pub behind_path : (path name rest more : List ℕ) → path ≡ name ++ 47 ∷ rest → path ++ 47 ∷ more ≡ name ++ 47 ∷ (rest ++ 47 ∷ more)
behind_path path name rest more e = ap (λ p. p ++ 47 ∷ more) e ∙ append_assoc name (47 ∷ rest) (47 ∷ more)

above_at : (F : List ℕ → Option (List ℕ)) (path name rest : List ℕ) → IsSplit path name rest → F name ≡ None
    → ((r back : List ℕ) → rest ≡ r ++ 47 ∷ back → F (name ++ 47 ∷ r) ≡ None) → (front back : List ℕ) → Cut front → path ≡ front ++ 47 ∷ back → F front ≡ None
above_at F path name rest split own inner front back (inl plain) e =
    let same = one_cut front back name rest plain split.plain (sym e ∙ split.joined) in
    ap F same.0 ∙ own
above_at F path name rest split own inner front back (inr (n, r, plain, is)) e =
    let same = one_cut n (r ++ 47 ∷ back) name rest plain split.plain (sym (behind_path front n r back is) ∙ sym e ∙ split.joined) in
    ap F is ∙ ap (λ m. F (m ++ 47 ∷ r)) same.0 ∙ inner r back (sym same.1)

-- no file is above a path where none is at its first name, and none below that name above the rest
pub above_none : (F : List ℕ → Option (List ℕ)) (path name rest : List ℕ) → IsSplit path name rest → F name ≡ None
    → ((r back : List ℕ) → rest ≡ r ++ 47 ∷ back → F (name ++ 47 ∷ r) ≡ None) → (front back : List ℕ) → path ≡ front ++ 47 ∷ back → F front ≡ None
above_none F path name rest split own inner front back e = above_at F path name rest split own inner front back (cut front) e

pub if_ok_map : {A E : Type 0} (P Q : A → Type 0) (r : Result A E) → ((a : A) → P a → Q a) → IfOk r P → IfOk r Q
if_ok_map P Q (Ok a) f h = f a h
if_ok_map P Q (Err e) f h = h

pub folder_told : (r : Option (Bor Below)) (F : List ℕ → Option (List ℕ)) → ((rest : List ℕ) → option_and_then (λ f. text_at f.now.entries rest) r ≡ F rest)
    → MatchOption r ((rest : List ℕ) → F rest ≡ None) (λ f. (rest : List ℕ) → text_at f.now.entries rest ≡ F rest)
folder_told None F h = λ rest. sym (h rest)
folder_told (Some f) F h = h

pub moved_told : (r : Option (Bor Below)) (G F : List ℕ → Option (List ℕ)) → ((rest : List ℕ) → G rest ≡ F rest)
    → MatchOption r ((rest : List ℕ) → G rest ≡ None) (λ f. (rest : List ℕ) → text_at f.now.entries rest ≡ G rest)
    → MatchOption r ((rest : List ℕ) → F rest ≡ None) (λ f. (rest : List ℕ) → text_at f.now.entries rest ≡ F rest)
moved_told None G F same h = λ rest. sym (same rest) ∙ h rest
moved_told (Some f) G F same h = λ rest. h rest ∙ same rest
