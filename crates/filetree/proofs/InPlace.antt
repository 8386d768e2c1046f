-- A folder written in place, after a name of a folder.
use Rattle.std.proofs.Common.{◌≡◌, ◌∙◌, ap, sym, refl, arith, ℕ, ◌<◌, Bool, true, false, cond, not, ◌==◌, ◌&&◌, List, [], ◌∷◌, ◌++◌, length, Option, Some, None}
use Rattle.std.specs.Prelude.{bytes_eq, flat_map, nat_lt, Result, Ok, Err, OnOk, OnErr, MatchResult, ⊤}
use Rattle.std.specs.Map.{lookup, remove_entry, set_value}
use Rattle.std.specs.List.{list_all}
use Rattle.std.specs.Bool.{MatchBool}
use Rattle.std.proofs.lemmas.Bool.{ne_eqb, and_parts, and_from, lt-ltb, false≢true}
use Rattle.filetree.specs.Folders.{Entries, Below, behind, has_no_slash, is_inner, text_at}
use Rattle.filetree.specs.Removals.{has_files}
use Rattle.filetree.proofs.Levels.{some_entry}
use Rattle.filetree.proofs.Slashes.{own_bytes}

pub inner_set : (test : List ℕ → Bool) (es : List (List ℕ × Below)) (w : Below) → list_all is_inner es ≡ true → 0 < length w.entries → list_all is_inner (set_value test es w) ≡ true
inner_set test [] w all some = refl
inner_set test (e ∷ es) w all some =
    let both = and_parts (is_inner e) (list_all is_inner es) all in
    let plain = (and_parts (has_no_slash e.0) (nat_lt 0 (length e.1.entries)) both.0).0 in
    elim (test e.0) as (λ b. list_all is_inner (cond b ((e.0, w) ∷ es) (e ∷ set_value test es w)) ≡ true) [
      | true ↦ and_from (is_inner (e.0, w)) (list_all is_inner es)
          (and_from (has_no_slash e.0) (nat_lt 0 (length w.entries)) plain (lt-ltb 0 (length w.entries) some)) both.1
      | false ↦ and_from (is_inner e) (list_all is_inner (set_value test es w)) both.0 (inner_set test es w both.1 some)
    ]

pub same_set : (test : List ℕ → Bool) (es : List (List ℕ × Below)) (a w : Below) → lookup test es ≡ Some a → w.entries ≡ a.entries
    → flat_map (λ e. behind e.0 e.1.entries) (set_value test es w) ≡ flat_map (λ e. behind e.0 e.1.entries) es
same_set test [] a w found same = refl
same_set test (e ∷ es) a w found same =
    let below : Entries → Entries = λ x. behind e.0 x ++ flat_map (λ e. behind e.0 e.1.entries) es in
    elim (test e.0) as (λ b. cond b (Some e.1) (lookup test es) ≡ Some a → flat_map (λ e. behind e.0 e.1.entries) (cond b ((e.0, w) ∷ es) (e ∷ set_value test es w))
    ≡ behind e.0 e.1.entries ++ flat_map (λ e. behind e.0 e.1.entries) es) [
      | true ↦ λ f. let one : e.1 ≡ a = cc in ap below (same ∙ ap (λ x. x.entries) (sym one))
      | false ↦ λ f. ap (λ x. behind e.0 e.1.entries ++ x) (same_set test es a w f same)
    ] found

pub still_some : (es gs : Entries) (rest t : List ℕ) → ((q : List ℕ) → text_at gs q ≡ cond (bytes_eq rest q) (Some t) (text_at es q)) → 0 < length gs
still_some es gs rest t put = some_entry gs rest t (put rest ∙ ap (λ b. cond b (Some t) (text_at es rest)) (own_bytes rest))

pub on_ok_map : {A E P Q : Type 0} (r : Result A E) → (P → Q) → OnOk r P → OnOk r Q
on_ok_map (Ok a) f h = f h
on_ok_map (Err e) f h = h

pub on_err_map : {A E P Q : Type 0} (r : Result A E) → (P → Q) → OnErr r P → OnErr r Q
on_err_map (Ok a) f h = h
on_err_map (Err e) f h = f h

pub on_err_here : {A E P : Type 0} (r : Result A E) → P → OnErr r P
on_err_here (Ok a) h = tt
on_err_here (Err e) h = h

-- what holds after a call, whether it changed the list or not
pub either_end : {A E T : Type 0} (P : T → Type 0) (r : Result A E) (new made old : T) → OnOk r (new ≡ made) → OnErr r (new ≡ old) → (new ≡ made → P new) → (new ≡ old → P new) → P new
either_end P (Ok a) new made old ok err good bad = good ok
either_end P (Err e) new made old ok err good bad = bad err

pub by_true : (A B : Type 0) (b : Bool) → b ≡ true → MatchBool b A B → A
by_true A B true is h = h
by_true A B false is h = absurd (false≢true is)

pub by_false : (A B : Type 0) (b : Bool) → b ≡ false → MatchBool b A B → B
by_false A B true is h = absurd (false≢true (sym is))
by_false A B false is h = h

-- a folder that is written and then taken away

pub removed_set : (test : List ℕ → Bool) (es : List (List ℕ × Below)) (w : Below) → remove_entry test (set_value test es w) ≡ remove_entry test es
removed_set test [] w = refl
removed_set test (e ∷ es) w =
    (elim (test e.0) as (λ b. test e.0 ≡ b → remove_entry test (cond b ((e.0, w) ∷ es) (e ∷ set_value test es w)) ≡ cond b es (e ∷ remove_entry test es)) [
      | true ↦ λ h. ap (λ b. cond b es ((e.0, w) ∷ remove_entry test es)) h
      | false ↦ λ h. ap (λ b. cond b (set_value test es w) (e ∷ remove_entry test (set_value test es w))) h ∙ ap (λ x. e ∷ x) (removed_set test es w)
    ] refl)

-- a folder without files has no text
no_text_in : (es : Entries) (r : List ℕ) → not (length es == 0) ≡ false → text_at es r ≡ None
no_text_in [] r none = refl
no_text_in (e ∷ es) r none = absurd (false≢true (sym none ∙ ap not (ne_eqb (length (e ∷ es)) 0 (λ n. omega (arith, n)))))

pub no_text : (b : Below) (r : List ℕ) → has_files b ≡ false → text_at b.entries r ≡ None
no_text b r none = no_text_in b.entries r none

pub on_ok_by : {A E : Type 0} {P Q : A → Type 0} (r : Result A E) → ((a : A) → P a → Q a) → MatchResult r P (λ _. ⊤) → MatchResult r Q (λ _. ⊤)
on_ok_by (Ok a) f h = f a h
on_ok_by (Err e) f h = tt
