-- What changes of the names of files keep.
use Rattle.std.proofs.Common.{◌≡◌, ℕ, List, [], ◌∷◌, ◌++◌, Bool, true, false, Option, Some, None, refl, ap, sym, ◌∙◌}
use Rattle.std.specs.Prelude.{if◌then◌else◌}
use Rattle.values_semantics.specs.declared.val.Val.{Val}
use Rattle.values_semantics.specs.Comparing.{same_text}
use Rattle.evaluator_semantics.specs.World.{Block, Names}
use Rattle.evaluator_semantics.specs.Names.{slot_in, bind_in, names_at, file_slot, change_names}
use Rattle.evaluator_semantics.specs.Laws.{Kept}

-- another block and other defaults of a file
abbrev changed : (Names → Block) → (Names → List (List ℕ × List Val)) → Names → Names
changed g d f = record { label = f.label; block = g f; defaults = d f }

-- a change that keeps what is bound in the file that it changes keeps what is bound
changed_keeps : (label : List ℕ) (g : Names → Block) (d : Names → List (List ℕ × List Val)) (fs : List Names)
    → ((f : Names) → names_at label fs ≡ Some f → (x : List ℕ) (v : Val) → slot_in x f.block ≡ Some (Some v) → slot_in x (g f) ≡ Some (Some v))
    → Kept fs (change_names label (changed g d) fs)
changed_keeps label g d [] h other x v = λ e. e
changed_keeps label g d (f ∷ fs) h other x v = go (same_text label f.label) refl (λ k. changed_keeps label g d fs k other x v)
  where
    Held : Option Names → Type 0
    Held found = file_slot x found ≡ Some (Some v)

    first : (c : Bool) → ((y : List ℕ) (u : Val) → slot_in y f.block ≡ Some (Some u) → slot_in y (g f) ≡ Some (Some u)) → Held (if c then Some f else names_at other fs) → Held (if c then Some (changed g d f) else names_at other fs)
    first true k e = k x v e
    first false k e = e

    rest : (c : Bool) → (Held (names_at other fs) → Held (names_at other (change_names label (changed g d) fs))) → Held (if c then Some f else names_at other fs) → Held (if c then Some f else names_at other (change_names label (changed g d) fs))
    rest true k e = e
    rest false k e = k e

    go : (b : Bool) → same_text label f.label ≡ b
        → (((n : Names) → names_at label fs ≡ Some n → (y : List ℕ) (u : Val) → slot_in y n.block ≡ Some (Some u) → slot_in y (g n) ≡ Some (Some u)) → Held (names_at other fs) → Held (names_at other (change_names label (changed g d) fs)))
        → Held (names_at other (f ∷ fs)) → Held (names_at other (if b then changed g d f ∷ fs else f ∷ change_names label (changed g d) fs))
    go true p k = first (same_text other f.label) (h f (ap (λ q. if q then Some f else names_at label fs) p))
    go false p k = rest (same_text other f.label) (k (λ n q. h n (ap (λ r. if r then Some f else names_at label fs) p ∙ q)))

bind_keeps : (y : List ℕ) (value : Val) (block : Block) → slot_in y block ≡ Some None → (x : List ℕ) (v : Val) → slot_in x block ≡ Some (Some v) → slot_in x (bind_in y value block) ≡ Some (Some v)
bind_keeps y value [] p x v = λ e. e
bind_keeps y value (z ∷ zs) p x v = go (same_text y z.0) p (λ q. bind_keeps y value zs q x v)
  where
    Bound : Option (Option Val) → Type 0
    Bound found = found ≡ Some (Some v)

    first : (c : Bool) → z.1 ≡ None → Bound (if c then Some z.1 else slot_in x zs) → Bound (if c then Some (Some value) else slot_in x zs)
    first true k e = cc
    first false k e = e

    rest : (c : Bool) → (Bound (slot_in x zs) → Bound (slot_in x (bind_in y value zs))) → Bound (if c then Some z.1 else slot_in x zs) → Bound (if c then Some z.1 else slot_in x (bind_in y value zs))
    rest true k e = e
    rest false k e = k e

    go : (b : Bool) → (if b then Some z.1 else slot_in y zs) ≡ Some None → (slot_in y zs ≡ Some None → Bound (slot_in x zs) → Bound (slot_in x (bind_in y value zs)))
        → Bound (slot_in x (z ∷ zs)) → Bound (slot_in x (if b then (z.0, Some value) ∷ zs else z ∷ bind_in y value zs))
    go true q k = first (same_text x z.0) (let h : z.1 ≡ None = cc in h)
    go false q k = rest (same_text x z.0) (k q)

found_file : (x label : List ℕ) (fs : List Names) (f : Names) (s : Option (Option Val)) → names_at label fs ≡ Some f → file_slot x (names_at label fs) ≡ s → slot_in x f.block ≡ s
found_file x label fs f s p e = sym (ap (file_slot x) p) ∙ e

-- binding a name that has no value
pub kept_bind : (label y : List ℕ) (value : Val) (fs : List Names) → file_slot y (names_at label fs) ≡ Some None → Kept fs (change_names label (λ f. record f { block = bind_in y value f.block }) fs)
kept_bind label y value fs e = changed_keeps label (λ f. bind_in y value f.block) (λ f. f.defaults) fs (λ f p x v q. bind_keeps y value f.block (found_file y label fs f (Some None) p e) x v q)

-- keeping defaults
pub kept_defaults : (label name : List ℕ) (xs : List Val) (fs : List Names) → Kept fs (change_names label (λ f. record f { defaults = (name, xs) ∷ f.defaults }) fs)
kept_defaults label name xs fs = changed_keeps label (λ f. f.block) (λ f. (name, xs) ∷ f.defaults) fs (λ f p x v q. q)

-- the names of one more file
pub kept_behind : (names : Names) (fs : List Names) → Kept fs (fs ++ names ∷ [])
kept_behind names [] label x v = λ e. cc
kept_behind names (f ∷ fs) label x v = go (same_text label f.label) (kept_behind names fs label x v)
  where
    go : (c : Bool) → (file_slot x (names_at label fs) ≡ Some (Some v) → file_slot x (names_at label (fs ++ names ∷ [])) ≡ Some (Some v))
        → file_slot x (if c then Some f else names_at label fs) ≡ Some (Some v) → file_slot x (if c then Some f else names_at label (fs ++ names ∷ [])) ≡ Some (Some v)
    go true k e = e
    go false k e = k e
