-- The names and defaults of parameters, with one parameter more.
use Rattle.std.proofs.Common.{◌≡◌, ◌++◌, ◌-◌, ◌<◌, ◌≤◌, ◌||◌, ℕ, suc, Bool, true, false, cond, List, [], ◌∷◌, length, map, drop, drop-cons, get_or, refl, ap, sym, ◌∙◌, arith}
use Rattle.std.proofs.lemmas.List.{map-append}
use Rattle.values_semantics.specs.Comparing.{same_text}
use Rattle.syntax_grammar.specs.Targets.{is_bound, has_name, has_default}
use Rattle.syntax_tree.specs.Tree.{Pa}
use Rattle.syntax_tree.specs.Statements.{param_of}
use Rattle.syntax_tree.specs.declared.def.Param.{Param}

name_behind : (ps : List Pa) (p : Pa) (q : List ℕ) → has_name (ps ++ p ∷ []) q ≡ cond (same_text p.name q) true (has_name ps q)
name_behind [] p q = none (same_text p.name q)
  where
    none : (a : Bool) → (a || false) ≡ cond a true false
    none true = refl
    none false = refl
name_behind (r ∷ ps) p q = ap (λ b. same_text r.name q || b) (name_behind ps p q) ∙ swap (same_text r.name q) (same_text p.name q) (has_name ps q)
  where
    swap : (a b c : Bool) → (a || cond b true c) ≡ cond b true (a || c)
    swap true true c = refl
    swap true false c = refl
    swap false true c = refl
    swap false false c = refl

default_behind : (ps : List Pa) (p : Pa) → has_default (ps ++ p ∷ []) ≡ (has_default ps || is_bound p.default)
default_behind [] p = none (is_bound p.default)
  where
    none : (a : Bool) → (a || false) ≡ a
    none true = refl
    none false = refl
default_behind (r ∷ ps) p = ap (λ b. is_bound r.default || b) (default_behind ps p) ∙ apart (is_bound r.default) (has_default ps) (is_bound p.default)
  where
    apart : (a b c : Bool) → (a || (b || c)) ≡ ((a || b) || c)
    apart true b c = refl
    apart false b c = refl

pub params_behind : (found more : List Param) (p : Param) → more ≡ found ++ p ∷ [] → map param_of more ≡ map param_of found ++ param_of p ∷ []
params_behind found more p e = ap (map param_of) e ∙ map-append param_of found (p ∷ [])

pub knows_behind : (found more : List Param) (p : Param) (known : List ℕ → Bool) → more ≡ found ++ p ∷ [] → ((q : List ℕ) → known q ≡ cond (same_text p.name q) true (has_name (map param_of found) q)) → (q : List ℕ) → known q ≡ has_name (map param_of more) q
knows_behind found more p known e h q = h q ∙ sym (ap (λ ps. has_name ps q) (params_behind found more p e) ∙ name_behind (map param_of found) (param_of p) q)

pub defaults_behind : (found more : List Param) (p : Param) (b c : Bool) → more ≡ found ++ p ∷ [] → b ≡ has_default (map param_of found) → c ≡ (b || is_bound (param_of p).default) → c ≡ has_default (map param_of more)
defaults_behind found more p b c e h d = d ∙ ap (λ b. b || is_bound (param_of p).default) h ∙ sym (ap has_default (params_behind found more p e) ∙ default_behind (map param_of found) (param_of p))
