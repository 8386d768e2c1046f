-- Parameters without a default, and those with one.
use Rattle.std.proofs.Common.{◌≡◌, ◌<◌, ◌+◌, ℕ, true, false, not, ◌&&◌, List, length, take, drop, map, get_or, Option, Some, None, is_some, refl, ap, sym, ◌∙◌, arith}
use Rattle.std.specs.List.{list_all}
use Rattle.std.proofs.lemmas.List.{get_or-map, length-map}
use Rattle.std.proofs.lemmas.List.Folds.{list_all_more}
use Rattle.syntax_tree.specs.declared.def.Param.{Param}
use Rattle.syntax_tree.specs.Requirements.{has_value}
use Rattle.syntax_tree.specs.View.{bound_tree}
use Rattle.syntax_tree.specs.Statements.{param_of}
use Rattle.syntax_tree.specs.Tree.{Pa}

has_default : (p : Param) → has_value (bound_tree p.default) ≡ is_some p.default
has_default p = elim p.default as (λ d. has_value (bound_tree d) ≡ is_some d) [
  | None ↦ refl
  | Some e ↦ refl
]

-- one parameter more without a default
pub plain_more : (ps : List Param) (i : ℕ) (p : Param) → i < length ps → is_some (get_or ps i p).default ≡ false → list_all (λ p. not (has_value p.default)) (take i (map param_of ps)) ≡ true → list_all (λ p. not (has_value p.default)) (take (i + 1) (map param_of ps)) ≡ true
plain_more ps i p lt none before =
    let is_plain = λ (p : Pa). not (has_value p.default) in
    let within : i < length (map param_of ps) = omega (arith, length-map ps param_of) in
    list_all_more is_plain (map param_of ps) i (param_of p) within
    ∙ ap (λ b. b && is_plain (get_or (map param_of ps) i (param_of p))) before
    ∙ ap is_plain (get_or-map param_of ps i p (param_of p) lt)
    ∙ ap not (has_default (get_or ps i p) ∙ none)
