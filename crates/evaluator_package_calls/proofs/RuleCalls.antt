-- How a call of a rule ends, by the target that it describes.
use Rattle.std.proofs.Common.{◌≡◌, ℕ, Bool, cond, not, map, refl, List, [], ◌∷◌, ◌++◌, true, false, Err, ap, sym, ◌∙◌}
use Rattle.std.specs.Prelude.{if◌then◌else◌}
use Rattle.values_objects.specs.declared.halt.Halt.{Halt}
use Rattle.values_objects.specs.declared.halt.Halt.TheVariants.{Code, Memory}
use Rattle.values_semantics.specs.declared.val.Val.{Val}
use Rattle.values_semantics.specs.declared.val.Val.TheVariants as v
use Rattle.values_semantics.specs.declared.builtin.Builtin.{Builtin}
use Rattle.values_semantics.specs.Outcome.{good, bad, lift_fault}
use Rattle.values_semantics.specs.Functions.{KeywordArguments}
use Rattle.values_modules.specs.Values.{Target}
use Rattle.evaluator_semantics.specs.World.{World, Here, ended, failed, then_runs, at_site, fault}
use Rattle.evaluator_semantics.specs.Rules.{rule, target_of, adds_target, is_used}
use Rattle.values_semantics.specs.Comparing.{same_text}
use Rattle.evaluator_semantics.specs.Names.{has_name}
use Rattle.evaluator_state.specs.TargetNames.{name_of}
use Rattle.evaluator_state.specs.declared.state.Target as kept
use Rattle.evaluator_state.specs.View as view
use Rattle.evaluator_state.specs.View.{Ran}
use Rattle.evaluator_package_calls.specs.View.{ChecksAs}

-- a name is used where it is that of a target
pub used_name : (x : List ℕ) (targets : List kept.Target) → is_used x (map view.target_of targets) ≡ has_name x (map name_of targets)
used_name x [] = refl
used_name x (t ∷ ts) = ap (λ b. cond (same_text x t.name) true b) (used_name x ts)

pub is_new : (a b : Bool) → a ≡ not b → a ≡ true → b ≡ false
is_new a true e f = cc
is_new a false e f = refl

pub is_old : (a b : Bool) → a ≡ not b → a ≡ false → b ≡ true
is_old a true e f = refl
is_old a false e f = cc

module _ (f : Builtin) (name : List ℕ) (xs : List Val) (ns : KeywordArguments) (here : Here) (w : World) where
  fails_with : (c : ℕ) → target_of f name xs ns w.store ≡ bad c → rule f name xs ns here w ≡ failed c here.site
  unfolding rule
  fails_with c e = ap (λ r. then_runs (at_site here.site w (lift_fault r w.store)) (λ t. adds_target t here)) e

  pub no_target : (halt : Halt) (u : World) → ChecksAs view.target_of (target_of f name xs ns w.store) (Err halt) → Ran here.site (rule f name xs ns here w) (Err halt) u
  no_target (Code c) u e = fails_with c e
  no_target (Memory _) u e = tt

  module _ (t : Target) (is : target_of f name xs ns w.store ≡ good t) where
    goes_on : rule f name xs ns here w ≡ adds_target t here w
    unfolding rule
    goes_on = ap (λ r. then_runs (at_site here.site w (lift_fault r w.store)) (λ t. adds_target t here)) is

    pub used : is_used t.name w.targets ≡ true → rule f name xs ns here w ≡ failed 20 here.site
    used e = goes_on ∙ ap (λ b. (if b then fault 20 here else (λ u. ended v.Nothing (record u { targets = u.targets ++ t ∷ [] }))) w) e

    pub made : (ts : List Target) → is_used t.name w.targets ≡ false → ts ≡ w.targets ++ t ∷ [] → rule f name xs ns here w ≡ ended v.Nothing (record w { targets = ts })
    made ts e more = goes_on ∙ ap (λ b. (if b then fault 20 here else (λ u. ended v.Nothing (record u { targets = u.targets ++ t ∷ [] }))) w) e ∙ ap (λ us. ended v.Nothing (record w { targets = us })) (sym more)
