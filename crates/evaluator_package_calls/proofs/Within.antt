-- A package call, by the kind of the file, the package's name and its answers.
use Rattle.std.proofs.Common.{◌≡◌, ℕ, List, [], ◌∷◌, Err, refl, ap, sym, ◌∙◌}
use Rattle.syntax_grammar.specs.declared.kind.FileKind.TheVariants as k
use Rattle.values_semantics.specs.declared.val.Val.{Val}
use Rattle.values_semantics.specs.declared.builtin.Builtin.{Builtin}
use Rattle.values_semantics.specs.declared.builtin.Builtin.TheVariants as b
use Rattle.values_semantics.specs.Functions.{KeywordArguments}
use Rattle.values_objects.specs.declared.halt.Halt.{Halt}
use Rattle.values_objects.specs.declared.halt.Halt.TheVariants.{Code, Memory}
use Rattle.evaluator_semantics.specs.World.{World, Site, Here, Ends, Runs, failed}
use Rattle.evaluator_semantics.specs.Environment.{Env, Answers}
use Rattle.evaluator_semantics.specs.Packages.{package_call, in_package, if_build}
use Rattle.evaluator_semantics.specs.Rules.{rule}
use Rattle.evaluator_state.specs.View.{Ran}
use Rattle.evaluator_package_calls.specs.Within.{within}
use Rattle.evaluator_package_calls.specs.View.{EndsAs}

pub within_rule : (name : List ℕ) (answers : Answers) (f : Builtin) (xs : List Val) (ns : KeywordArguments) (here : Here) → (f ≡ b.PackageName → ⊥) → (f ≡ b.Glob → ⊥) → within name answers f xs ns here ≡ rule f name xs ns here
within_rule name answers b.PackageName xs ns here p g = absurd (p refl)
within_rule name answers b.Glob xs ns here p g = absurd (g refl)
within_rule name answers f xs ns here p g = refl

same_call : (env : Env) (f : Builtin) (xs : List Val) (ns : KeywordArguments) (here : Here) → in_package env f xs ns here ≡ within env.package_name env.globs f xs ns here
same_call env b.PackageName [] [] here = refl
same_call env b.PackageName [] (n ∷ ns) here = refl
same_call env b.PackageName (x ∷ xs) ns here = refl
same_call env b.Glob xs ns here = refl
same_call env f xs ns here = refl

pub in_module : (env : Env) (f : Builtin) (xs : List Val) (ns : KeywordArguments) (here : Here) (w : World) → env.kind ≡ k.Bzl → package_call env f xs ns here w ≡ failed 23 here.site
unfolding package_call
in_module env f xs ns here w e = ap (λ kind. if_build kind here (in_package env f xs ns here) w) e

pub in_build : (env : Env) (name : List ℕ) (answers : Answers) (f : Builtin) (xs xs' : List Val) (ns ns' : KeywordArguments) (here : Here) (w : World) → env.kind ≡ k.Build → env.package_name ≡ name → env.globs ≡ answers → xs ≡ xs' → ns ≡ ns'
    → package_call env f xs' ns' here w ≡ within name answers f xs ns here w
unfolding package_call
in_build env name answers f xs xs' ns ns' here w e n a x y =
    ap (λ kind. if_build kind here (in_package env f xs' ns' here) w) e
    ∙ ap (λ (m : Runs Val). m w) (same_call env f xs' ns' here)
    ∙ ap (λ p. within p env.globs f xs' ns' here w) n
    ∙ ap (λ g. within name g f xs' ns' here w) a
    ∙ ap (λ zs. within name answers f zs ns' here w) (sym x)
    ∙ ap (λ ms. within name answers f xs ms here w) (sym y)

-- a rule that fails is a call that fails
pub fails_too : (site : Site) (out : Ends Val) (halt : Halt) (u : World) → Ran site out (Err halt) u → EndsAs site out (Err halt) u
fails_too site out (Code c) u h = h
fails_too site out (Memory _) u h = tt
