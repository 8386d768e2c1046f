-- Functions that were looked up by their names.
use Rattle.std.proofs.Common.{◌≡◌, ℕ, Bool, true, false, cond, List, [], ◌∷◌, Option, Some, None, refl, sym, ap, subst, ◌∙◌}
use Rattle.std.specs.Arc.{arc_value}
use Rattle.std.specs.declared.alloc.Global.{Global}
use Rattle.std.specs.declared.sync.Arc.{Arc}
use lib.Pointwise.{bytes_decides}
use Rattle.values_semantics.specs.Comparing.{same_text}
use Rattle.syntax_tree.specs.Tree.{Fn}
use Rattle.syntax_tree.specs.declared.def.Def.{Def}
use Rattle.syntax_tree.specs.Statements.{fn_of}
use Rattle.values_modules.specs.FunctionNames.{first_named}
use Rattle.evaluator_semantics.specs.Environment.{function_named}
use Rattle.evaluator.specs.Finding.{IsDef}

same : (x : List ℕ) (fs : List Fn) → first_named x fs ≡ function_named x fs
same x [] = refl
same x (f ∷ fs) = ap (λ o. cond (same_text x f.name) (Some f) o) (same x fs)

chosen : (x : List ℕ) (f g : Fn) (b : Bool) (o : Option Fn) → same_text x f.name ≡ b → (o ≡ Some g → g.name ≡ x) → cond b (Some f) o ≡ Some g → g.name ≡ x
chosen x f g true o e h is = let one : f ≡ g = cc in sym (ap (λ (k : Fn). k.name) one) ∙ sym ((bytes_decides x f.name).0 e)
chosen x f g false o e h is = h is

has_name : (x : List ℕ) (fs : List Fn) (g : Fn) → function_named x fs ≡ Some g → g.name ≡ x
has_name x [] g e = cc
has_name x (f ∷ fs) g e = chosen x f g (same_text x f.name) (function_named x fs) refl (has_name x fs g) e

-- the tree of a function that was found
pub found_def : (x : List ℕ) (fs : List Fn) (f : Fn) (def : Arc Def Global) → Some f ≡ first_named x fs → fn_of (arc_value def) ≡ f → IsDef x (function_named x fs) (Some def)
found_def x fs f def e is =
    let named : function_named x fs ≡ Some f = sym (same x fs) ∙ sym e in
    subst (λ (o : Option Fn). IsDef x o (Some def)) (sym named) (sym is, has_name x fs f named)

pub no_def : (x : List ℕ) (fs : List Fn) → None ≡ first_named x fs → IsDef x (function_named x fs) None
no_def x fs e =
    let none : function_named x fs ≡ None = sym (same x fs) ∙ sym e in
    subst (λ (o : Option Fn). IsDef x o None) (sym none) refl
