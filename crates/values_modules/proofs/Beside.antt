-- An expression is not the same tree as one of another kind.
use Rattle.std.proofs.Common.{◌≡◌, ℤ, Option, Vec, Global, false, sym, ◌∙◌}
use Rattle.std.specs.declared.sync.Arc.{Arc}
use Rattle.std.specs.declared.sync.atomic.AtomicUsize.{AtomicUsize}
use Rattle.base_types.specs.declared.text.Text.{Text}
use Rattle.syntax_tree.specs.Tree.{Ex, Cl}
use Rattle.syntax_tree.specs.View.{tree_of, expr_step, clause_step}
use Rattle.syntax_tree.specs.declared.expr.Literal.{Literal}
use Rattle.syntax_tree.specs.declared.expr.UnaryOp.{UnaryOp}
use Rattle.syntax_tree.specs.declared.expr.BinaryOp.{BinaryOp}
use Rattle.syntax_tree.specs.declared.expr.Expr.{Expr, roll-Expr, out-Expr, roll-out-Expr, fold-roll-Expr}
use Rattle.syntax_tree.specs.declared.expr.Expr.TheVariants as v
use Rattle.syntax_tree.specs.declared.expr.Clause.{Clause}
use Rattle.syntax_tree.specs.declared.expr.Clause.TheOpen.{Expr-F}
use Rattle.values_modules.specs.Same.{same_ex}

level_name : (a0 : Text) (a1 : AtomicUsize) (f : Expr-F Clause Expr) → ((b0 : Text) (b1 : AtomicUsize) → ¬ (roll-Expr f ≡ v.Name b0 b1)) → same_ex (tree_of (roll-Expr (Expr-F.Name a0 a1))) (tree_of (roll-Expr f)) ≡ false
level_name a0 a1 (Expr-F.Name b0 b1) h = absurd (h b0 b1 (v.rolls-Name b0 b1))
level_name a0 a1 f h = λ i. same_ex (fold-roll-Expr Cl Ex clause_step expr_step (Expr-F.Name a0 a1) i) (fold-roll-Expr Cl Ex clause_step expr_step f i)

pub name : (a0 : Text) (a1 : AtomicUsize) (a b : Expr) → a ≡ v.Name a0 a1 → ((b0 : Text) (b1 : AtomicUsize) → ¬ (b ≡ v.Name b0 b1)) → false ≡ same_ex (tree_of a) (tree_of b)
name a0 a1 a b is h = sym ((λ i. same_ex (tree_of ((is ∙ sym (v.rolls-Name a0 a1)) i)) (tree_of (sym (roll-out-Expr b) i))) ∙ level_name a0 a1 (out-Expr b) (λ b0 b1 e. h b0 b1 (sym (roll-out-Expr b) ∙ e)))

level_int : (a0 : ℤ) (f : Expr-F Clause Expr) → ((b0 : ℤ) → ¬ (roll-Expr f ≡ v.Int b0)) → same_ex (tree_of (roll-Expr (Expr-F.Int a0))) (tree_of (roll-Expr f)) ≡ false
level_int a0 (Expr-F.Int b0) h = absurd (h b0 (v.rolls-Int b0))
level_int a0 f h = λ i. same_ex (fold-roll-Expr Cl Ex clause_step expr_step (Expr-F.Int a0) i) (fold-roll-Expr Cl Ex clause_step expr_step f i)

pub int : (a0 : ℤ) (a b : Expr) → a ≡ v.Int a0 → ((b0 : ℤ) → ¬ (b ≡ v.Int b0)) → false ≡ same_ex (tree_of a) (tree_of b)
int a0 a b is h = sym ((λ i. same_ex (tree_of ((is ∙ sym (v.rolls-Int a0)) i)) (tree_of (sym (roll-out-Expr b) i))) ∙ level_int a0 (out-Expr b) (λ b0 e. h b0 (sym (roll-out-Expr b) ∙ e)))

level_str : (a0 : Text) (f : Expr-F Clause Expr) → ((b0 : Text) → ¬ (roll-Expr f ≡ v.Str b0)) → same_ex (tree_of (roll-Expr (Expr-F.Str a0))) (tree_of (roll-Expr f)) ≡ false
level_str a0 (Expr-F.Str b0) h = absurd (h b0 (v.rolls-Str b0))
level_str a0 f h = λ i. same_ex (fold-roll-Expr Cl Ex clause_step expr_step (Expr-F.Str a0) i) (fold-roll-Expr Cl Ex clause_step expr_step f i)

pub str : (a0 : Text) (a b : Expr) → a ≡ v.Str a0 → ((b0 : Text) → ¬ (b ≡ v.Str b0)) → false ≡ same_ex (tree_of a) (tree_of b)
str a0 a b is h = sym ((λ i. same_ex (tree_of ((is ∙ sym (v.rolls-Str a0)) i)) (tree_of (sym (roll-out-Expr b) i))) ∙ level_str a0 (out-Expr b) (λ b0 e. h b0 (sym (roll-out-Expr b) ∙ e)))

level_literal : (a0 : Literal) (f : Expr-F Clause Expr) → ((b0 : Literal) → ¬ (roll-Expr f ≡ v.Literal b0)) → same_ex (tree_of (roll-Expr (Expr-F.Literal a0))) (tree_of (roll-Expr f)) ≡ false
level_literal a0 (Expr-F.Literal b0) h = absurd (h b0 (v.rolls-Literal b0))
level_literal a0 f h = λ i. same_ex (fold-roll-Expr Cl Ex clause_step expr_step (Expr-F.Literal a0) i) (fold-roll-Expr Cl Ex clause_step expr_step f i)

pub literal : (a0 : Literal) (a b : Expr) → a ≡ v.Literal a0 → ((b0 : Literal) → ¬ (b ≡ v.Literal b0)) → false ≡ same_ex (tree_of a) (tree_of b)
literal a0 a b is h = sym ((λ i. same_ex (tree_of ((is ∙ sym (v.rolls-Literal a0)) i)) (tree_of (sym (roll-out-Expr b) i))) ∙ level_literal a0 (out-Expr b) (λ b0 e. h b0 (sym (roll-out-Expr b) ∙ e)))

level_tuple : (a0 : Arc (Vec Expr Global) Global) (f : Expr-F Clause Expr) → ((b0 : Arc (Vec Expr Global) Global) → ¬ (roll-Expr f ≡ v.Tuple b0)) → same_ex (tree_of (roll-Expr (Expr-F.Tuple a0))) (tree_of (roll-Expr f)) ≡ false
level_tuple a0 (Expr-F.Tuple b0) h = absurd (h b0 (v.rolls-Tuple b0))
level_tuple a0 f h = λ i. same_ex (fold-roll-Expr Cl Ex clause_step expr_step (Expr-F.Tuple a0) i) (fold-roll-Expr Cl Ex clause_step expr_step f i)

pub tuple : (a0 : Arc (Vec Expr Global) Global) (a b : Expr) → a ≡ v.Tuple a0 → ((b0 : Arc (Vec Expr Global) Global) → ¬ (b ≡ v.Tuple b0)) → false ≡ same_ex (tree_of a) (tree_of b)
tuple a0 a b is h = sym ((λ i. same_ex (tree_of ((is ∙ sym (v.rolls-Tuple a0)) i)) (tree_of (sym (roll-out-Expr b) i))) ∙ level_tuple a0 (out-Expr b) (λ b0 e. h b0 (sym (roll-out-Expr b) ∙ e)))

level_list : (a0 : Arc (Vec Expr Global) Global) (f : Expr-F Clause Expr) → ((b0 : Arc (Vec Expr Global) Global) → ¬ (roll-Expr f ≡ v.List b0)) → same_ex (tree_of (roll-Expr (Expr-F.List a0))) (tree_of (roll-Expr f)) ≡ false
level_list a0 (Expr-F.List b0) h = absurd (h b0 (v.rolls-List b0))
level_list a0 f h = λ i. same_ex (fold-roll-Expr Cl Ex clause_step expr_step (Expr-F.List a0) i) (fold-roll-Expr Cl Ex clause_step expr_step f i)

pub list : (a0 : Arc (Vec Expr Global) Global) (a b : Expr) → a ≡ v.List a0 → ((b0 : Arc (Vec Expr Global) Global) → ¬ (b ≡ v.List b0)) → false ≡ same_ex (tree_of a) (tree_of b)
list a0 a b is h = sym ((λ i. same_ex (tree_of ((is ∙ sym (v.rolls-List a0)) i)) (tree_of (sym (roll-out-Expr b) i))) ∙ level_list a0 (out-Expr b) (λ b0 e. h b0 (sym (roll-out-Expr b) ∙ e)))

level_dict : (a0 : Arc (Vec Expr Global) Global) (a1 : Arc (Vec Expr Global) Global) (f : Expr-F Clause Expr) → ((b0 : Arc (Vec Expr Global) Global) (b1 : Arc (Vec Expr Global) Global) → ¬ (roll-Expr f ≡ v.Dict b0 b1)) → same_ex (tree_of (roll-Expr (Expr-F.Dict a0 a1))) (tree_of (roll-Expr f)) ≡ false
level_dict a0 a1 (Expr-F.Dict b0 b1) h = absurd (h b0 b1 (v.rolls-Dict b0 b1))
level_dict a0 a1 f h = λ i. same_ex (fold-roll-Expr Cl Ex clause_step expr_step (Expr-F.Dict a0 a1) i) (fold-roll-Expr Cl Ex clause_step expr_step f i)

pub dict : (a0 : Arc (Vec Expr Global) Global) (a1 : Arc (Vec Expr Global) Global) (a b : Expr) → a ≡ v.Dict a0 a1 → ((b0 : Arc (Vec Expr Global) Global) (b1 : Arc (Vec Expr Global) Global) → ¬ (b ≡ v.Dict b0 b1)) → false ≡ same_ex (tree_of a) (tree_of b)
dict a0 a1 a b is h = sym ((λ i. same_ex (tree_of ((is ∙ sym (v.rolls-Dict a0 a1)) i)) (tree_of (sym (roll-out-Expr b) i))) ∙ level_dict a0 a1 (out-Expr b) (λ b0 b1 e. h b0 b1 (sym (roll-out-Expr b) ∙ e)))

level_list_of : (a0 : Arc Expr Global) (a1 : Arc (Vec Clause Global) Global) (f : Expr-F Clause Expr) → ((b0 : Arc Expr Global) (b1 : Arc (Vec Clause Global) Global) → ¬ (roll-Expr f ≡ v.ListOf b0 b1)) → same_ex (tree_of (roll-Expr (Expr-F.ListOf a0 a1))) (tree_of (roll-Expr f)) ≡ false
level_list_of a0 a1 (Expr-F.ListOf b0 b1) h = absurd (h b0 b1 (v.rolls-ListOf b0 b1))
level_list_of a0 a1 f h = λ i. same_ex (fold-roll-Expr Cl Ex clause_step expr_step (Expr-F.ListOf a0 a1) i) (fold-roll-Expr Cl Ex clause_step expr_step f i)

pub list_of : (a0 : Arc Expr Global) (a1 : Arc (Vec Clause Global) Global) (a b : Expr) → a ≡ v.ListOf a0 a1 → ((b0 : Arc Expr Global) (b1 : Arc (Vec Clause Global) Global) → ¬ (b ≡ v.ListOf b0 b1)) → false ≡ same_ex (tree_of a) (tree_of b)
list_of a0 a1 a b is h = sym ((λ i. same_ex (tree_of ((is ∙ sym (v.rolls-ListOf a0 a1)) i)) (tree_of (sym (roll-out-Expr b) i))) ∙ level_list_of a0 a1 (out-Expr b) (λ b0 b1 e. h b0 b1 (sym (roll-out-Expr b) ∙ e)))

level_dict_of : (a0 : Arc Expr Global) (a1 : Arc Expr Global) (a2 : Arc (Vec Clause Global) Global) (f : Expr-F Clause Expr) → ((b0 : Arc Expr Global) (b1 : Arc Expr Global) (b2 : Arc (Vec Clause Global) Global) → ¬ (roll-Expr f ≡ v.DictOf b0 b1 b2)) → same_ex (tree_of (roll-Expr (Expr-F.DictOf a0 a1 a2))) (tree_of (roll-Expr f)) ≡ false
level_dict_of a0 a1 a2 (Expr-F.DictOf b0 b1 b2) h = absurd (h b0 b1 b2 (v.rolls-DictOf b0 b1 b2))
level_dict_of a0 a1 a2 f h = λ i. same_ex (fold-roll-Expr Cl Ex clause_step expr_step (Expr-F.DictOf a0 a1 a2) i) (fold-roll-Expr Cl Ex clause_step expr_step f i)

pub dict_of : (a0 : Arc Expr Global) (a1 : Arc Expr Global) (a2 : Arc (Vec Clause Global) Global) (a b : Expr) → a ≡ v.DictOf a0 a1 a2 → ((b0 : Arc Expr Global) (b1 : Arc Expr Global) (b2 : Arc (Vec Clause Global) Global) → ¬ (b ≡ v.DictOf b0 b1 b2)) → false ≡ same_ex (tree_of a) (tree_of b)
dict_of a0 a1 a2 a b is h = sym ((λ i. same_ex (tree_of ((is ∙ sym (v.rolls-DictOf a0 a1 a2)) i)) (tree_of (sym (roll-out-Expr b) i))) ∙ level_dict_of a0 a1 a2 (out-Expr b) (λ b0 b1 b2 e. h b0 b1 b2 (sym (roll-out-Expr b) ∙ e)))

level_unary : (a0 : UnaryOp) (a1 : Arc Expr Global) (f : Expr-F Clause Expr) → ((b0 : UnaryOp) (b1 : Arc Expr Global) → ¬ (roll-Expr f ≡ v.Unary b0 b1)) → same_ex (tree_of (roll-Expr (Expr-F.Unary a0 a1))) (tree_of (roll-Expr f)) ≡ false
level_unary a0 a1 (Expr-F.Unary b0 b1) h = absurd (h b0 b1 (v.rolls-Unary b0 b1))
level_unary a0 a1 f h = λ i. same_ex (fold-roll-Expr Cl Ex clause_step expr_step (Expr-F.Unary a0 a1) i) (fold-roll-Expr Cl Ex clause_step expr_step f i)

pub unary : (a0 : UnaryOp) (a1 : Arc Expr Global) (a b : Expr) → a ≡ v.Unary a0 a1 → ((b0 : UnaryOp) (b1 : Arc Expr Global) → ¬ (b ≡ v.Unary b0 b1)) → false ≡ same_ex (tree_of a) (tree_of b)
unary a0 a1 a b is h = sym ((λ i. same_ex (tree_of ((is ∙ sym (v.rolls-Unary a0 a1)) i)) (tree_of (sym (roll-out-Expr b) i))) ∙ level_unary a0 a1 (out-Expr b) (λ b0 b1 e. h b0 b1 (sym (roll-out-Expr b) ∙ e)))

level_binary : (a0 : BinaryOp) (a1 : Arc Expr Global) (a2 : Arc Expr Global) (f : Expr-F Clause Expr) → ((b0 : BinaryOp) (b1 : Arc Expr Global) (b2 : Arc Expr Global) → ¬ (roll-Expr f ≡ v.Binary b0 b1 b2)) → same_ex (tree_of (roll-Expr (Expr-F.Binary a0 a1 a2))) (tree_of (roll-Expr f)) ≡ false
level_binary a0 a1 a2 (Expr-F.Binary b0 b1 b2) h = absurd (h b0 b1 b2 (v.rolls-Binary b0 b1 b2))
level_binary a0 a1 a2 f h = λ i. same_ex (fold-roll-Expr Cl Ex clause_step expr_step (Expr-F.Binary a0 a1 a2) i) (fold-roll-Expr Cl Ex clause_step expr_step f i)

pub binary : (a0 : BinaryOp) (a1 : Arc Expr Global) (a2 : Arc Expr Global) (a b : Expr) → a ≡ v.Binary a0 a1 a2 → ((b0 : BinaryOp) (b1 : Arc Expr Global) (b2 : Arc Expr Global) → ¬ (b ≡ v.Binary b0 b1 b2)) → false ≡ same_ex (tree_of a) (tree_of b)
binary a0 a1 a2 a b is h = sym ((λ i. same_ex (tree_of ((is ∙ sym (v.rolls-Binary a0 a1 a2)) i)) (tree_of (sym (roll-out-Expr b) i))) ∙ level_binary a0 a1 a2 (out-Expr b) (λ b0 b1 b2 e. h b0 b1 b2 (sym (roll-out-Expr b) ∙ e)))

level_choice : (a0 : Arc Expr Global) (a1 : Arc Expr Global) (a2 : Arc Expr Global) (f : Expr-F Clause Expr) → ((b0 : Arc Expr Global) (b1 : Arc Expr Global) (b2 : Arc Expr Global) → ¬ (roll-Expr f ≡ v.Choice b0 b1 b2)) → same_ex (tree_of (roll-Expr (Expr-F.Choice a0 a1 a2))) (tree_of (roll-Expr f)) ≡ false
level_choice a0 a1 a2 (Expr-F.Choice b0 b1 b2) h = absurd (h b0 b1 b2 (v.rolls-Choice b0 b1 b2))
level_choice a0 a1 a2 f h = λ i. same_ex (fold-roll-Expr Cl Ex clause_step expr_step (Expr-F.Choice a0 a1 a2) i) (fold-roll-Expr Cl Ex clause_step expr_step f i)

pub choice : (a0 : Arc Expr Global) (a1 : Arc Expr Global) (a2 : Arc Expr Global) (a b : Expr) → a ≡ v.Choice a0 a1 a2 → ((b0 : Arc Expr Global) (b1 : Arc Expr Global) (b2 : Arc Expr Global) → ¬ (b ≡ v.Choice b0 b1 b2)) → false ≡ same_ex (tree_of a) (tree_of b)
choice a0 a1 a2 a b is h = sym ((λ i. same_ex (tree_of ((is ∙ sym (v.rolls-Choice a0 a1 a2)) i)) (tree_of (sym (roll-out-Expr b) i))) ∙ level_choice a0 a1 a2 (out-Expr b) (λ b0 b1 b2 e. h b0 b1 b2 (sym (roll-out-Expr b) ∙ e)))

level_index : (a0 : Arc Expr Global) (a1 : Arc Expr Global) (f : Expr-F Clause Expr) → ((b0 : Arc Expr Global) (b1 : Arc Expr Global) → ¬ (roll-Expr f ≡ v.Index b0 b1)) → same_ex (tree_of (roll-Expr (Expr-F.Index a0 a1))) (tree_of (roll-Expr f)) ≡ false
level_index a0 a1 (Expr-F.Index b0 b1) h = absurd (h b0 b1 (v.rolls-Index b0 b1))
level_index a0 a1 f h = λ i. same_ex (fold-roll-Expr Cl Ex clause_step expr_step (Expr-F.Index a0 a1) i) (fold-roll-Expr Cl Ex clause_step expr_step f i)

pub index : (a0 : Arc Expr Global) (a1 : Arc Expr Global) (a b : Expr) → a ≡ v.Index a0 a1 → ((b0 : Arc Expr Global) (b1 : Arc Expr Global) → ¬ (b ≡ v.Index b0 b1)) → false ≡ same_ex (tree_of a) (tree_of b)
index a0 a1 a b is h = sym ((λ i. same_ex (tree_of ((is ∙ sym (v.rolls-Index a0 a1)) i)) (tree_of (sym (roll-out-Expr b) i))) ∙ level_index a0 a1 (out-Expr b) (λ b0 b1 e. h b0 b1 (sym (roll-out-Expr b) ∙ e)))

level_slice : (a0 : Arc Expr Global) (a1 : Option (Arc Expr Global)) (a2 : Option (Arc Expr Global)) (f : Expr-F Clause Expr) → ((b0 : Arc Expr Global) (b1 : Option (Arc Expr Global)) (b2 : Option (Arc Expr Global)) → ¬ (roll-Expr f ≡ v.Slice b0 b1 b2)) → same_ex (tree_of (roll-Expr (Expr-F.Slice a0 a1 a2))) (tree_of (roll-Expr f)) ≡ false
level_slice a0 a1 a2 (Expr-F.Slice b0 b1 b2) h = absurd (h b0 b1 b2 (v.rolls-Slice b0 b1 b2))
level_slice a0 a1 a2 f h = λ i. same_ex (fold-roll-Expr Cl Ex clause_step expr_step (Expr-F.Slice a0 a1 a2) i) (fold-roll-Expr Cl Ex clause_step expr_step f i)

pub slice : (a0 : Arc Expr Global) (a1 : Option (Arc Expr Global)) (a2 : Option (Arc Expr Global)) (a b : Expr) → a ≡ v.Slice a0 a1 a2 → ((b0 : Arc Expr Global) (b1 : Option (Arc Expr Global)) (b2 : Option (Arc Expr Global)) → ¬ (b ≡ v.Slice b0 b1 b2)) → false ≡ same_ex (tree_of a) (tree_of b)
slice a0 a1 a2 a b is h = sym ((λ i. same_ex (tree_of ((is ∙ sym (v.rolls-Slice a0 a1 a2)) i)) (tree_of (sym (roll-out-Expr b) i))) ∙ level_slice a0 a1 a2 (out-Expr b) (λ b0 b1 b2 e. h b0 b1 b2 (sym (roll-out-Expr b) ∙ e)))

level_call : (a0 : Arc Expr Global) (a1 : Arc (Vec Expr Global) Global) (a2 : Arc (Vec Text Global) Global) (f : Expr-F Clause Expr) → ((b0 : Arc Expr Global) (b1 : Arc (Vec Expr Global) Global) (b2 : Arc (Vec Text Global) Global) → ¬ (roll-Expr f ≡ v.Call b0 b1 b2)) → same_ex (tree_of (roll-Expr (Expr-F.Call a0 a1 a2))) (tree_of (roll-Expr f)) ≡ false
level_call a0 a1 a2 (Expr-F.Call b0 b1 b2) h = absurd (h b0 b1 b2 (v.rolls-Call b0 b1 b2))
level_call a0 a1 a2 f h = λ i. same_ex (fold-roll-Expr Cl Ex clause_step expr_step (Expr-F.Call a0 a1 a2) i) (fold-roll-Expr Cl Ex clause_step expr_step f i)

pub call : (a0 : Arc Expr Global) (a1 : Arc (Vec Expr Global) Global) (a2 : Arc (Vec Text Global) Global) (a b : Expr) → a ≡ v.Call a0 a1 a2 → ((b0 : Arc Expr Global) (b1 : Arc (Vec Expr Global) Global) (b2 : Arc (Vec Text Global) Global) → ¬ (b ≡ v.Call b0 b1 b2)) → false ≡ same_ex (tree_of a) (tree_of b)
call a0 a1 a2 a b is h = sym ((λ i. same_ex (tree_of ((is ∙ sym (v.rolls-Call a0 a1 a2)) i)) (tree_of (sym (roll-out-Expr b) i))) ∙ level_call a0 a1 a2 (out-Expr b) (λ b0 b1 b2 e. h b0 b1 b2 (sym (roll-out-Expr b) ∙ e)))

level_method : (a0 : Arc Expr Global) (a1 : Text) (a2 : Arc (Vec Expr Global) Global) (a3 : Arc (Vec Text Global) Global) (f : Expr-F Clause Expr) → ((b0 : Arc Expr Global) (b1 : Text) (b2 : Arc (Vec Expr Global) Global) (b3 : Arc (Vec Text Global) Global) → ¬ (roll-Expr f ≡ v.Method b0 b1 b2 b3)) → same_ex (tree_of (roll-Expr (Expr-F.Method a0 a1 a2 a3))) (tree_of (roll-Expr f)) ≡ false
level_method a0 a1 a2 a3 (Expr-F.Method b0 b1 b2 b3) h = absurd (h b0 b1 b2 b3 (v.rolls-Method b0 b1 b2 b3))
level_method a0 a1 a2 a3 f h = λ i. same_ex (fold-roll-Expr Cl Ex clause_step expr_step (Expr-F.Method a0 a1 a2 a3) i) (fold-roll-Expr Cl Ex clause_step expr_step f i)

pub method : (a0 : Arc Expr Global) (a1 : Text) (a2 : Arc (Vec Expr Global) Global) (a3 : Arc (Vec Text Global) Global) (a b : Expr) → a ≡ v.Method a0 a1 a2 a3 → ((b0 : Arc Expr Global) (b1 : Text) (b2 : Arc (Vec Expr Global) Global) (b3 : Arc (Vec Text Global) Global) → ¬ (b ≡ v.Method b0 b1 b2 b3)) → false ≡ same_ex (tree_of a) (tree_of b)
method a0 a1 a2 a3 a b is h = sym ((λ i. same_ex (tree_of ((is ∙ sym (v.rolls-Method a0 a1 a2 a3)) i)) (tree_of (sym (roll-out-Expr b) i))) ∙ level_method a0 a1 a2 a3 (out-Expr b) (λ b0 b1 b2 b3 e. h b0 b1 b2 b3 (sym (roll-out-Expr b) ∙ e)))
