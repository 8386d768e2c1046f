-- Several expressions, one after another.
use Rattle.std.proofs.Common.{◌≡◌, ℕ, List, [], ◌∷◌, ◌++◌, drop, refl, ap, sym, ◌∙◌, append_assoc, Err, Vec, Global}
use Rattle.std.proofs.lemmas.List.{append-nil}
use Rattle.std.specs.declared.sync.Arc.{Arc}
use Rattle.std.specs.Arc.{arc_value}
use Rattle.values_semantics.specs.declared.val.Val.{Val}
use Rattle.syntax_tree.specs.declared.expr.Expr.{Expr}
use Rattle.syntax_tree.specs.View.{tree_of, trees_of}
use Rattle.evaluator_semantics.specs.World.{World, Site, Here, Ends, ended, failed, waits, Runs, then_runs, pure}
use Rattle.evaluator_semantics.specs.Environment.{Env}
use Rattle.evaluator_semantics.specs.Expressions.{values}
use Rattle.evaluator_semantics.specs.Calls.{call}
use Rattle.values_objects.specs.declared.halt.Halt.{Halt}
use Rattle.values_objects.specs.declared.halt.Halt.TheVariants.{Code, Memory}
use Rattle.evaluator_state.specs.View.{RanItems}
use Rattle.evaluator_frames.specs.declared.frame.Control.{Control}
use Rattle.evaluator_frames.specs.declared.frame.Frame.{Frame}
use Rattle.evaluator_frames.specs.declared.frame.Purpose.{Purpose}
use Rattle.evaluator_frames.specs.Frames.{Sig, a_value, Goes, on, ex, valued, above, stack_does, use_items, items_from}

more_items : {B : Type 0} (m : Ends (List Val)) (v : Val) (done : List Val) (k : List Val → Runs Val) (p : Val → Runs Sig) (j : Sig → Runs B) → then_runs (then_runs (then_runs (then_runs m (λ xs. pure (v ∷ xs))) (λ xs. k (done ++ xs))) p) j ≡ then_runs (then_runs (then_runs m (λ xs. k ((done ++ v ∷ []) ++ xs))) p) j
more_items (ended xs u) v done k p j = ap (λ l. then_runs (then_runs (k l u) p) j) (sym (append_assoc done (v ∷ []) xs))
more_items (failed c site) v done k p j = refl
more_items (waits ps) v done k p j = refl

first_item : {B : Type 0} (m : Ends Val) (rest : Runs (List Val)) (done : List Val) (k : List Val → Runs Val) (p : Val → Runs Sig) (j : Sig → Runs B) → then_runs (then_runs (then_runs (then_runs m (λ v w. then_runs (rest w) (λ xs. pure (v ∷ xs)))) (λ xs. k (done ++ xs))) p) j ≡ then_runs m (λ v w. then_runs (then_runs (then_runs (rest w) (λ xs. k ((done ++ v ∷ []) ++ xs))) p) j)
first_item (ended v w) rest done k p j = more_items (rest w) v done k p j
first_item (failed c site) rest done k p j = refl
first_item (waits ps) rest done k p j = refl

-- items that stop
pub items_stop : (m : Ends (List Val)) (k : List Val → Runs Val) (p : Val → Runs Sig) (j : Sig → Runs Sig) (site : Site) (halt : Halt) (u : World) (after : Control → Ends Sig) → RanItems site m (Err halt) u → Goes site (then_runs (then_runs (then_runs m k) p) j) (Err halt) after
items_stop m k p j site (Code c) u after h = ap (λ q. then_runs (then_runs (then_runs q k) p) j) h
items_stop m k p j site (Memory _) u after h = tt

module _ (env : Env) (n : ℕ) (here : Here) (line : ℕ) (p : Purpose) (frames : List Frame) (w : World) where
  pub item_first : (e : Expr) (rest : List Expr) (done : List Val) → above env n here (valued (items_from env n here p (trees_of (e ∷ rest)) done line)) frames w ≡ then_runs (ex env n here (tree_of e) line w) (λ v. above env n here (valued (items_from env n here p (trees_of rest) (done ++ v ∷ []) line)) frames)
  item_first e rest done = first_item (ex env n here (tree_of e) line w) (values env (call env n) (trees_of rest) (on env n here line)) done (λ xs. use_items env n here p xs line) (λ v. pure (a_value v)) (stack_does env n here frames)

  -- the items from a place on, of which the first is evaluated above a frame
  pub item_begins : (es again : Arc (Vec Expr Global) Global) (e : Expr) (done : List Val) (k m : ℕ) → drop k (arc_value es).items ≡ e ∷ drop m (arc_value es).items → arc_value again ≡ arc_value es → above env n here (valued (items_from env n here p (trees_of (drop k (arc_value es).items)) done line)) frames w ≡ then_runs (ex env n here (tree_of e) line w) (λ v. above env n here (valued (items_from env n here p (trees_of (drop m (arc_value again).items)) (done ++ v ∷ []) line)) frames)
  item_begins es again e done k m first same =
      ap (λ (l : List Expr). above env n here (valued (items_from env n here p (trees_of l) done line)) frames w) first
      ∙ item_first e (drop m (arc_value es).items) done
      ∙ ap (λ (v : Vec Expr Global). then_runs (ex env n here (tree_of e) line w) (λ x. above env n here (valued (items_from env n here p (trees_of (drop m v.items)) (done ++ x ∷ []) line)) frames)) (sym same)

  pub items_end : (es : List Expr) (done : List Val) → es ≡ [] → above env n here (valued (items_from env n here p (trees_of es) done line)) frames w ≡ above env n here (valued (use_items env n here p done line)) frames w
  items_end es done e =
      ap (λ (l : List Expr). above env n here (valued (items_from env n here p (trees_of l) done line)) frames w) e
      ∙ ap (λ (l : List Val). above env n here (valued (use_items env n here p l line)) frames w) (append-nil done)
