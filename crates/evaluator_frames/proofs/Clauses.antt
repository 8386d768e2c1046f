-- The first clause of a comprehension.
use Rattle.std.proofs.Common.{◌≡◌, ℕ, List, [], ◌∷◌, drop, Some, Result, Ok, Err, IfOk, ap, sym, ◌∙◌}
use Rattle.std.specs.Prelude.{slice_get, IsOkUnless}
use Rattle.std.specs.Arc.{arc_value}
use Rattle.values_objects.specs.declared.halt.Halt.{Halt}
use Rattle.values_objects.specs.declared.halt.Halt.TheVariants.{Code, Memory}
use Rattle.values_semantics.specs.declared.val.Val.{Val}
use Rattle.syntax_tree.specs.Tree as t
use Rattle.syntax_tree.specs.Tree.{Ex, Cl}
use Rattle.syntax_tree.specs.declared.expr.Clause.{Clause}
use Rattle.syntax_tree.specs.View.{clause_of, clause_trees}
use Rattle.evaluator_semantics.specs.World.{World, Site, Here, Ends, failed, Runs, then_runs, ◌>>=◌, pure, tick, in_block}
use Rattle.evaluator_semantics.specs.Names.{new_block, clause_names}
use Rattle.evaluator_semantics.specs.Environment.{Env}
use Rattle.evaluator_semantics.specs.Targets.{store}
use Rattle.evaluator_semantics.specs.Loops as l
use Rattle.evaluator_semantics.specs.Loops.{nothing_yet, gather, over}
use Rattle.evaluator_semantics.specs.Expressions.{comprehension, clauses}
use Rattle.evaluator_semantics.specs.Calls.{call}
use Rattle.evaluator_frames.specs.declared.frame.Frame.{Frame}
use Rattle.evaluator_frames.specs.declared.frame.Control.{Control}
use Rattle.evaluator_frames.specs.declared.frame.Comprehension.{Comprehension}
use Rattle.evaluator_frames.specs.Frames.{Sig, a_gathered, Goes, on, ex, aims_at, gathered, item_does, first_does, above, stack_does}
use Rattle.evaluator_frames.proofs.Bind.{under}
use Rattle.base_types.specs.Refusals.{memory}

-- how far a call leads that stops for memory alone
pub went : (r : Result Control Halt) (site : Site) (before : Ends Sig) (after : Control → Ends Sig) (P : Control → Type 0) → ((control : Control) → P control → before ≡ after control) → IfOk r P → IsOkUnless r (Memory memory) → Goes site before r after
went (Ok control) site before after P leads ok err = leads control ok
went (Err (Code c)) site before after P leads ok err = absurd cc
went (Err (Memory _)) site before after P leads ok err = tt

module _ (env : Env) (n : ℕ) (here : Here) (line : ℕ) (frames : List Frame) (w : World) where
  pub first_begins : (c : Clause) (cs : List Clause) (target sequence : Ex) (comp : Comprehension) → clause_of c ≡ t.for_in target sequence → (arc_value comp.clauses).items ≡ c ∷ cs
      → above env n here (gathered (comprehension env (call env n) (clause_trees (c ∷ cs)) (item_does env n here comp.item line) (on env n here line))) frames w
      ≡ then_runs (ex env n here sequence line w) (λ v. above env n here (gathered (first_does env n here target comp line v)) frames)
  first_begins c cs target sequence comp is items =
      let h = on env n here line in
      let inner = item_does env n here comp.item line in
      let turn = λ (ds : List Clause) (y : Val) (got : l.Collection). tick h >>= λ _. aims_at env n here target line >>= λ a. store a y h >>= λ _. clauses env (call env n) (clause_trees (drop 1 ds)) inner h got in
      let all = λ (names : t.Clauses) (ds : List Clause) (v : Val). in_block (new_block (clause_names names)) (over v (λ xs. gather (turn ds) xs nothing_yet) h) in
      let m = ex env n here sequence line w in
      let p = λ (got : l.Collection). pure (a_gathered got) in
      let j = stack_does env n here frames in
      ap (λ (cl : Cl). above env n here (gathered (comprehension env (call env n) (t.clause cl (clause_trees cs)) inner h)) frames w) is
      ∙ under m (all (t.clause (t.for_in target sequence) (clause_trees cs)) (c ∷ cs)) p j
      ∙ ap (λ (cl : Cl). then_runs m (λ v u. then_runs (then_runs (all (t.clause cl (clause_trees cs)) (c ∷ cs) v u) p) j)) (sym is)
      ∙ ap (λ (ds : List Clause). then_runs m (λ v u. then_runs (then_runs (all (clause_trees ds) ds v u) p) j)) (sym items)

  pub no_first : (c : Clause) (cs : List Clause) (condition : Ex) (inner : l.Collection → Runs l.Collection) → clause_of c ≡ t.only_if condition
      → above env n here (gathered (comprehension env (call env n) (clause_trees (c ∷ cs)) inner (on env n here line))) frames w ≡ failed 5 (on env n here line).site
  no_first c cs condition inner is = ap (λ (cl : Cl). above env n here (gathered (comprehension env (call env n) (t.clause cl (clause_trees cs)) inner (on env n here line))) frames w) is

pub front_of : {X : Type 0} → (xs : List X) (x : X) → slice_get xs 0 ≡ Some x → xs ≡ x ∷ drop 1 xs
front_of [] x e = cc
front_of (y ∷ ys) x e = let f : y ≡ x = cc in ap (λ z. z ∷ ys) f
