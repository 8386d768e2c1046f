-- Operands, conditions and entries.
use Rattle.std.proofs.Common.{◌≡◌, ◌<◌, ℕ, Bool, List, ◌∷◌, drop, Result, Ok, Err, IfOk, refl, ap, sym, ◌∙◌, arith, Vec, Global}
use Rattle.std.specs.Prelude.{if◌then◌else◌}
use Rattle.std.specs.declared.sync.Arc.{Arc}
use Rattle.std.specs.Arc.{arc_value}
use Rattle.values_objects.specs.declared.halt.Halt.{Halt}
use Rattle.values_objects.specs.declared.halt.Halt.TheVariants.{Code, Memory}
use Rattle.values_semantics.specs.declared.val.Val.{Val}
use Rattle.values_semantics.specs.Heap.{Entries, makes_dict}
use Rattle.values_semantics.specs.Operators.{is_true}
use Rattle.values_semantics.specs.Binary.{binary}
use Rattle.syntax_tree.specs.Tree.{Exs}
use Rattle.syntax_tree.specs.declared.expr.BinaryOp.{BinaryOp}
use Rattle.syntax_tree.specs.declared.expr.BinaryOp.TheVariants as o
use Rattle.syntax_tree.specs.declared.expr.Expr.{Expr}
use Rattle.syntax_tree.specs.View.{tree_of, trees_of}
use Rattle.evaluator_semantics.specs.World.{World, Site, Here, Ends, ended, failed, waits, Runs, then_runs, ◌>>=◌, pure, on_heap, by_truth}
use Rattle.evaluator_semantics.specs.Environment.{Env}
use Rattle.evaluator_semantics.specs.Expressions.{operator_of}
use Rattle.evaluator_state.specs.View.{Ran}
use Rattle.evaluator_frames.specs.declared.frame.Frame.{Frame}
use Rattle.evaluator_frames.specs.declared.frame.Control.{Control}
use Rattle.evaluator_frames.specs.Weight.{Lighter}
use Rattle.evaluator_frames.specs.Frames.{Sig, a_value, Goes, on, ex, valued, right, entries_from, entry_from, entry_set, above, stack_does}

-- a piece that stops, with others behind it
pub stops : {A B : Type 0} (m : Ends A) (k : A → Runs B) (j : B → Runs Sig) (site : Site) (halt : Halt) (u : World) (after : Control → Ends Sig) → Ran site m (Err halt) u → Goes site (then_runs (then_runs m k) j) (Err halt) after
stops m k j site (Code c) u after e = ap (λ o. then_runs (then_runs o k) j) e
stops m k j site (Memory _) u after e = tt

-- what has taken a step is lighter
pub spent : (r : Result Control Halt) (s w s' : ℕ) (f : Control → ℕ) → IfOk r (λ _. s' < s) → IfOk r (λ control. Lighter s w s' (f control))
spent (Ok control) s w s' f h = record { steps = omega (arith, h); weight = λ e. absurd (omega (arith, h, e)) }
spent (Err halt) s w s' f h = tt

pub right_other : (op : BinaryOp) (x : Val) (m : Runs Val) (h : Here) → (op ≡ o.Or → ⊥) → (op ≡ o.And → ⊥) → right op x m h ≡ (λ w. then_runs (m w) (λ y. on_heap h (binary (operator_of op) x y)))
right_other o.Or x m h p q = absurd (p refl)
right_other o.And x m h p q = absurd (q refl)
right_other o.Equal x m h p q = refl
right_other o.NotEqual x m h p q = refl
right_other o.Less x m h p q = refl
right_other o.LessEqual x m h p q = refl
right_other o.Greater x m h p q = refl
right_other o.GreaterEqual x m h p q = refl
right_other o.In x m h p q = refl
right_other o.NotIn x m h p q = refl
right_other o.Add x m h p q = refl
right_other o.Subtract x m h p q = refl
right_other o.Multiply x m h p q = refl
right_other o.Divide x m h p q = refl
right_other o.Remainder x m h p q = refl

entry_case : {A B C : Type 0} (m : Ends Val) (k : Val → Runs A) (f : A → Runs B) (p : B → Runs C) (j : C → Runs Sig) → then_runs (then_runs (then_runs (then_runs m k) f) p) j ≡ then_runs m (λ x u. then_runs (then_runs (then_runs (k x u) f) p) j)
entry_case (ended x u) k f p j = refl
entry_case (failed c site) k f p j = refl
entry_case (waits ps) k f p j = refl

module _ (env : Env) (n : ℕ) (here : Here) (line : ℕ) (frames : List Frame) (w : World) where
  -- one of two pieces, by the truth of a value
  pub truly : (x : Val) (m k : Runs Val) (b : Bool) → b ≡ is_true x w.store → above env n here (valued (by_truth x m k)) frames w ≡ above env n here (valued (if b then m else k)) frames w
  truly x m k b e = ap (λ (c : Bool). above env n here (valued (if c then m else k)) frames w) (sym e)

  -- the entries from a place on, of which the first key is evaluated above a frame
  pub entry_begins : (ks again vs : Arc (Vec Expr Global) Global) (k v : Expr) (done : Entries) (i m : ℕ) → drop i (arc_value ks).items ≡ k ∷ drop m (arc_value ks).items → drop i (arc_value vs).items ≡ v ∷ drop m (arc_value vs).items → arc_value again ≡ arc_value ks
      → above env n here (valued (entries_from env n here (trees_of (drop i (arc_value ks).items)) (trees_of (drop i (arc_value vs).items)) done line)) frames w
      ≡ then_runs (ex env n here (tree_of k) line w) (λ x. above env n here (valued (entry_from env n here x (trees_of (drop i (arc_value vs).items)) (trees_of (drop m (arc_value again).items)) done line)) frames)
  entry_begins ks again vs k v done i m first value same =
      let h = on env n here line in
      let p = λ (x : Val). pure (a_value x) in
      let j = stack_does env n here frames in
      let f = λ (found : Entries). on_heap h (makes_dict found) in
      let vs' = trees_of (drop m (arc_value vs).items) in
      let rest = λ (b : Vec Expr Global) (x : Val). ex env n here (tree_of v) line >>= λ y. entry_set env n here x y (trees_of (drop m b.items)) vs' done line in
      ap (λ (l : List Expr). above env n here (valued (entries_from env n here (trees_of l) (trees_of (drop i (arc_value vs).items)) done line)) frames w) first
      ∙ ap (λ (l : List Expr). above env n here (valued (entries_from env n here (trees_of (k ∷ drop m (arc_value ks).items)) (trees_of l) done line)) frames w) value
      ∙ entry_case (ex env n here (tree_of k) line w) (rest (arc_value ks)) f p j
      ∙ ap (λ (b : Vec Expr Global). then_runs (ex env n here (tree_of k) line w) (λ x u. then_runs (then_runs (then_runs (rest b x u) f) p) j)) (sym same)
      ∙ ap (λ (l : List Expr). then_runs (ex env n here (tree_of k) line w) (λ x. above env n here (valued (entry_from env n here x (trees_of l) (trees_of (drop m (arc_value again).items)) done line)) frames)) (sym value)

  -- the value of a key, above a frame
  pub value_begins : (vs again : Arc (Vec Expr Global) Global) (k : Val) (v : Expr) (ks : Exs) (done : Entries) (i m : ℕ) → drop i (arc_value vs).items ≡ v ∷ drop m (arc_value vs).items → arc_value again ≡ arc_value vs
      → above env n here (valued (entry_from env n here k (trees_of (drop i (arc_value vs).items)) ks done line)) frames w
      ≡ then_runs (ex env n here (tree_of v) line w) (λ y. above env n here (valued (entry_set env n here k y ks (trees_of (drop m (arc_value again).items)) done line >>= λ found. on_heap (on env n here line) (makes_dict found))) frames)
  value_begins vs again k v ks done i m first same =
      let h = on env n here line in
      let f = λ (found : Entries). on_heap h (makes_dict found) in
      ap (λ (l : List Expr). above env n here (valued (entry_from env n here k (trees_of l) ks done line)) frames w) first
      ∙ entry_case (ex env n here (tree_of v) line w) (λ y. entry_set env n here k y ks (trees_of (drop m (arc_value vs).items)) done line) f (λ x. pure (a_value x)) (stack_does env n here frames)
      ∙ ap (λ (b : Vec Expr Global). then_runs (ex env n here (tree_of v) line w) (λ y. above env n here (valued (entry_set env n here k y ks (trees_of (drop m b.items)) done line >>= f)) frames)) (sym same)
