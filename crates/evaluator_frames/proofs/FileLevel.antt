-- The statements of a file, one after another.
use Rattle.std.proofs.Common.{◌≡◌, ℕ, List, ◌∷◌, ◌++◌, [], drop, map, refl, ap, sym, ◌∙◌}
use Rattle.syntax_tree.specs.Tree as t
use Rattle.syntax_tree.specs.Tree.{Ex, Fn, Pa, Tp}
use Rattle.syntax_tree.specs.declared.stmt.Stmt.{Stmt}
use Rattle.syntax_tree.specs.declared.def.File.{File}
use Rattle.syntax_tree.specs.Statements.{stmt_of, top_of}
use Rattle.evaluator_semantics.specs.World.{World, Here, Ends, ended, failed, waits, Runs, then_runs, pure}
use Rattle.evaluator_semantics.specs.Environment.{Env}
use Rattle.evaluator_semantics.specs.Statements as s
use Rattle.evaluator_semantics.specs.Statements.{exec}
use Rattle.evaluator_semantics.specs.Calls.{call}
use Rattle.evaluator_frames.specs.declared.frame.Frame.{Frame}
use Rattle.evaluator_frames.specs.Frames.{Sig, an_exit, on_exit, exited, above, stack_does, tops_do}
use Rattle.evaluator_frames.proofs.Bind.{through}

module _ (env : Env) (n : ℕ) (here : Here) (frames : List Frame) (w : World) where
  -- the statements of a file from a place on, of which the first runs above a frame
  pub top_begins : (file again : File) (st : Stmt) (k m : ℕ) (j : Sig → Runs Sig) → map top_of (drop k file.tops.items) ≡ t.stmt (stmt_of st) ∷ map top_of (drop m file.tops.items) → again ≡ file
      → j ≡ (λ (sig : Sig) (u : World). then_runs (on_exit (λ exit. exited (tops_do env n here (map top_of (drop m again.tops.items)))) sig u) (stack_does env n here frames))
      → above env n here (exited (tops_do env n here (map top_of (drop k file.tops.items)))) frames w ≡ then_runs (exited (exec env (call env n) (stmt_of st) here) w) j
  top_begins file again st k m j first same pushed =
      let e = exec env (call env n) (stmt_of st) here w in
      let p = λ (x : s.Exit). pure (an_exit x) in
      let rest = λ (f : File) (x : s.Exit). tops_do env n here (map top_of (drop m f.tops.items)) in
      ap (λ (l : List Tp). above env n here (exited (tops_do env n here l)) frames w) first
      ∙ through e (rest file) p (stack_does env n here frames) an_exit (on_exit (λ exit. exited (rest file exit))) (λ x u. refl)
      ∙ ap (λ (f : File). then_runs (then_runs e p) (λ sig u. then_runs (on_exit (λ exit. exited (rest f exit)) sig u) (stack_does env n here frames))) (sym same)
      ∙ ap (λ i. then_runs (then_runs e p) i) (sym pushed)

-- one more in the middle
one_between : {A : Type 0} → (done : List A) (a : A) (xs : List A) → done ++ a ∷ xs ≡ (done ++ a ∷ []) ++ xs
one_between [] a xs = refl
one_between (d ∷ done) a xs = ap (λ l. d ∷ l) (one_between done a xs)

others_before : {A : Type 0} (e : Ends (List A)) (a : A) (done : List A) (k : List A → Runs s.Exit) (p : s.Exit → Runs Sig) (j : Sig → Runs Sig)
    → then_runs (then_runs (then_runs (then_runs e (λ xs. pure (a ∷ xs))) (λ xs. k (done ++ xs))) p) j ≡ then_runs (then_runs (then_runs e (λ xs. k ((done ++ a ∷ []) ++ xs))) p) j
others_before (ended xs v) a done k p j = ap (λ l. then_runs (then_runs (k l v) p) j) (one_between done a xs)
others_before (failed c site) a done k p j = refl
others_before (waits ps) a done k p j = refl

-- a value before others, and what is done with them all
pub one_before : {A : Type 0} (m : Ends A) (rest : Runs (List A)) (done : List A) (k : List A → Runs s.Exit) (p : s.Exit → Runs Sig) (j : Sig → Runs Sig)
    → then_runs (then_runs (then_runs (then_runs m (λ x u. then_runs (rest u) (λ xs. pure (x ∷ xs)))) (λ xs. k (done ++ xs))) p) j
    ≡ then_runs m (λ x u. then_runs (then_runs (then_runs (rest u) (λ xs. k ((done ++ x ∷ []) ++ xs))) p) j)
one_before (ended a u) rest done k p j = others_before (rest u) a done k p j
one_before (failed c site) rest done k p j = refl
one_before (waits ps) rest done k p j = refl
