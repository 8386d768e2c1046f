-- The statements of a file, as the language has them and as a machine has them.
use Rattle.std.proofs.Common.{◌≡◌, ℕ, List, [], ◌∷◌, refl, ap, sym, ◌∙◌}
use Rattle.syntax_tree.specs.Tree as t
use Rattle.syntax_tree.specs.Tree.{Bound, Pa, Fn, Tp}
use Rattle.values_semantics.specs.declared.val.Val.{Val}
use Rattle.values_semantics.specs.Heap.{makes, function}
use Rattle.evaluator_semantics.specs.World.{World, Here, at_line, Ends, ended, failed, waits, Runs, then_runs, ◌>>=◌, pure, on_heap, tick}
use Rattle.evaluator_semantics.specs.Names.{bind, change_names}
use Rattle.evaluator_semantics.specs.Environment.{Env}
use Rattle.evaluator_semantics.specs.Statements.{goes_on}
use Rattle.evaluator_semantics.specs.Files.{open_calls, default_value, default_values, keep_defaults, define, top, tops, file_level}
use Rattle.evaluator_frames.specs.Frames.{default_one, defaults_from, defined, defines, top_does, tops_do}
use Rattle.evaluator_frames.proofs.Bind.{then_assoc}

default_same : (env : Env) (here : Here) (line : ℕ) (b : Bound) (rest : Runs (List Val)) → default_value env b (at_line line here) rest ≡ default_one env open_calls here b line rest
default_same env here line t.no_bound rest = refl
default_same env here line (t.bound e) rest = refl

defaults_same : (env : Env) (here : Here) (line : ℕ) (ps : List Pa) → default_values env ps (at_line line here) ≡ defaults_from env open_calls here ps line
defaults_same env here line [] = refl
defaults_same env here line (p ∷ ps) = ap (λ (rest : Runs (List Val)). default_value env p.default (at_line line here) rest) (defaults_same env here line ps) ∙ default_same env here line p.default (defaults_from env open_calls here ps line)

-- what is made, and then bound
made_same : {B : Type 0} (o : Ends Val) (b : Val → Runs (Unit {0})) (j : Runs B) → then_runs (then_runs o b) (λ _. j) ≡ then_runs (then_runs o (λ x u. then_runs (b x u) (λ _. pure goes_on))) (λ _. j)
made_same (ended x u) b j = sym (then_assoc (b x u) (λ _. pure goes_on) (λ _. j))
made_same (failed c site) b j = refl
made_same (waits ps) b j = refl

-- the same, behind the values of the defaults
valued_same : {B : Type 0} (d : Ends (List Val)) (made : Runs Val) (kept : List Val → World → World) (b : Val → Runs (Unit {0})) (j : Runs B)
    → then_runs (then_runs d (λ xs u. then_runs (made u) (λ x v. b x (kept xs v)))) (λ _. j)
    ≡ then_runs (then_runs d (λ xs u. then_runs (made u) (λ x v. then_runs (b x (kept xs v)) (λ _. pure goes_on)))) (λ _. j)
valued_same (ended xs u) made kept b j = made_same (made u) (λ x v. b x (kept xs v)) j
valued_same (failed c site) made kept b j = refl
valued_same (waits ps) made kept b j = refl

behind_all : {A B : Type 0} (o : Ends A) (m n : World → Ends B) → ((u : World) → m u ≡ n u) → then_runs o (λ _. m) ≡ then_runs o (λ _. n)
behind_all (ended a u) m n h = h u
behind_all (failed c site) m n h = refl
behind_all (waits ps) m n h = refl

module _ (env : Env) where
  abbrev level : Here
  level = file_level env

  define_same : {B : Type 0} (f : Fn) (w : World) (j : Runs B) → then_runs (define env f (at_line f.line level) w) (λ _. j) ≡ then_runs (top_does env open_calls level (t.def f) w) (λ _. j)
  define_same f w j =
      let here = at_line f.line level in
      let made = on_heap here (makes (function env.label f.name)) in
      let kept = λ (xs : List Val) (u : World). record u { files = change_names env.label (λ names. record names { defaults = (f.name, xs) ∷ names.defaults }) u.files } in
      let b = λ (x : Val). bind f.name x here in
      let first = λ (u : World). then_runs (default_values env f.params here u) (λ xs. made >>= λ x. keep_defaults env.label f.name xs >>= λ _. b x) in
      let second = λ (u : World). defines env open_calls level f f.params [] f.line u in
      then_assoc (tick here w) (λ _. first) (λ _. j)
      ∙ behind_all (tick here w) (λ u. then_runs (first u) (λ _. j)) (λ u. then_runs (second u) (λ _. j)) (λ u.
      valued_same (default_values env f.params here u) made kept b j
      ∙ ap (λ (d : Runs (List Val)). then_runs (then_runs (d u) (λ xs. defined env open_calls level f xs f.line)) (λ _. j)) (defaults_same env level f.line f.params))
      ∙ sym (then_assoc (tick here w) (λ _. second) (λ _. j))

  top_same : {B : Type 0} (x : Tp) (w : World) (j : Runs B) → then_runs (top env x level w) (λ _. j) ≡ then_runs (top_does env open_calls level x w) (λ _. j)
  top_same (t.stmt s) w j = then_assoc _ (λ _. pure tt) (λ _. j)
  top_same (t.def f) w j = define_same f w j

  -- what is behind the statements of a file is behind those of a machine
  pub tops_same : {B : Type 0} (xs : List Tp) (w : World) (j : Runs B) → then_runs (tops env xs level w) (λ _. j) ≡ then_runs (tops_do env open_calls level xs w) (λ _. j)
  tops_same [] w j = refl
  tops_same (x ∷ xs) w j =
      then_assoc (top env x level w) (λ _. tops env xs level) (λ _. j)
      ∙ behind_all (top env x level w) (λ u. then_runs (tops env xs level u) (λ _. j)) (λ u. then_runs (tops_do env open_calls level xs u) (λ _. j)) (λ u. tops_same xs u j)
      ∙ top_same x w (λ u. then_runs (tops_do env open_calls level xs u) (λ _. j))
      ∙ sym (then_assoc (top_does env open_calls level x w) (λ _. tops_do env open_calls level xs) (λ _. j))
