-- What is evaluated and run at once: an expression that can wait for nothing and is light, and a statement all of whose
-- parts are such.
use Rattle.std.specs.Prelude.{ℕ, List, Bool, false, ◌&&◌}
use Rattle.syntax_tree.specs.Tree as t
use Rattle.syntax_tree.specs.Tree.{Ex, St}
use Rattle.evaluator_direct.specs.Quiet.{quiet}
use Rattle.evaluator_direct.specs.Weight.{weight, is_light}

abbrev pub at_once : (List ℕ → Bool) → Ex → Bool
at_once free e = quiet free e && is_light (weight e)

-- an assignment to a name or an index
abbrev pub assigned_at_once : (List ℕ → Bool) → Ex → Ex → Bool
assigned_at_once free (t.name x) e = at_once free e
assigned_at_once free (t.index a i) e = at_once free e && (at_once free a && at_once free i)
assigned_at_once free target e = false

-- an augmented assignment to a name
abbrev pub augmented_at_once : (List ℕ → Bool) → Ex → Ex → Bool
augmented_at_once free (t.name x) e = at_once free e
augmented_at_once free target e = false

abbrev pub run_at_once : (List ℕ → Bool) → St → Bool
run_at_once free (t.eval line e) = at_once free e
run_at_once free (t.assign line target e) = assigned_at_once free target e
run_at_once free (t.augment line target op e) = augmented_at_once free target e
run_at_once free st = false
