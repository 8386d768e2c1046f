-- An edit that is made.
use Rattle.std.proofs.Common.{◌≡◌, ◌∙◌, ap, sym, subst, refl, ℕ, ◌<◌, List, Option, None}
use Rattle.filetree.specs.Files.{Files}
use Rattle.keys.specs.declared.key.Key.{Key}
use Rattle.node.specs.Graphs.{GraphView, record_at, IsTouched, AreReached}
use Rattle.loader_answers.specs.State.{Edit, files_refusal, or_version_refusal, refusal_of, version_limit}
use Rattle.loader_answers.specs.Sessions.{SessionView, files_of, state_of}

-- no refusal by the files, and none by the version
pub not_refused : (edit : Edit) (h : SessionView) (tree : Files) → tree ≡ files_of h → files_refusal edit tree ≡ None → h.graph.version < version_limit → refusal_of edit (state_of h) ≡ None
not_refused edit h tree e n v = ap (λ r. or_version_refusal r h.graph.version) (ap (files_refusal edit) (sym e) ∙ n) ∙ below
  where
    below : or_version_refusal None h.graph.version ≡ None
    below = rw (Rattle.std.proofs.lemmas.Bool.lt-ltb h.graph.version version_limit v) refl

-- what is reached at an equal graph
pub is_reached : (old now : GraphView) (paths : List (List ℕ)) (keys listed : List Key) → now ≡ old → listed ≡ keys → AreReached (record_at old) (IsTouched paths) keys → AreReached (record_at now) (IsTouched paths) listed
is_reached old now paths keys listed e l r =
    subst (λ (g : GraphView). AreReached (record_at g) (IsTouched paths) listed) (sym e) (subst (AreReached (record_at old) (IsTouched paths)) (sym l) r)
