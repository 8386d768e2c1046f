-- The evaluations of a request: how they move the session, and where they stop.
use Rattle.std.proofs.Common.{◌≡◌, ap, sym, subst, inl, inr, ℕ, List, ◌++◌, Some, None}
use Rattle.std.specs.Prelude.{Ok, Option, option_map}
use Rattle.functions.specs.Next.{next}
use Rattle.keys.specs.Leaves.{read}
use Rattle.filetree.specs.Files.{Files}
use Rattle.node.specs.Graphs.{GraphView}
use Rattle.round.specs.Call.{Calls}
use Rattle.keys.specs.declared.key.Key.{Key}
use Rattle.round_nodes.specs.declared.run.Run.{Run}
use Rattle.loader_commands.specs.Commands.{Request}
use Rattle.loader_answers.specs.Journal.{Evaluation}
use Rattle.loader_answers.specs.Sessions.{SessionView, IsConsistent, files_of, state_of}
use Rattle.loader_answers.specs.Effects.{AreSettled, Performs, Evaluates, EvaluatesEach, StopsAfter, StopsIn, StopsRequest, at_version, evaluations, request_roots, later_roots}

-- a call of the keys is an evaluation of them
pub evaluates : (version : ℕ) (roots keys : List Key) (old new : SessionView) (runs : List Run) → version ≡ old.graph.version → roots ≡ keys → (new.began ≡ old.began) × (new.edits ≡ old.edits)
    → Calls next (read (files_of old)) roots old.graph new.graph (Ok runs) → Evaluates (at_version version keys) old new runs
evaluates version roots keys old new runs at are history law =
    (history.0, history.1, at, subst (λ (ks : List Key). Calls next (read (files_of old)) ks old.graph new.graph (Ok runs)) are law)

-- a stop in an evaluation of the keys
pub stops_of : (roots keys : List Key) (old new : SessionView) → roots ≡ keys → StopsAfter roots old new → StopsAfter keys old new
stops_of roots keys old new are s = subst (λ (ks : List Key). StopsAfter ks old new) are s

-- the files stay where the edits do
pub same_files : (old new : SessionView) → new.edits ≡ old.edits → files_of new ≡ files_of old
same_files old new edits = ap (λ es. files_of (record { began = old.began; edits = es; graph = new.graph })) edits

pub held_of : (files others : Files) (roots keys : List Key) (graph : GraphView) → files ≡ others → roots ≡ keys → AreSettled files roots graph → AreSettled others keys graph
held_of files others roots keys graph same are held = subst (λ (f : Files). AreSettled f keys graph) same (subst (λ (ks : List Key). AreSettled files ks graph) are held)

-- an evaluation that went well leaves what a stop leaves
pub ended_stops : (request : Evaluation) (old new : SessionView) (runs : List Run) → Evaluates request old new runs → StopsAfter request.roots old new
ended_stops request old new runs e = λ past at of law. (e.3 past (record { at_entry = at; of_roots = of; lawful = law })).after

module _ (request : Request) (old new : SessionView) where
  -- a request that stops once its evaluations went well
  pub moved_stops : (runs : List Run) → Performs (evaluations request (state_of old)) old new runs → StopsRequest request old new
  moved_stops runs m = go (later_roots request (files_of old)) m
    where
      go : (o : Option (List Key)) → EvaluatesEach (at_version old.graph.version (request_roots request)) (option_map (at_version old.graph.version) o) old new runs → StopsIn (request_roots request) o old new
      go None e = ended_stops (at_version old.graph.version (request_roots request)) old new runs e
      go (Some later) (mid, front, rest, lawful, is, e, f) = inr (mid, front, e, lawful, ended_stops (at_version old.graph.version later) mid new rest f)

  -- that stops in its first evaluation
  pub first_stops : StopsAfter (request_roots request) old new → StopsRequest request old new
  first_stops s = go (later_roots request (files_of old))
    where
      go : (o : Option (List Key)) → StopsIn (request_roots request) o old new
      go None = s
      go (Some later) = inl s

  -- that stops in its second
  pub second_stops : (later : List Key) (mid : SessionView) (runs : List Run) → later_roots request (files_of old) ≡ Some later → Evaluates (at_version old.graph.version (request_roots request)) old mid runs → IsConsistent mid
      → StopsAfter later mid new → StopsRequest request old new
  second_stops later mid runs is e lawful s = subst (λ (o : Option (List Key)). StopsIn (request_roots request) o old new) (sym is) (inr (mid, runs, e, lawful, s))

  -- its only evaluation went well
  pub moved_once : (runs : List Run) → later_roots request (files_of old) ≡ None → Evaluates (at_version old.graph.version (request_roots request)) old new runs → Performs (evaluations request (state_of old)) old new runs
  moved_once runs is e =
      subst (λ (o : Option (List Key)). EvaluatesEach (at_version old.graph.version (request_roots request)) (option_map (at_version old.graph.version) o) old new runs) (sym is) e

  -- both went well
  pub moved_twice : (later : List Key) (mid : SessionView) (runs front rest : List Run) → later_roots request (files_of old) ≡ Some later → runs ≡ front ++ rest → IsConsistent mid
      → Evaluates (at_version old.graph.version (request_roots request)) old mid front → Evaluates (at_version old.graph.version later) mid new rest → Performs (evaluations request (state_of old)) old new runs
  moved_twice later mid runs front rest is joined lawful e f =
      subst (λ (o : Option (List Key)). EvaluatesEach (at_version old.graph.version (request_roots request)) (option_map (at_version old.graph.version) o) old new runs) (sym is) (mid, front, rest, lawful, joined, e, f)
