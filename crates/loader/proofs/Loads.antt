-- A load that is not refused: what it publishes, and where it stops.
use Rattle.std.proofs.Common.{◌≡◌, ℕ, List, false, None, Some, is_some, refl, ap, sym, subst}
use Rattle.std.specs.Prelude.{Option}
use Rattle.filetree.specs.Files.{Files}
use Rattle.loader_commands.specs.Commands.{load}
use Rattle.loader_commands.specs.Refusals.{request_refusal}
use Rattle.round_nodes.specs.declared.run.Run.{Run}
use Rattle.shelf.specs.declared.publish.Publish.{Publish}
use Rattle.shelf.specs.Lists.{then_published}
use Rattle.loader_answers.specs.Effects.{Performs, StopsAfter, evaluations, unless_refused, request_effect, request_roots}
use Rattle.loader_answers.specs.Sessions.{SessionView}
use Rattle.loader_answers.specs.State.{State}
use Rattle.loader_answers.specs.Publishing.{Entries, AreEntries, Publishes, names_unless, names_to_publish}

pub none_left : (o : Option ℕ) → is_some o ≡ false → o ≡ None
none_left None e = refl
none_left (Some n) e = absurd (cc e)

module _ (names : List (List ℕ)) (accepted : request_refusal (load names) ≡ None) where
  pub names_are : names_to_publish (load names) ≡ Some names
  names_are = ap (λ n. names_unless n (Some names)) accepted

  pub published_so : (files : Files) (version : ℕ) (old new : List Publish) (entries : Entries) → AreEntries files names entries → new ≡ then_published old version entries → Publishes files version (names_to_publish (load names)) old new
  published_so files version old new entries are is = subst (λ ns. Publishes files version ns old new) (sym names_are) (entries, are, is)

  pub stopped_so : (old new : SessionView) (runs : List Run) (s : State) → Performs (request_effect (load names) s) old new runs → StopsAfter (request_roots (load names)) old new
  stopped_so old new runs s moves =
      let effect = evaluations (load names) s in
      let moved : Performs effect old new runs = subst (λ n. Performs (unless_refused n effect) old new runs) accepted moves in
      λ past at of law. (moved.3 past (record { at_entry = at; of_roots = of; lawful = law })).after
