use Rattle.std.proofs.Common.{◌≡◌, drop}
use Rattle.std.specs.Map.{lookup}
use Rattle.shelf.specs.Lists.{same_text}
use Rattle.loader_answers.proofs.publishing.text_in.Given as goal

-- what is left has the same for the name
abbrev pub invariant-loop-entry : goal.invariant-loop-entry
invariant-loop-entry l = lookup (λ n. same_text n l.name) (drop l.entry-index l.entries) ≡ lookup (λ n. same_text n l.fn.name) l.fn.entries
