use Rattle.std.proofs.Common.{rules, sym, subst}
use Rattle.filetree.specs.Files.{Files}
use Rattle.filetree.specs.Lawful.{HasPaths}
use Rattle.filetree.proofs.Lawful.{edits_keep_paths}
use Rattle.loader.proofs.session.Session.new_at.Goals as goal

pub invariant_of-result : goal.invariant_of-result
invariant_of-result c = (search rules, search rules, subst (λ (files : Files). HasPaths files) (sym c.new.ensures) edits_keep_paths.0)
