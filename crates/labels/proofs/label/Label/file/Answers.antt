use Rattle.std.proofs.Common.{◌∙◌, ap}
use Rattle.labels.specs.Paths.{is_path}
use Rattle.labels.proofs.Segments.{joined_path}
use Rattle.labels.proofs.label.Label.file.Goals as goal

pub returns-clause-path : goal.returns-clause-path
returns-clause-path c = ap is_path c.self.invariant.2 ∙ joined_path (record { package_name = c.self.inside.package_name; name = c.self.inside.name }) c.self.invariant.0
