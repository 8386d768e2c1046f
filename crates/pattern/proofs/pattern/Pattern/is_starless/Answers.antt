use Rattle.std.proofs.Common.{◌∙◌, ap, sym}
use Rattle.pattern.specs.Starless.{is_starless}
use Rattle.pattern.proofs.Starless.{plain_matches_itself}
use Rattle.pattern.proofs.pattern.Pattern.is_starless.Goals as goal

pub returns-clause-path : goal.returns-clause-path
returns-clause-path c = λ h path. plain_matches_itself c.args.self.now path (search)
