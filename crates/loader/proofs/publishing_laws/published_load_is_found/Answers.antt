use Rattle.loader.proofs.Readers.{publish_is_found}
use Rattle.loader.proofs.publishing_laws.published_load_is_found.Goals as goal

pub returns : goal.returns
returns c = publish_is_found
