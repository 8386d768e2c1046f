use Rattle.loader.proofs.Readers.{publish_tells, found_tells}
use Rattle.loader.proofs.publishing_laws.published_texts_are_answers.Goals as goal

pub returns : goal.returns
returns c = record { kept = publish_tells; found = found_tells }
