use Rattle.shelf.proofs.Texts.{each_name_has_its_text}
use Rattle.shelf.proofs.laws.each_name_has_its_text.Goals as goal

pub returns : goal.returns
returns c = each_name_has_its_text
