use Rattle.std.proofs.lemmas.List.{map-set}
use Rattle.values_objects.proofs.object_list.put_own.Goals as goal

pub returns-in-Some-clause-put : goal.returns-in-Some-clause-put
returns-in-Some-clause-put c = rw (map-set, c.write.ensures)
