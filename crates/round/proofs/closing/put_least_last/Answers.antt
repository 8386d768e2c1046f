use Rattle.round.proofs.Descents.{sorted_back}
use Rattle.round.proofs.closing.put_least_last.Goals as goal

pub returns-clause-descends : goal.returns-clause-descends
returns-clause-descends c = sorted_back c.sort_keys.new.self.entries c.reverse.new.self.entries c.in_ok-sort_keys.ensures.sorted c.reverse.ensures.entries
