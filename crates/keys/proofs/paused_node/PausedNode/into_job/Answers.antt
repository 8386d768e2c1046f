use Rattle.std.proofs.Common.{[], append-nil, subst}
use Rattle.keys.specs.Turns.{values}
use Rattle.keys.proofs.paused_node.PausedNode.into_job.Goals as goal

pub from_state-requires-after_bounds : goal.from_state-requires-after_bounds
from_state-requires-after_bounds g c κs within = subst (g.R.Rules.fits c.self.inside.state c.self.inside.key) (append-nil (values c.self.inside.answers.items)) (c.self.invariant [])
