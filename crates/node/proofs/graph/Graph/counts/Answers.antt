use Rattle.std.proofs.Common.{◌∙◌, sym, ap}
use Rattle.node.specs.Counts.{edges_of}
use Rattle.node.proofs.Counting.{edges_same}
use Rattle.node.proofs.graph.Graph.counts.Goals as goal

pub returns-clause-edges : goal.returns-clause-edges
returns-clause-edges c = rw (← (sym (edges_same c.self.inside.records c.self.inside.version c.self.invariant.ordered c.self.invariant.asks) ∙ ap edges_of c.self.view_is)) c.edges.ensures.some

pub returns-clause-past : goal.returns-clause-past
returns-clause-past c = rw (← (sym (edges_same c.self.inside.records c.self.inside.version c.self.invariant.ordered c.self.invariant.asks) ∙ ap edges_of c.self.view_is)) c.edges.ensures.none
