use Rattle.std.proofs.Common.{take}
use Rattle.keys.specs.Turns.{values}
use Rattle.node.specs.Graphs.{record_at}
use Rattle.node.specs.Records.{items_of}
use Rattle.round_nodes.specs.Members.{AreAnswers}
use Rattle.round_nodes.proofs.members.answers_to.Given as goal

abbrev pub invariant-loop-group : goal.invariant-loop-group
invariant-loop-group l = AreAnswers (record_at l.graph) (items_of (take l.group-index l.groups)) (values l.answers.items)
