use Rattle.std.proofs.Common.{take, true}
use Rattle.keys.specs.Turns.{values}
use Rattle.node.specs.Graphs.{record_at}
use Rattle.round_nodes.specs.Members.{AnswersGroup}
use Rattle.round_nodes.proofs.members.answer_group.Given as goal

abbrev pub invariant-loop-key : goal.invariant-loop-key
invariant-loop-key l = AnswersGroup (record_at l.graph) (take l.key-index l.group) (values l.fn.answers.items) (values l.answers.items) true
