-- What is kept of a node between two turns may go to another thread.
use denote.Param.Send.{IsSend, recorded_send, sendable}
use Rattle.std.proofs.Crossing.{crosses}
use Rattle.evaluator.proofs.Crossing.{suspended_send}
use Rattle.evaluator.proofs.Trees.{trees_cross}
use Rattle.syntax_grammar.proofs.kind.FileKind.TheSendSync as KindSends
use Rattle.keys.proofs.key.Key.TheSendSync as KeySends
use Rattle.base_types.proofs.text.Text.TheSendSync as TextSends
use Rattle.functions.specs.contracts.source.Source
use Rattle.functions.specs.contracts.reply.FileLoads
use Rattle.functions.specs.contracts.reply.PackageEvaluation
use Rattle.functions.specs.contracts.reply.Continuation
use Rattle.functions.specs.contracts.loading.ResumePoint
use Rattle.functions.specs.contracts.loading.NodeState

source_field_send : IsSend (Source.the_field).row
source_field_send = search (TextSends.the_send, KindSends.the_field_send, crosses, sendable) depth 60 fits 20000

parsed_field_send : IsSend (FileLoads.the_field).row
parsed_field_send = search (source_field_send, KeySends.the_send, trees_cross) depth 60 fits 20000

paused_field_send : IsSend (PackageEvaluation.the_field).row
paused_field_send = search (suspended_send, TextSends.the_send, crosses, sendable) depth 60 fits 20000

continuation_field_send : IsSend (Continuation.the_field).row
continuation_field_send = search (parsed_field_send, paused_field_send, crosses, sendable) depth 60 fits 20000

held_field_send : IsSend (ResumePoint.the_field).row
held_field_send = search (continuation_field_send, crosses, sendable) depth 60 fits 20000

held_send : IsSend ResumePoint.the_row
held_send = search (held_field_send, recorded_send)

pub kept_send : IsSend NodeState.the_row
kept_send = search (held_field_send, held_send, KeySends.the_send, KeySends.the_field_send, crosses, sendable) depth 60 fits 20000
