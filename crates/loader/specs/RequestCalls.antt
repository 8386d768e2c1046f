-- What the calls of a request promise.
use Rattle.std.specs.Prelude.{◌≡◌, ◌+◌, ◌≤◌, ℕ, List, length, None, Ok, string_bytes}
use Rattle.std.specs.declared.alloc.Global.{Global}
use Rattle.std.specs.declared.vec.Vec.{Vec}
use Rattle.board.specs.Rule.{total}
use Rattle.functions.specs.Next.{next}
use Rattle.keys.specs.Leaves.{read}
use Rattle.keys.specs.declared.key.Key.{Key}
use Rattle.round.specs.Call.{Calls}
use Rattle.round_nodes.specs.TurnCounts.{turns_of}
use Rattle.round_nodes.specs.declared.run.Run.{Run}
use Rattle.loader_commands.specs.Refusals.{request_refusal}
use Rattle.loader_commands.specs.View.{request_seen}
use Rattle.loader_commands.specs.declared.command.Request.{Request}
use Rattle.loader_answers.specs.Answers.{IsRequestAnswer, Tells}
use Rattle.loader_answers.specs.Effects.{AreSettled, Performs, evaluations, reply_roots, request_effect}
use Rattle.loader_answers.specs.Sessions.{SessionView, files_of, state_of}
use Rattle.loader.specs.declared.session.Reply.{Reply}

-- an evaluation has at least one hand, and at most 16
abbrev pub IsHandCount : ℕ → Type 0
IsHandCount n = (1 ≤ n) × (n ≤ 16)

-- as many hands came back as were given, and their turns have grown by those of the runs
abbrev pub ReturnsHands : {H : Type 0} → (H → ℕ) → Vec H Global → Vec H Global → List Run → Type 0
ReturnsHands turns given back runs = (length back.items ≡ length given.items) × (total turns back.items ≡ total turns given.items + turns_of runs)

-- the law of a call of these keys is true of the session's graph, with these runs
abbrev pub CallsKeys : List Key → SessionView → SessionView → List Run → Type 0
CallsKeys keys old new runs = Calls next (read (files_of old)) keys old.graph new.graph (Ok runs)

-- each of these keys that has a value for the files has it in the session's graph
abbrev pub SettlesKeys : List Key → SessionView → SessionView → Type 0
SettlesKeys keys old new = AreSettled (files_of old) keys new.graph

-- the request is not refused
abbrev pub IsAccepted : Request → Type 0
IsAccepted request = request_refusal (request_seen request) ≡ None

-- the keys are those that the reply to the request is about
abbrev pub AreReplyRoots : Request → SessionView → List Key → Type 0
AreReplyRoots request session keys = keys ≡ reply_roots (request_seen request) (files_of session)

-- the session moved by the evaluations that the request asks for, with these runs
abbrev pub RunsEvaluations : Request → SessionView → SessionView → Vec Run Global → Type 0
RunsEvaluations request old new runs = Performs (evaluations (request_seen request) (state_of old)) old new runs.items

-- the text of the reply is that of an answer to the request at the session's files
abbrev pub IsReplyTo : Request → SessionView → Reply → Type 0
IsReplyTo request session reply = Tells (IsRequestAnswer (request_seen request) (files_of session)) (string_bytes reply.text)

-- the keys that the reply is about are settled in the session's graph
abbrev pub SettlesReply : Request → SessionView → SessionView → Type 0
SettlesReply request old new = SettlesKeys (reply_roots (request_seen request) (files_of old)) old new

-- they are, unless the request is refused
abbrev pub SettlesAccepted : Request → SessionView → SessionView → Type 0
SettlesAccepted request old new = IsAccepted request → SettlesReply request old new

-- the session moved as the request says, with the runs of the reply
abbrev pub RunsRequest : Request → SessionView → SessionView → Reply → Type 0
RunsRequest request old new reply = Performs (request_effect (request_seen request) (state_of old)) old new reply.runs.items
