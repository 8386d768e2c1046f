use Rattle.std.proofs.Common.{◌∙◌, ap, sym, refl, arith, List, ◌++◌, ◌∷◌, []}
use Rattle.std.specs.Prelude.{Option, option_map, option_and_then, string_bytes}
use Rattle.loader_commands.specs.Commands.{data_of, command_of}
use Rattle.loader_commands.specs.View.{request_seen}
use Rattle.serde_json.specs.Data.{Data}
use Rattle.serde_json.specs.View.{view}
use Rattle.loader.proofs.LineAnswers.{long_line, plain_line, asking_line}
use Rattle.round_nodes.specs.TurnCounts.{turns_of}
use Rattle.loader.proofs.Counts.{turns_append}
use Rattle.loader.proofs.session.reply_to_line_with.Goals as goal

pub returns-then-line-clause-answer : goal.returns-then-line-clause-answer
returns-then-line-clause-answer g c = λ whole keeps. (
  [],
  c.in_ok-tell_line.ensures.kept,
  omega arith,
  long_line whole c.args.session.now (string_bytes c.in_ok-tell_line.field-0) [] (sym keeps.long ∙ c.if-line.true)
      (c.in_ok-tell_line.ensures.text ∙ ap (λ r. r ++ 10 ∷ []) c.in_ok-text.ensures) refl,
)

pub returns-in-Refused-clause-answer : goal.returns-in-Refused-clause-answer
returns-in-Refused-clause-answer g c = λ whole keeps.
    let same = c.as_slice.ensures.value ∙ keeps.all c.if-line.false in
    let holds = ap (λ bytes. option_and_then command_of (data_of bytes)) (sym same) ∙ ap (λ (o : Option Data). option_and_then command_of o) (sym c.in_ok-value.ensures) in
    let begins = c.in_ok-step.ensures.begins in (
      [],
      c.in_ok-tell_line-in-Refused.ensures.kept,
      omega arith,
      plain_line whole (option_and_then command_of (option_map view c.in_ok-value.value)) c.args.session.now c.begin.new.session (string_bytes c.in-Refused.text) (string_bytes c.in_ok-tell_line-in-Refused.field-0) []
          (sym keeps.long ∙ c.if-line.false) holds (rw c.in-Refused.is at begins) c.in_ok-tell_line-in-Refused.ensures.text refl,
    )

pub returns-in-Edited-clause-answer : goal.returns-in-Edited-clause-answer
returns-in-Edited-clause-answer g c = λ whole keeps.
    let same = c.as_slice.ensures.value ∙ keeps.all c.if-line.false in
    let holds = ap (λ bytes. option_and_then command_of (data_of bytes)) (sym same) ∙ ap (λ (o : Option Data). option_and_then command_of o) (sym c.in_ok-value.ensures) in
    let begins = c.in_ok-step.ensures.begins in (
      [],
      c.in_ok-tell_edit-in-Edited.ensures.kept,
      omega arith,
      plain_line whole (option_and_then command_of (option_map view c.in_ok-value.value)) c.args.session.now c.begin.new.session (string_bytes c.in-Edited.text) (string_bytes c.in_ok-tell_edit-in-Edited.field-0) []
          (sym keeps.long ∙ c.if-line.false) holds (rw c.in-Edited.is at begins) c.in_ok-tell_edit-in-Edited.ensures.text refl,
    )

pub returns-clause-answer : goal.returns-clause-answer
returns-clause-answer g c = λ whole keeps.
    let same = c.as_slice.ensures.value ∙ keeps.all c.if-line.false in
    let holds = ap (λ bytes. option_and_then command_of (data_of bytes)) (sym same) ∙ ap (λ (o : Option Data). option_and_then command_of o) (sym c.in_ok-value.ensures) in
    let begins = c.in_ok-step.ensures.begins in
    let asks = rw c.in-Request.is at begins in (
      c.in_ok-hands-in-Request.reply.runs.items,
      c.in_ok-tell_reply-in-Request.ensures.kept,
      c.in_ok-hands-in-Request.ensures.turns,
      asking_line whole (request_seen c.in-Request.request) c.args.session.now c.begin.new.session c.reply_to_with.new.self (string_bytes c.in_ok-hands-in-Request.reply.text) (string_bytes c.in_ok-tell_reply-in-Request.field-0) c.in_ok-hands-in-Request.reply.runs.items
          (sym keeps.long ∙ c.if-line.false) (holds ∙ asks.0) asks.1 c.in_ok-hands-in-Request.ensures.text c.in_ok-tell_reply-in-Request.ensures.text c.reply_to_with.ensures.history.1 c.reply_to_with.ensures.version c.in_ok-hands-in-Request.ensures.moves,
    )

pub returns-then-line-clause-counted : goal.returns-then-line-clause-counted
returns-then-line-clause-counted g c =
    let kept = ap turns_of c.in_ok-tell_line.ensures.kept in
    let more = turns_append (g.J.Runs.kept c.args.journal.now) [] in
    omega arith

pub returns-in-Refused-clause-counted : goal.returns-in-Refused-clause-counted
returns-in-Refused-clause-counted g c =
    let kept = ap turns_of c.in_ok-tell_line-in-Refused.ensures.kept in
    let more = turns_append (g.J.Runs.kept c.args.journal.now) [] in
    omega arith

pub returns-in-Edited-clause-counted : goal.returns-in-Edited-clause-counted
returns-in-Edited-clause-counted g c =
    let kept = ap turns_of c.in_ok-tell_edit-in-Edited.ensures.kept in
    let more = turns_append (g.J.Runs.kept c.args.journal.now) [] in
    omega arith

pub returns-clause-counted : goal.returns-clause-counted
returns-clause-counted g c =
    let kept = ap turns_of c.in_ok-tell_reply-in-Request.ensures.kept in
    let more = turns_append (g.J.Runs.kept c.args.journal.now) c.in_ok-hands-in-Request.reply.runs.items in
    let made = c.in_ok-hands-in-Request.ensures.hands.1 in
    omega arith
