use Rattle.std.proofs.Common.{◌∙◌}
use Rattle.serde_json.specs.View.{view, members_view}
use Rattle.loader_commands.proofs.CommandLines.{count_some, count_view}
use Rattle.loader_commands.proofs.reading.member_count.Goals as goal

pub returns-in-Some : goal.returns-in-Some
returns-in-Some c = c.len.ensures.len ∙ count_view c.in-Some.members.now.entries ∙ count_some (view c.args.value.now) (members_view c.in-Some.members.now.entries) c.in-Some.ensures
