use Rattle.std.proofs.Common.{◌≡◌, length}
use Rattle.serde_json.specs.Data.{no_members}
use Rattle.loader_replies.specs.Answers.{put_attributes}
use Rattle.loader_replies.specs.Order.{onto}
use Rattle.loader_replies.proofs.order.rows_of.Given as goal

abbrev pub invariant-loop-attribute : goal.invariant-loop-attribute
invariant-loop-attribute l = put_attributes l.rest (onto l.rows.items no_members) ≡ put_attributes l.fn.attributes no_members

abbrev pub decreases-loop-attribute : goal.decreases-loop-attribute
decreases-loop-attribute l = length l.rest
