use Rattle.std.proofs.Common.{◌≡◌, ◌++◌}
use Rattle.std.specs.Vec.Iter.{into_iter_items}
use Rattle.serde_json.specs.Data.{no_members}
use Rattle.loader_replies.specs.Answers.{attributes_data}
use Rattle.loader_replies.specs.Order.{onto}
use Rattle.loader_replies.specs.Tokens.{tokens_of, members_rest}
use Rattle.loader_replies.proofs.package_json.write_attributes.Given as goal

abbrev pub invariant-loop-row : goal.invariant-loop-row
invariant-loop-row l = l.out ++ members_rest (onto (into_iter_items l.row-iterator) no_members) ≡ l.fn.out ++ tokens_of (attributes_data l.fn.attributes)
