use Rattle.std.proofs.Common.{◌<◌, ◌∙◌, All, length, sym, ap, subst}
use Rattle.std.specs.List.{list_any}
use Rattle.std.specs.Map.{keys_of}
use Rattle.keys.specs.Keys.{key_eq}
use Rattle.node_table.specs.Flats.{members_in}
use Rattle.node_table.proofs.Numbers.{value_by_number}
use Rattle.node.specs.Edges.{among}
use Rattle.node.proofs.Numbering.{among_named, concat_below, key_there}
use Rattle.node.proofs.Showing.{groups_by_number}
use Rattle.node.proofs.edges.asks.Goals as goal

pub is_named-requires : goal.is_named-requires
is_named-requires c =
    let records = c.args.records.now in
    let k = key_there records c.args.user c.requires.within in
    let kept = c.value_at.result.now in
    subst (All (λ n. n < length records)) (sym c.members.ensures) (concat_below (length records) kept.groups (c.requires.members k.0 kept (value_by_number records c.requires.distinct k.0 c.args.user k.1 ∙ c.value_at.ensures)))

pub returns : goal.returns
returns c = λ k h.
    let records = c.args.records.now in
    let member = c.args.member.now in
    c.is_named.ensures ∙ ap (λ ns. list_any (λ x. key_eq x member) (members_in records ns)) c.members.ensures ∙ among_named (keys_of records) c.value_at.result.now.groups member
    ∙ ap (λ groups. among groups member) (sym (groups_by_number records c.requires.distinct k c.args.user c.value_at.result.now h c.value_at.ensures))
