use Rattle.std.proofs.Common.{subst, sym, arith}
use Rattle.std.specs.Option.{IsSome}
use Rattle.node_table.proofs.Flats.{has_member}
use Rattle.node_table.proofs.groups.small_groups.Goals as goal

pub unwrap-requires : goal.unwrap-requires
unwrap-requires g c =
    subst IsSome (sym c.id_of.ensures.number)
    (has_member c.args.table.now c.args.groups.now 0 c.group-item.result c.group-item.is (omega (arith, c.in-len1.len_at_least)) c.requires
    c.as_slice.result.now c.as_slice.ensures.value 0 c.member-item.result c.member-item.is (omega (arith, c.in-len1-as_slice.len_at_least)))

pub unwrap-first-requires : goal.unwrap-first-requires
unwrap-first-requires g c =
    subst IsSome (sym c.id_of-in-len2.ensures.number)
    (has_member c.args.table.now c.args.groups.now 0 c.group-item.result c.group-item.is (omega (arith, c.in-len1.len_at_least)) c.requires
    c.as_slice.result.now c.as_slice.ensures.value 0 c.first-item.result c.first-item.is (omega (arith, c.in-len2.len_at_least)))

pub unwrap-requires-in-len2 : goal.unwrap-requires-in-len2
unwrap-requires-in-len2 g c =
    subst IsSome (sym c.id_of-in-len2-2.ensures.number)
    (has_member c.args.table.now c.args.groups.now 0 c.group-item.result c.group-item.is (omega (arith, c.in-len1.len_at_least)) c.requires
    c.as_slice.result.now c.as_slice.ensures.value 1 c.second-item.result c.second-item.is (omega (arith, c.in-len2.len_at_least)))
