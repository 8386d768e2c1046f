use Rattle.std.proofs.Common.{◌∙◌, ◌<◌, ap, length, refl, subst, sym, arith}
use Rattle.std.specs.Prelude.{slice_get}
use Rattle.std.proofs.lemmas.Option.{slice_get_read}
use Rattle.node.proofs.Lending.{members_length, member_at}
use Rattle.node.proofs.Numbering.{within_at}
use Rattle.node.proofs.groups.Group.member.Goals as goal

pub unreachable-requires : goal.unreachable-requires
unreachable-requires c =
    let w : c.args.i < length c.self.inside.members.now = subst (λ n. c.args.i < n) (ap length (sym c.self.view_is) ∙ members_length c.self.inside.records.now c.self.inside.members.now c.self.invariant) c.requires in
    let t = sym c.in-None.ensures.lookup.0 in
    grind (arith, t, w)

pub key_at-requires : goal.key_at-requires
key_at-requires c =
    let w : c.args.i < length c.self.inside.members.now = subst (λ n. c.args.i < n) (ap length (sym c.self.view_is) ∙ members_length c.self.inside.records.now c.self.inside.members.now c.self.invariant) c.requires in
    within_at c.self.inside.records.now c.self.inside.members.now c.args.i c.in-Some.number.now c.self.invariant c.in-Some.ensures.lookup.1 w

pub returns : goal.returns
returns c =
    let w : c.args.i < length c.self.inside.members.now = subst (λ n. c.args.i < n) (ap length (sym c.self.view_is) ∙ members_length c.self.inside.records.now c.self.inside.members.now c.self.invariant) c.requires in
    let got = slice_get_read c.self.inside.members.now (length c.self.inside.members.now) c.args.i c.in-Some.number.now refl w c.in-Some.ensures.lookup.1 in
    ap (λ xs. slice_get xs c.args.i) (sym c.self.view_is)
    ∙ member_at c.self.inside.records.now c.self.inside.members.now c.self.invariant c.args.i c.in-Some.number.now c.key_at.result.now got c.key_at.ensures
