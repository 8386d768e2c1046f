use Rattle.std.proofs.Common.{◌≡◌, ◌⊎◌, ◌∙◌, ◌+◌, ℕ, List, [], ◌∷◌, inl, inr, take, refl, sym, subst}
use Rattle.std.proofs.Math.Seq.{take_all}
use Rattle.engine_semantics.specs.Value.{In}
use Rattle.keys.specs.declared.key.Key.{Key}
use Rattle.node_table.specs.Flats.{members_in}
use Rattle.node.specs.Records.{numbers_of}
use Rattle.node.specs.Edges.{HasCut}
use Rattle.node.proofs.Lists.{in_split, in_one, true_false}
use Rattle.node.proofs.Joining.{cut_more, cut_kept}
use Rattle.node.proofs.Numbering.{key_same, taken_members, within_at}
use Rattle.node.proofs.Relating.{distinct_kept, within_kept}
use Rattle.node.proofs.Showing.{keeps_keys}
use Rattle.node.proofs.edges.cut_others.Goals as goal
use Rattle.node.proofs.edges.cut_others.Goals.{then-not-has, else-not-has}

pub key_at-requires : goal.key_at-requires
key_at-requires c =
    let start = c.args.records.now in
    let old = c.loop-member.records in
    let keys = keeps_keys start old c.loop-member.invariant.same in
    let at = c.loop-member.member-index in
    let n = c.member-item.result in
    let low = within_at start c.args.members.now at n c.requires.numbers c.member-item.is c.loop-member-test.true in
    within_kept start old keys n low

pub unlink_at-requires-clause-within : goal.unlink_at-requires-clause-within
unlink_at-requires-clause-within c =
    let start = c.args.records.now in
    let old = c.loop-member.records in
    let keys = keeps_keys start old c.loop-member.invariant.same in
    let at = c.loop-member.member-index in
    let n = c.member-item.result in
    let low = within_at start c.args.members.now at n c.requires.numbers c.member-item.is c.loop-member-test.true in
    within_kept start old keys n low

pub unlink_at-requires-clause-distinct : goal.unlink_at-requires-clause-distinct
unlink_at-requires-clause-distinct c =
    let start = c.args.records.now in
    let old = c.loop-member.records in
    let keys = keeps_keys start old c.loop-member.invariant.same in
    let at = c.loop-member.member-index in
    let n = c.member-item.result in
    let low = within_at start c.args.members.now at n c.requires.numbers c.member-item.is c.loop-member-test.true in
    distinct_kept start old keys c.requires.distinct

pub loop-member-preserved : goal.loop-member-preserved
loop-member-preserved c =
    let start = c.args.records.now in
    let old = c.loop-member.records in
    let keys = keeps_keys start old c.loop-member.invariant.same in
    let at = c.loop-member.member-index in
    let n = c.member-item.result in
    let low = within_at start c.args.members.now at n c.requires.numbers c.member-item.is c.loop-member-test.true in
    let key = c.key_at.result.now in
    let key_old = c.key_at.ensures in
    let key_start = sym (key_same start old keys n) ∙ key_old in
    let before = members_in start (take at c.args.members.now) in
    let more = taken_members start c.args.members.now at n key c.member-item.is c.loop-member-test.true key_start in
    let split : (j : Key) → In j (members_in start (take (at + 1) c.args.members.now)) → In j before ⊎ (key ≡ j) =
    λ j i. elim (in_split (subst (In j) more i) before (key ∷ []) refl) [ inl x ↦ inl x | inr b ↦ inr (sym (in_one b)) ] in
    elim c.if-not-has.branch [
      | then-not-has w ↦ rw w.records-is (record {
        cut = cut_more (numbers_of start) (numbers_of old) (numbers_of w.unlink_at.new.records) c.args.user _ _ _ key c.loop-member.invariant.cut (w.unlink_at.ensures.users key key_old)
            (λ m. true_false (c.has.ensures.1 m) w.if-not-has.true) split;
        same = w.unlink_at.ensures.same ∙ c.loop-member.invariant.same;
      })
      | else-not-has w ↦ rw w.records-is (record {
        cut = cut_kept (numbers_of start) (numbers_of old) (numbers_of old) c.args.user _ _ _ key c.loop-member.invariant.cut (c.has.ensures.0 w.if-not-has.false) split;
        same = c.loop-member.invariant.same;
      })
    ]

pub returns-clause-cut : goal.returns-clause-cut
returns-clause-cut c =
    let start = c.args.records.now in
    subst (λ (ns : List ℕ). HasCut (numbers_of start) (numbers_of c.loop-member.records) c.args.user (λ j. In j (members_in start ns)) (λ j. In j c.args.keep.now.keys)) (take_all c.loop-member.member-index c.args.members.now c.loop-member-test.false) c.loop-member.invariant.cut
