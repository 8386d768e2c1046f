use Rattle.std.proofs.Common.{◌≡◌, ◌⊎◌, ◌∙◌, ◌+◌, ℕ, List, [], ◌∷◌, Some, inl, inr, take, refl, sym, subst}
use Rattle.std.proofs.Math.Seq.{take_all}
use Rattle.engine_semantics.specs.Value.{In, IsMember}
use Rattle.keys.specs.declared.key.Key.{Key}
use Rattle.node_table.specs.Tables.{key_at}
use Rattle.node_table.specs.Flats.{members_in}
use Rattle.node.specs.Records.{numbers_of}
use Rattle.node.specs.Edges.{HasCut, among}
use Rattle.node.specs.Graphs.{records_of}
use Rattle.node.specs.Writes.{groups_at}
use Rattle.node.proofs.Lists.{in_split, in_one}
use Rattle.node.proofs.Joining.{cut_more, cut_kept, not_among, among_member}
use Rattle.node.proofs.Numbering.{key_same, taken_members, within_at}
use Rattle.node.proofs.Relating.{distinct_kept, within_kept}
use Rattle.node.proofs.Showing.{keeps_asks, keeps_keys, keeps_seen}
use Rattle.node.proofs.edges.drop_edges_to.Goals as goal
use Rattle.node.proofs.edges.drop_edges_to.Goals.{then-not-asks, else-not-asks}

pub key_at-requires : goal.key_at-requires
key_at-requires c =
    let start = c.args.records.now in
    let old = c.loop-member.records in
    let keys = keeps_keys start old c.loop-member.invariant.same in
    let at = c.loop-member.member-index in
    let n = c.member-item.result in
    let low = within_at start c.args.members.now at n c.requires.numbers c.member-item.is c.loop-member-test.true in
    within_kept start old keys n low

pub asks-requires-clause-within : goal.asks-requires-clause-within
asks-requires-clause-within c =
    let start = c.args.records.now in
    let old = c.loop-member.records in
    let keys = keeps_keys start old c.loop-member.invariant.same in
    let at = c.loop-member.member-index in
    let n = c.member-item.result in
    let low = within_at start c.args.members.now at n c.requires.numbers c.member-item.is c.loop-member-test.true in
    within_kept start old keys c.args.user c.requires.within

pub asks-requires-clause-distinct : goal.asks-requires-clause-distinct
asks-requires-clause-distinct c =
    let start = c.args.records.now in
    let old = c.loop-member.records in
    let keys = keeps_keys start old c.loop-member.invariant.same in
    let at = c.loop-member.member-index in
    let n = c.member-item.result in
    let low = within_at start c.args.members.now at n c.requires.numbers c.member-item.is c.loop-member-test.true in
    distinct_kept start old keys c.requires.distinct

pub asks-requires-clause-members : goal.asks-requires-clause-members
asks-requires-clause-members c =
    let start = c.args.records.now in
    let old = c.loop-member.records in
    let keys = keeps_keys start old c.loop-member.invariant.same in
    let at = c.loop-member.member-index in
    let n = c.member-item.result in
    let low = within_at start c.args.members.now at n c.requires.numbers c.member-item.is c.loop-member-test.true in
    keeps_asks start old c.loop-member.invariant.same c.requires.members

pub unlink_at-requires-clause-within : goal.unlink_at-requires-clause-within
unlink_at-requires-clause-within c =
    let start = c.args.records.now in
    let old = c.loop-member.records in
    let keys = keeps_keys start old c.loop-member.invariant.same in
    let at = c.loop-member.member-index in
    let n = c.member-item.result in
    let low = within_at start c.args.members.now at n c.requires.numbers c.member-item.is c.loop-member-test.true in
    within_kept start old keys n low

pub unlink_at-requires-clause-distinct : goal.unlink_at-requires-clause-distinct
unlink_at-requires-clause-distinct c =
    let start = c.args.records.now in
    let old = c.loop-member.records in
    let keys = keeps_keys start old c.loop-member.invariant.same in
    let at = c.loop-member.member-index in
    let n = c.member-item.result in
    let low = within_at start c.args.members.now at n c.requires.numbers c.member-item.is c.loop-member-test.true in
    distinct_kept start old keys c.requires.distinct

pub loop-member-preserved : goal.loop-member-preserved
loop-member-preserved c =
    let start = c.args.records.now in
    let old = c.loop-member.records in
    let keys = keeps_keys start old c.loop-member.invariant.same in
    let at = c.loop-member.member-index in
    let n = c.member-item.result in
    let low = within_at start c.args.members.now at n c.requires.numbers c.member-item.is c.loop-member-test.true in
    let key = c.key_at.result.now in
    let key_old = c.key_at.ensures in
    let key_start = sym (key_same start old keys n) ∙ key_old in
    let before = members_in start (take at c.args.members.now) in
    let more = taken_members start c.args.members.now at n key c.member-item.is c.loop-member-test.true key_start in
    let split : (j : Key) → In j (members_in start (take (at + 1) c.args.members.now)) → In j before ⊎ (key ≡ j) =
    λ j i. elim (in_split (subst (In j) more i) before (key ∷ []) refl) [ inl x ↦ inl x | inr b ↦ inr (sym (in_one b)) ] in
    let test : (k : Key) → key_at start c.args.user ≡ Some k → c.asks.result ≡ among (groups_at (records_of start k)) key = λ k h. c.asks.ensures k (key_same start old keys c.args.user ∙ h) ∙ (λ i. among (groups_at (keeps_seen start old c.loop-member.invariant.same i k)) key) in
    elim c.if-not-asks.branch [
      | then-not-asks w ↦ rw w.records-is (record {
        cut = λ k h. cut_more (numbers_of start) (numbers_of old) (numbers_of w.unlink_at.new.records) c.args.user _ _ _ key (c.loop-member.invariant.cut k h) (w.unlink_at.ensures.users key key_old)
            (λ m. not_among (groups_at (records_of start k)) key (sym (test k h) ∙ w.if-not-asks.true) m) split;
        same = w.unlink_at.ensures.same ∙ c.loop-member.invariant.same;
      })
      | else-not-asks w ↦ rw w.records-is (record {
        cut = λ k h. cut_kept (numbers_of start) (numbers_of old) (numbers_of old) c.args.user _ _ _ key (c.loop-member.invariant.cut k h)
            (among_member (groups_at (records_of start k)) key (sym (test k h) ∙ w.if-not-asks.false)) split;
        same = c.loop-member.invariant.same;
      })
    ]

pub returns-clause-cut : goal.returns-clause-cut
returns-clause-cut c = λ k h.
    let start = c.args.records.now in
    subst (λ (ns : List ℕ). HasCut (numbers_of start) (numbers_of c.loop-member.records) c.args.user (λ j. In j (members_in start ns)) (λ j. IsMember j (groups_at (records_of start k)))) (take_all c.loop-member.member-index c.args.members.now c.loop-member-test.false) (c.loop-member.invariant.cut k h)
