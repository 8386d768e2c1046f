use Rattle.std.proofs.Common.{◌≡◌, ◌∙◌, List, Some, sym, subst}
use Rattle.std.proofs.Math.Seq.{take_all}
use Rattle.engine_semantics.specs.Value.{In, IsMember}
use Rattle.keys.specs.declared.key.Key.{Key}
use Rattle.node_table.specs.Tables.{key_at}
use Rattle.node.specs.Edges.{HasCut, among}
use Rattle.node.specs.Records.{numbers_of}
use Rattle.node.specs.Graphs.{records_of}
use Rattle.node.specs.Writes.{groups_at}
use Rattle.node.proofs.Joining.{cut_more, cut_kept, in_taken, not_among, among_member}
use Rattle.node.proofs.Numbering.{key_same}
use Rattle.node.proofs.Relating.{distinct_kept, within_kept}
use Rattle.node.proofs.Showing.{keeps_asks, keeps_keys, keeps_seen}
use Rattle.node.proofs.edges.cut_group.Goals as goal
use Rattle.node.proofs.edges.cut_group.Goals.{then-not-asks, else-not-asks}

pub asks-requires-clause-within : goal.asks-requires-clause-within
asks-requires-clause-within c = within_kept c.args.records.now c.loop-member.records (keeps_keys c.args.records.now c.loop-member.records c.loop-member.invariant.same) c.args.user c.requires.within

pub asks-requires-clause-distinct : goal.asks-requires-clause-distinct
asks-requires-clause-distinct c = distinct_kept c.args.records.now c.loop-member.records (keeps_keys c.args.records.now c.loop-member.records c.loop-member.invariant.same) c.requires.distinct

pub loop-member-preserved : goal.loop-member-preserved
loop-member-preserved c =
    let start = c.args.records.now in
    let old = c.loop-member.records in
    let keys = keeps_keys start old c.loop-member.invariant.same in
    let test : (k : Key) → key_at start c.args.user ≡ Some k → c.asks.result ≡ among (groups_at (records_of start k)) c.member-item.result = λ k h. c.asks.ensures k (key_same start old keys c.args.user ∙ h) ∙ (λ i. among (groups_at (keeps_seen start old c.loop-member.invariant.same i k)) c.member-item.result) in
    elim c.if-not-asks.branch [
      | then-not-asks w ↦ rw w.records-is (record {
        cut = λ k h. cut_more (numbers_of start) (numbers_of old) (numbers_of w.unlink.new.records) c.args.user _ _ _ c.member-item.result (c.loop-member.invariant.cut k h) w.unlink.ensures.users
            (λ m. not_among (groups_at (records_of start k)) c.member-item.result (sym (test k h) ∙ w.if-not-asks.true) m)
            (λ j i. in_taken c.args.group.now c.loop-member.member-index c.member-item.result j c.member-item.is c.loop-member-test.true i);
        same = w.unlink.ensures.same ∙ c.loop-member.invariant.same;
      })
      | else-not-asks w ↦ rw w.records-is (record {
        cut = λ k h. cut_kept (numbers_of start) (numbers_of old) (numbers_of old) c.args.user _ _ _ c.member-item.result (c.loop-member.invariant.cut k h)
            (among_member (groups_at (records_of start k)) c.member-item.result (sym (test k h) ∙ w.if-not-asks.false))
            (λ j i. in_taken c.args.group.now c.loop-member.member-index c.member-item.result j c.member-item.is c.loop-member-test.true i);
        same = c.loop-member.invariant.same;
      })
    ]

pub returns-clause-cut : goal.returns-clause-cut
returns-clause-cut c = λ k h.
    subst (λ (ks : List Key). HasCut (numbers_of c.args.records.now) (numbers_of c.loop-member.records) c.args.user (λ j. In j ks) (λ j. IsMember j (groups_at (records_of c.args.records.now k)))) (take_all c.loop-member.member-index c.args.group.now c.loop-member-test.false) (c.loop-member.invariant.cut k h)

pub asks-requires-clause-members : goal.asks-requires-clause-members
asks-requires-clause-members c = keeps_asks c.args.records.now c.loop-member.records c.loop-member.invariant.same c.requires.members
