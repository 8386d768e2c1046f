use Rattle.std.proofs.Common.{◌≡◌, ◌⊎◌, ◌∙◌, ◌+◌, ℕ, List, [], ◌∷◌, inl, inr, take, refl, sym, subst}
use Rattle.std.proofs.Math.Seq.{take_all}
use Rattle.engine_semantics.specs.Value.{In}
use Rattle.keys.specs.declared.key.Key.{Key}
use Rattle.node_table.specs.Flats.{members_in}
use Rattle.node.specs.Records.{numbers_of}
use Rattle.node.specs.Edges.{HasLinkedAll}
use Rattle.node.proofs.Lists.{in_split, in_one}
use Rattle.node.proofs.Joining.{linked_more, linked_same}
use Rattle.node.proofs.Numbering.{in_at_is, in_members, key_same, taken_members, within_at}
use Rattle.node.proofs.Relating.{distinct_kept, within_kept}
use Rattle.node.proofs.Showing.{keeps_keys}
use Rattle.node.proofs.edges.link_members.Goals as goal
use Rattle.node.proofs.edges.link_members.Goals.{then-not-has+in_ok-link_at, else-not-has}

pub key_at-requires : goal.key_at-requires
key_at-requires c =
    let start = c.args.records.now in
    let old = c.loop-member.records in
    let keys = keeps_keys start old c.loop-member.invariant.same in
    let at = c.loop-member.member-index in
    let n = c.member-item.result in
    let low = within_at start c.args.members.now at n c.requires.numbers c.member-item.is c.loop-member-test.true in
    within_kept start old keys n low

pub link_at-requires-clause-within : goal.link_at-requires-clause-within
link_at-requires-clause-within c =
    let start = c.args.records.now in
    let old = c.loop-member.records in
    let keys = keeps_keys start old c.loop-member.invariant.same in
    let at = c.loop-member.member-index in
    let n = c.member-item.result in
    let low = within_at start c.args.members.now at n c.requires.numbers c.member-item.is c.loop-member-test.true in
    within_kept start old keys n low

pub link_at-requires-clause-distinct : goal.link_at-requires-clause-distinct
link_at-requires-clause-distinct c =
    let start = c.args.records.now in
    let old = c.loop-member.records in
    let keys = keeps_keys start old c.loop-member.invariant.same in
    let at = c.loop-member.member-index in
    let n = c.member-item.result in
    let low = within_at start c.args.members.now at n c.requires.numbers c.member-item.is c.loop-member-test.true in
    distinct_kept start old keys c.requires.distinct

pub returns-in_err-link_at-clause-some : goal.returns-in_err-link_at-clause-some
returns-in_err-link_at-clause-some c =
    let start = c.args.records.now in
    let old = c.loop-member.records in
    let keys = keeps_keys start old c.loop-member.invariant.same in
    let at = c.loop-member.member-index in
    let n = c.member-item.result in
    let low = within_at start c.args.members.now at n c.requires.numbers c.member-item.is c.loop-member-test.true in
    linked_same (numbers_of start) (numbers_of old) (numbers_of c.link_at.new.records) c.args.user _ c.loop-member.invariant.some (c.in_err-link_at.ensures.err c.key_at.result.now c.key_at.ensures)

pub returns-in_err-link_at-clause-same : goal.returns-in_err-link_at-clause-same
returns-in_err-link_at-clause-same c = c.link_at.ensures.same ∙ c.loop-member.invariant.same

pub loop-member-preserved : goal.loop-member-preserved
loop-member-preserved c =
    let start = c.args.records.now in
    let old = c.loop-member.records in
    let keys = keeps_keys start old c.loop-member.invariant.same in
    let at = c.loop-member.member-index in
    let n = c.member-item.result in
    let low = within_at start c.args.members.now at n c.requires.numbers c.member-item.is c.loop-member-test.true in
    let key = c.key_at.result.now in
    let key_old = c.key_at.ensures in
    let key_start = sym (key_same start old keys n) ∙ key_old in
    let there = in_members start c.args.members.now n key (in_at_is c.args.members.now at n n c.member-item.is c.loop-member-test.true) key_start in
    let before = members_in start (take at c.args.members.now) in
    let more = taken_members start c.args.members.now at n key c.member-item.is c.loop-member-test.true key_start in
    let split : (j : Key) → In j (members_in start (take (at + 1) c.args.members.now)) → In j before ⊎ (key ≡ j) =
    λ j i. elim (in_split (subst (In j) more i) before (key ∷ []) refl) [ inl x ↦ inl x | inr b ↦ inr (sym (in_one b)) ] in
    elim c.if-not-has.branch [
      | then-not-has+in_ok-link_at w ↦ rw w.records-is (let linked = w.in_ok-link_at.ensures.ok key key_old in record {
        some = linked_more (numbers_of start) (numbers_of old) (numbers_of w.link_at.new.records) c.args.user _ key c.loop-member.invariant.some linked there;
        all = λ j i. elim (split j i) [
          | inl x ↦ linked.keeps j c.args.user (c.loop-member.invariant.all j x)
          | inr q ↦ subst (λ k. In c.args.user (numbers_of w.link_at.new.records k)) q linked.has
        ];
        same = w.link_at.ensures.same ∙ c.loop-member.invariant.same;
      })
      | else-not-has w ↦ rw w.records-is (record {
        some = c.loop-member.invariant.some;
        all = λ j i. elim (split j i) [
          | inl x ↦ c.loop-member.invariant.all j x
          | inr q ↦ subst (λ k. In c.args.user (numbers_of old k)) q (c.loop-member.invariant.some.keeps key c.args.user (c.requires.linked key (c.has.ensures.0 w.if-not-has.false)))
        ];
        same = c.loop-member.invariant.same;
      })
    ]

pub returns-clause-all : goal.returns-clause-all
returns-clause-all c =
    let start = c.args.records.now in
    subst (λ (ns : List ℕ). HasLinkedAll (numbers_of c.loop-member.records) c.args.user (λ j. In j (members_in start ns))) (take_all c.loop-member.member-index c.args.members.now c.loop-member-test.false) c.loop-member.invariant.all
