use Rattle.std.proofs.Common.{◌∙◌, List, subst}
use Rattle.std.proofs.Math.Seq.{take_all}
use Rattle.std.specs.declared.alloc.Global.{Global}
use Rattle.std.specs.declared.vec.Vec.{Vec}
use Rattle.keys.specs.declared.key.Key.{Key}
use Rattle.engine_semantics.specs.Value.{In, IsMember}
use Rattle.node.specs.Records.{items_of, numbers_of}
use Rattle.node.specs.Edges.{HasCut}
use Rattle.node.specs.Graphs.{records_of}
use Rattle.node.specs.Writes.{groups_at}
use Rattle.node.proofs.Joining.{group_cut}
use Rattle.node.proofs.Numbering.{key_same}
use Rattle.node.proofs.Relating.{distinct_kept, within_kept}
use Rattle.node.proofs.Showing.{keeps_asks, keeps_keys, keeps_seen}
use Rattle.node.proofs.edges.drop_edges.Goals as goal

pub cut_group-requires-clause-within : goal.cut_group-requires-clause-within
cut_group-requires-clause-within c = within_kept c.args.records.now c.loop-group.records (keeps_keys c.args.records.now c.loop-group.records c.loop-group.invariant.same) c.args.user c.requires.within

pub cut_group-requires-clause-distinct : goal.cut_group-requires-clause-distinct
cut_group-requires-clause-distinct c = distinct_kept c.args.records.now c.loop-group.records (keeps_keys c.args.records.now c.loop-group.records c.loop-group.invariant.same) c.requires.distinct

pub loop-group-preserved : goal.loop-group-preserved
loop-group-preserved c =
    let start = c.args.records.now in
    let old = c.loop-group.records in
    let new = c.cut_group.new.records in
    let keys = keeps_keys start old c.loop-group.invariant.same in
    record {
      cut = λ k h. group_cut (numbers_of start) (numbers_of old) (numbers_of new) c.args.user c.args.groups.now c.loop-group.group-index c.group-item.result c.group-item.is c.loop-group-test.true
          (λ j. IsMember j (groups_at (records_of start k))) (c.loop-group.invariant.cut k h) c.as_slice.result.now c.as_slice.ensures.value
          (subst (λ groups. HasCut (numbers_of old) (numbers_of new) c.args.user (λ j. In j c.as_slice.result.now) (λ j. IsMember j groups)) (λ i. groups_at (keeps_seen start old c.loop-group.invariant.same i k))
          (c.cut_group.ensures.cut k (key_same start old keys c.args.user ∙ h)));
      same = c.cut_group.ensures.same ∙ c.loop-group.invariant.same;
    }

pub returns-clause-cut : goal.returns-clause-cut
returns-clause-cut c = λ k h.
    subst (λ (gs : List (Vec Key Global)). HasCut (numbers_of c.args.records.now) (numbers_of c.loop-group.records) c.args.user (λ j. IsMember j (items_of gs)) (λ j. IsMember j (groups_at (records_of c.args.records.now k)))) (take_all c.loop-group.group-index c.args.groups.now c.loop-group-test.false) (c.loop-group.invariant.cut k h)

pub cut_group-requires-clause-members : goal.cut_group-requires-clause-members
cut_group-requires-clause-members c = keeps_asks c.args.records.now c.loop-group.records c.loop-group.invariant.same c.requires.members
