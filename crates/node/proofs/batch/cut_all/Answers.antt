use Rattle.std.proofs.Common.{◌∙◌, List, sym, ap, subst}
use Rattle.std.proofs.Math.Seq.{take_all}
use Rattle.std.specs.Option.{IsSome, is_some}
use Rattle.node_table.specs.Tables.{AreDistinct}
use Rattle.node_table.proofs.Numbers.{number_iff}
use Rattle.node.specs.declared.entry.Entry.{Entry}
use Rattle.node.specs.Records.{Users, kept_at, items_of, numbers_of, users_in, users_of}
use Rattle.node.specs.Batches.{HasCutAll}
use Rattle.node.specs.Graphs.{records_of}
use Rattle.node.specs.Writes.{groups_at}
use Rattle.node.proofs.Batching.{cut_step}
use Rattle.node.proofs.Joining.{is_in}
use Rattle.node.proofs.Numbering.{key_same, key_within, numbered_key}
use Rattle.node.proofs.Relating.{distinct_kept, keys_cut, users_same}
use Rattle.std.specs.Map.{keys_of}
use Rattle.node.proofs.Showing.{keeps_asks, keeps_keys, keeps_seen, some_kept}
use Rattle.node.proofs.batch.cut_all.Goals as goal

pub unwrap-user-requires : goal.unwrap-user-requires
unwrap-user-requires c =
    let start = c.args.records.now in
    let old = c.loop-entry.records in
    let key = c.entry-item.result.key in
    let e = is_in c.args.entries.now c.loop-entry.entry-index c.entry-item.result c.entry-item.is c.loop-entry-test.true in
    let s = some_kept (keys_of old) (kept_at old key) (subst IsSome (sym (λ i. keeps_seen start old c.loop-entry.invariant.same i key)) (c.requires.there c.entry-item.result e)) in
    numbered_key old key c.id_of.result c.id_of.ensures.number (ap is_some s.1)

pub drop_edges-requires-clause-within : goal.drop_edges-requires-clause-within
drop_edges-requires-clause-within c =
    let start = c.args.records.now in
    let old = c.loop-entry.records in
    let i = c.loop-entry.invariant in
    let user = c.unwrap-user.result in
    let key = c.entry-item.result.key in
    let keys = keeps_keys start old i.same in
    let d : AreDistinct start = distinct_kept old start (sym keys) c.id_of.ensures.distinct in
    let at_old = (number_iff old c.id_of.ensures.distinct key user).0 (sym c.id_of.ensures.number ∙ c.unwrap-user.ensures) in
    let at = sym (key_same start old keys user) ∙ at_old in
    let e = is_in c.args.entries.now c.loop-entry.entry-index c.entry-item.result c.entry-item.is c.loop-entry-test.true in
    key_within old user key at_old

pub drop_edges-requires-clause-members : goal.drop_edges-requires-clause-members
drop_edges-requires-clause-members c = keeps_asks c.args.records.now c.loop-entry.records c.loop-entry.invariant.same c.requires.asks

pub loop-entry-preserved : goal.loop-entry-preserved
loop-entry-preserved c =
    let start = c.args.records.now in
    let old = c.loop-entry.records in
    let i = c.loop-entry.invariant in
    let user = c.unwrap-user.result in
    let key = c.entry-item.result.key in
    let keys = keeps_keys start old i.same in
    let d : AreDistinct start = distinct_kept old start (sym keys) c.id_of.ensures.distinct in
    let at_old = (number_iff old c.id_of.ensures.distinct key user).0 (sym c.id_of.ensures.number ∙ c.unwrap-user.ensures) in
    let at = sym (key_same start old keys user) ∙ at_old in
    let e = is_in c.args.entries.now c.loop-entry.entry-index c.entry-item.result c.entry-item.is c.loop-entry-test.true in
    let new = c.drop_edges.new.records in
    let cut = c.drop_edges.ensures.cut key at_old in
    record {
      cut = cut_step (records_of start) (users_of start) (users_in start (numbers_of old)) (users_in start (numbers_of new)) c.args.entries.now c.loop-entry.entry-index c.entry-item.result c.entry-item.is c.loop-entry-test.true
          _ _ (ap items_of c.as_slice.ensures.value) (λ x. groups_at (keeps_seen start old i.same x key)) (keys_cut start d key user at (numbers_of old) (numbers_of new) _ _ cut) i.cut;
      fewer = λ j n m. i.fewer j n (cut.from j n m);
      same = c.drop_edges.ensures.same ∙ i.same;
    }

pub returns-clause-cut : goal.returns-clause-cut
returns-clause-cut c =
    let start = c.args.records.now in
    let old = c.loop-entry.records in
    let i = c.loop-entry.invariant in
    subst (λ (u : Users). HasCutAll (records_of start) (users_of start) u c.args.entries.now) (sym (users_same start old (numbers_of old) (keeps_keys start old i.same)))
    (subst (λ (es : List Entry). HasCutAll (records_of start) (users_of start) (users_in start (numbers_of old)) es) (take_all c.loop-entry.entry-index c.args.entries.now c.loop-entry-test.false) i.cut)
