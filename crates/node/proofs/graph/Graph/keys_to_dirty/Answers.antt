use Rattle.std.proofs.Common.{◌≡◌, ◌∙◌, List, sym, ap, subst}
use Rattle.keys.specs.EditLeaves.{touched_leaves}
use Rattle.keys.specs.declared.key.Key.{Key}
use Rattle.node_table.specs.Flats.{members_in}
use Rattle.node.specs.Records.{Records, users_of}
use Rattle.node.specs.Graphs.{recorded, record_at, AreReached, IsLinkedBy, IsTouched, paths_seen}
use Rattle.node.proofs.Collecting.{unmarked_same, are_reached, shown_reached}
use Rattle.node.proofs.Numbering.{members_same}
use Rattle.node.proofs.graph.Graph.keys_to_dirty.Goals as goal

pub invariant_of-self : goal.invariant_of-self
invariant_of-self c =
    let middle = c.mark_dirty_from-spread.new.records in
    let marked = members_in middle c.mark_dirty_from-spread.new.marked.items in
    let same = unmarked_same (users_of c.self.inside.records) c.as_slice.result.now c.self.inside.records middle c.clear_all_dirty.new.records marked (members_in middle c.as_slice-2.result.now) c.self.invariant.ordered
    (ap (members_in middle) c.as_slice-2.ensures.value) c.mark_dirty_from-spread.ensures.keys c.clear_all_dirty.ensures.keys c.mark_dirty_from-spread.ensures.marked c.clear_all_dirty.ensures.sets in
    subst (λ (es : Records). IsLinkedBy es) (sym same) c.self.invariant

pub returns-in_err-spread-clause-same : goal.returns-in_err-spread-clause-same
returns-in_err-spread-clause-same c =
    let middle = c.mark_dirty_from-spread.new.records in
    let marked = members_in middle c.mark_dirty_from-spread.new.marked.items in
    let same = unmarked_same (users_of c.self.inside.records) c.as_slice.result.now c.self.inside.records middle c.clear_all_dirty.new.records marked (members_in middle c.as_slice-2.result.now) c.self.invariant.ordered
    (ap (members_in middle) c.as_slice-2.ensures.value) c.mark_dirty_from-spread.ensures.keys c.clear_all_dirty.ensures.keys c.mark_dirty_from-spread.ensures.marked c.clear_all_dirty.ensures.sets in
    ap (recorded c.self.inside.version) same ∙ c.self.view_is

pub invariant_of-self-2 : goal.invariant_of-self-2
invariant_of-self-2 c =
    let middle = c.mark_dirty_from-spread.new.records in
    let marked = members_in middle c.mark_dirty_from-spread.new.marked.items in
    let same = unmarked_same (users_of c.self.inside.records) c.as_slice.result.now c.self.inside.records middle c.clear_all_dirty.new.records marked (members_in middle c.as_slice-2.result.now) c.self.invariant.ordered
    (ap (members_in middle) c.as_slice-2.ensures.value) c.mark_dirty_from-spread.ensures.keys c.clear_all_dirty.ensures.keys c.mark_dirty_from-spread.ensures.marked c.clear_all_dirty.ensures.sets in
    subst (λ (es : Records). IsLinkedBy es) (sym same) c.self.invariant

pub returns-in_err-keys-clause-same : goal.returns-in_err-keys-clause-same
returns-in_err-keys-clause-same c =
    let middle = c.mark_dirty_from-spread.new.records in
    let marked = members_in middle c.mark_dirty_from-spread.new.marked.items in
    let same = unmarked_same (users_of c.self.inside.records) c.as_slice.result.now c.self.inside.records middle c.clear_all_dirty.new.records marked (members_in middle c.as_slice-2.result.now) c.self.invariant.ordered
    (ap (members_in middle) c.as_slice-2.ensures.value) c.mark_dirty_from-spread.ensures.keys c.clear_all_dirty.ensures.keys c.mark_dirty_from-spread.ensures.marked c.clear_all_dirty.ensures.sets in
    ap (recorded c.self.inside.version) same ∙ c.self.view_is

pub invariant_of-self-in_err-keys : goal.invariant_of-self-in_err-keys
invariant_of-self-in_err-keys c =
    let middle = c.mark_dirty_from-spread.new.records in
    let marked = members_in middle c.mark_dirty_from-spread.new.marked.items in
    let same = unmarked_same (users_of c.self.inside.records) c.as_slice.result.now c.self.inside.records middle c.clear_all_dirty.new.records marked (members_in middle c.as_slice-2.result.now) c.self.invariant.ordered
    (ap (members_in middle) c.as_slice-2.ensures.value) c.mark_dirty_from-spread.ensures.keys c.clear_all_dirty.ensures.keys c.mark_dirty_from-spread.ensures.marked c.clear_all_dirty.ensures.sets in
    subst (λ (es : Records). IsLinkedBy es) (sym same) c.self.invariant

pub returns-clause-same : goal.returns-clause-same
returns-clause-same c =
    let middle = c.mark_dirty_from-spread.new.records in
    let marked = members_in middle c.mark_dirty_from-spread.new.marked.items in
    let same = unmarked_same (users_of c.self.inside.records) c.as_slice.result.now c.self.inside.records middle c.clear_all_dirty.new.records marked (members_in middle c.as_slice-2.result.now) c.self.invariant.ordered
    (ap (members_in middle) c.as_slice-2.ensures.value) c.mark_dirty_from-spread.ensures.keys c.clear_all_dirty.ensures.keys c.mark_dirty_from-spread.ensures.marked c.clear_all_dirty.ensures.sets in
    ap (recorded c.self.inside.version) same ∙ c.self.view_is

pub returns-clause-reached : goal.returns-clause-reached
returns-clause-reached c =
    let middle = c.mark_dirty_from-spread.new.records in
    let marked = members_in middle c.mark_dirty_from-spread.new.marked.items in
    let keys : c.in_ok-keys.keys.items ≡ marked = c.in_ok-keys.ensures ∙ members_same middle c.clear_all_dirty.new.records c.clear_all_dirty.ensures.keys c.as_slice-3.result.now ∙ ap (members_in middle) c.as_slice-3.ensures.value in
    subst (λ (ks : List Key). AreReached (record_at c.args.self.now) (IsTouched (paths_seen c.args.paths.now)) ks) (sym keys)
    (shown_reached c.self.inside.records c.self.inside.version c.args.self.now c.self.view_is c.as_slice.result.now (touched_leaves (paths_seen c.args.paths.now)) marked
    (c.as_slice.ensures.value ∙ c.in_ok-leaves.ensures)
    (are_reached (users_of c.self.inside.records) c.as_slice.result.now c.self.inside.records middle c.mark_dirty_from-spread.ensures.keys marked c.self.invariant.linked
    c.mark_dirty_from-spread.ensures.marked c.in_ok-spread.ensures.passed c.in_ok-spread.ensures.begun))
