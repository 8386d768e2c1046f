use Rattle.std.proofs.Common.{◌≡◌, ◌∙◌, ◌++◌, ◌∷◌, [], Bool, List, Vec, Global, ap, subst, sym, take, true, false}
use Rattle.std.specs.Arc.{arc_value}
use Rattle.keys.specs.declared.key.Key.{Key}
use Rattle.node.specs.Graphs.{record_at}
use Rattle.round_nodes.specs.Members.{IsMissing, HasCycle, is_cycle}
use Rattle.round_nodes.proofs.Grouping.{taken_next, missing_more, missing_clean, settled_cycle, settled_plain, cycle_unsettled, cycle_plain, cycle_found}
use Rattle.round_nodes.proofs.members.look_at_group.Goals as goal
use Rattle.round_nodes.proofs.members.look_at_group.Goals.{in-None+in_ok-share-in-None+in_ok-push-in-None, in-Some+then-is_cycle, in-Some+else-is_cycle}

pub loop-key-preserved : goal.loop-key-preserved
loop-key-preserved c =
    let records = record_at c.args.graph.now in
    let key = c.key-item.result in
    let before = take c.loop-key.key-index c.args.group.now in
    let group = before ++ key ∷ [] in
    let taken = taken_next c.args.group.now c.loop-key.key-index key c.key-item.is c.loop-key-test.true in
    elim c.match-get.branch [
      | in-None+in_ok-share-in-None+in_ok-push-in-None w ↦ record {
        missing = subst (λ (xs : List Key). IsMissing records xs c.match-get.missing.items) (sym taken)
            (missing_more records key before _ _ c.loop-key.invariant.missing (ap (λ (v : Vec Key Global). v.items) w.missing-is ∙ w.in_ok-push-in-None.ensures.items ∙ ap (λ k. c.loop-key.missing.items ++ k ∷ []) w.in_ok-share-in-None.ensures));
        cycle = subst (λ (xs : List Key). HasCycle records xs c.match-get.has_cycle) (sym taken)
            (subst (λ (b : Bool). HasCycle records group b) (sym w.has_cycle-is) (cycle_unsettled records key before c.loop-key.has_cycle c.loop-key.invariant.cycle (sym w.in-None.ensures)));
      }
      | in-Some+then-is_cycle w ↦
          let s = settled_cycle records key (arc_value w.in-Some.value.now) w.in-Some.ensures (cc (w.deref.ensures, w.if-is_cycle.ensures)) in record {
            missing = subst (λ (xs : List Key). IsMissing records xs c.match-get.missing.items) (sym taken)
                (subst (λ (v : Vec Key Global). IsMissing records group v.items) (sym w.missing-is) (missing_clean records key before _ c.loop-key.invariant.missing s.0));
            cycle = subst (λ (xs : List Key). HasCycle records xs c.match-get.has_cycle) (sym taken)
                (subst (λ (b : Bool). HasCycle records group b) (sym w.has_cycle-is) (cycle_found records key before s.0 s.1));
          }
      | in-Some+else-is_cycle w ↦
          let p = settled_plain records key (arc_value w.in-Some.value.now) w.in-Some.ensures (cc (w.deref.ensures, w.if-is_cycle.ensures)) in record {
            missing = subst (λ (xs : List Key). IsMissing records xs c.match-get.missing.items) (sym taken)
                (subst (λ (v : Vec Key Global). IsMissing records group v.items) (sym w.missing-is) (missing_clean records key before _ c.loop-key.invariant.missing (p.0, p.1, p.2)));
            cycle = subst (λ (xs : List Key). HasCycle records xs c.match-get.has_cycle) (sym taken)
                (subst (λ (b : Bool). HasCycle records group b) (sym w.has_cycle-is) (cycle_plain records key before c.loop-key.has_cycle c.loop-key.invariant.cycle p));
          }
    ]
