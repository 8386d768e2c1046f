use Rattle.std.proofs.Common.{List, refl, subst, ◌∙◌, ap}
use Rattle.std.specs.Map.{lookup}
use Rattle.keys.specs.Keys.{key_eq}
use Rattle.keys.specs.declared.key.Key.{Key}
use Rattle.round_nodes.specs.declared.table.Node.{Node}
use Rattle.node.specs.Graphs.{record_at}
use Rattle.node.specs.Records.{items_of}
use Rattle.round.specs.Closing.{StopsIn}
use Rattle.round.proofs.NoOpenNodes.{taken_same}
use Rattle.round.proofs.Stalling.{taken_step}
use Rattle.round.proofs.closing.close_next.Goals as goal

pub returns-clause-taken : goal.returns-clause-taken
returns-clause-taken c = λ start holds h. taken_step (record_at c.args.graph.now) c.args.graph.now.version start c.args.table.now _ c.note_turned.new.table c.args.stall.now c.put_closing.new.stall
    h holds c.in-Some.key c.in-Some.node c.in-Some.ensures.value c.in-Some.ensures.updates c.in-Some.ensures.least refl c.in_ok-groups.groups c.in_ok-groups.turned c.in_ok-groups.ensures.turned c.in_ok-groups.ensures.groups
    c.version.result c.len.result c.version.ensures (c.len.ensures ∙ c.in_ok-groups.groups.ok.0) c.in_ok-note_turned.ensures.yes c.in_ok-note_turned.ensures.no
    c.in_ok-stop.stop (subst (λ gs. StopsIn (record_at c.args.graph.now) (items_of gs) c.in_ok-stop.stop) c.as_slice.ensures.value c.in_ok-stop.ensures) c.in_ok-put_closing.ensures.stops c.in_ok-put_closing.ensures.closing

pub returns-in_default-clause-taken : goal.returns-in_default-clause-taken
returns-in_default-clause-taken c = λ start holds h.
    taken_same (record_at c.args.graph.now) c.args.graph.now.version start c.args.table.now _ c.args.stall.now (λ k. ap (λ (es : List (Key × Node)). lookup (key_eq k) es) c.in_default.ensures.unchanged) refl h
