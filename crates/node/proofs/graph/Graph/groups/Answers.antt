use Rattle.std.proofs.Common.{◌∙◌, List, Some, ap, sym}
use Rattle.std.specs.Map.{keys_of}
use Rattle.std.specs.Option.{option_map}
use Rattle.engine_semantics.specs.Graph.{Record}
use Rattle.keys.specs.declared.key.Key.{Key}
use Rattle.keys.specs.declared.value.Value.{Value}
use Rattle.node.specs.Graphs.{GraphView, record_at}
use Rattle.node.specs.Records.{record_of}
use Rattle.node.proofs.Linking.{is_seen, seen_is}
use Rattle.node.proofs.graph.Graph.groups.Goals as goal

pub new-requires : goal.new-requires
new-requires c = c.self.invariant.asks c.args.key.now c.in-Some.kept.now (sym c.in-Some.ensures.value)

pub returns-in-None : goal.returns-in-None
returns-in-None c =
    let records = c.self.inside.records in
    let at = ap (λ (g : GraphView). record_at g c.args.key.now) (sym c.self.view_is) ∙ seen_is records c.self.inside.version c.args.key.now in
    sym (ap (option_map (λ (r : Record Key Value). r.groups)) (at ∙ ap (option_map (record_of (keys_of records))) (sym c.in-None.ensures.value)))

pub returns-in-Some : goal.returns-in-Some
returns-in-Some c =
    let records = c.self.inside.records in
    let at = ap (λ (g : GraphView). record_at g c.args.key.now) (sym c.self.view_is) ∙ seen_is records c.self.inside.version c.args.key.now in
    ap (λ (gs : List (List Key)). Some gs) c.new.ensures
    ∙ sym (ap (option_map (λ (r : Record Key Value). r.groups)) (at ∙ is_seen records c.args.key.now c.in-Some.kept.now (sym c.in-Some.ensures.value)))
