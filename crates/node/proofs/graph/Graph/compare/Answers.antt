use Rattle.std.proofs.Common.{◌≡◌, ◌∙◌, Option, ap, refl, subst, sym}
use Rattle.std.specs.Map.{keys_of}
use Rattle.std.specs.Option.{option_map}
use Rattle.std.proofs.lemmas.Result.{IfOk-weaker}
use Rattle.engine_semantics.specs.Graph.{Record}
use Rattle.keys.specs.declared.key.Key.{Key}
use Rattle.keys.specs.declared.value.Value.{Value}
use Rattle.node.specs.Comparisons.{Compares}
use Rattle.node.specs.Graphs.{GraphView, record_at, records_of}
use Rattle.node.specs.Records.{record_of}
use Rattle.node.specs.declared.comparison.Comparison.TheVariants.{Unchanged}
use Rattle.node.proofs.Linking.{is_seen, seen_is}
use Rattle.node.proofs.graph.Graph.compare.Goals as goal

pub compare_next-requires-clause-within : goal.compare_next-requires-clause-within
compare_next-requires-clause-within c = c.self.invariant.asks c.args.key.now c.in-Some.kept.now (sym c.in-Some.ensures.value)

pub returns-in-None : goal.returns-in-None
returns-in-None c =
    let records = c.self.inside.records in
    let at = ap (λ (g : GraphView). record_at g c.args.key.now) (sym c.self.view_is) ∙ seen_is records c.self.inside.version c.args.key.now in
    subst (λ (o : Option (Record Key Value)). Compares (record_at c.args.self.now) o c.args.passed Unchanged) (sym (at ∙ ap (option_map (record_of (keys_of records))) (sym c.in-None.ensures.value))) refl

pub returns-in-Some : goal.returns-in-Some
returns-in-Some c =
    let records = c.self.inside.records in
    let key = c.args.key.now in
    let at = λ (k : Key). ap (λ (g : GraphView). record_at g k) (sym c.self.view_is) ∙ seen_is records c.self.inside.version k in
    let same : record_at c.args.self.now ≡ records_of records = λ i k. at k i in
    IfOk-weaker c.compare_next.result _ _
    (λ found is. subst (λ (f : Key → Option (Record Key Value)). Compares f (f key) c.args.passed found) (sym same)
    (subst (λ (o : Option (Record Key Value)). Compares (records_of records) o c.args.passed found) (sym (is_seen records key c.in-Some.kept.now (sym c.in-Some.ensures.value))) is))
    c.compare_next.ensures
