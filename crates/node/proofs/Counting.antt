-- How many edges a contract counts, and how many members the numbers show.
use Rattle.std.proofs.Common.{◌≡◌, ◌∙◌, ℕ, ◌+◌, ◌<◌, List, [], ◌∷◌, length, map, refl, sym, subst}
use Rattle.std.specs.Prelude.{All, sum_by}
use Rattle.std.specs.Map.{keys_of, values_of}
use Rattle.std.proofs.lemmas.List.Elements.{All-head, All-tail}
use Rattle.std.proofs.lemmas.List.Sums.{sum_by-cons}
use Rattle.std.proofs.lemmas.Map.Entries.{length-keys_of, length-values_of}
use Rattle.std.proofs.lemmas.Option.{get_or_from_slice_get}
use Rattle.engine_semantics.specs.Graph.{Record}
use Rattle.keys.specs.declared.key.Key.{Key}
use Rattle.keys.specs.declared.value.Value.{Value}
use Rattle.node_table.specs.Tables.{AreDistinct}
use Rattle.node_table.proofs.Numbers.{value_by_number}
use Rattle.node.specs.declared.records.NodeRecord.{NodeRecord}
use Rattle.node.specs.Counts.{edges_of, kept_edges, members_of, size}
use Rattle.node.specs.Graphs.{recorded}
use Rattle.node.specs.Records.{Records, AsksNumbers, by_keys, row_of, rows}
use Rattle.node.proofs.Numbering.{key_there, value_there, sizes_named}

-- the members of all records are numbers
all_ask : (records : Records) → AreDistinct records → AsksNumbers records → All (λ (e : NodeRecord). All (All (λ n. n < length records)) e.groups) (values_of records)
all_ask records d a = λ i x h.
    let l : i < length records = subst (λ m. i < m) (length-values_of records) h in
    let k = key_there records i l in
    let v = value_there records i l in
    subst (λ (e : NodeRecord). All (All (λ n. n < length records)) e.groups) (sym (get_or_from_slice_get (values_of records) i v.0 x v.1)) (a k.0 v.0 (value_by_number records d k.0 i k.1 ∙ v.1))

totals : (keys : List Key) (es : Records) → All (λ (e : NodeRecord). All (All (λ n. n < length keys)) e.groups) (values_of es) → sum_by (λ (e : Key × Record Key Value). members_of e.1.groups) (map (λ (e : Key × Record ℕ Value). (e.0, by_keys keys e.1)) (rows es)) ≡ sum_by size (values_of es)
totals keys [] a = refl
totals keys (e ∷ es) a =
    let own = sizes_named keys e.1.groups (All-head (λ (x : NodeRecord). All (All (λ n. n < length keys)) x.groups) e.1 (values_of es) a) in
    let rest = totals keys es (All-tail (λ (x : NodeRecord). All (All (λ n. n < length keys)) x.groups) e.1 (values_of es) a) in
    sum_by-cons (λ (x : Key × Record Key Value). members_of x.1.groups) (e.0, by_keys keys (row_of e.1)) (map (λ (x : Key × Record ℕ Value). (x.0, by_keys keys x.1)) (rows es))
    ∙ (λ i. own i + rest i) ∙ sym (sum_by-cons size e.1 (values_of es))

pub edges_same : (records : Records) (version : ℕ) → AreDistinct records → AsksNumbers records → edges_of (recorded version records) ≡ kept_edges records
edges_same records version d a = totals (keys_of records) records (subst (λ l. All (λ (e : NodeRecord). All (All (λ n. n < l)) e.groups) (values_of records)) (sym (length-keys_of records)) (all_ask records d a))
