use Rattle.std.proofs.Common.{◌∙◌, ap, sym, List, ℕ, map}
use Rattle.labels.specs.Paths.{segments}
use Rattle.pattern.specs.Globs.{some_matches}
use Rattle.pattern_tables.specs.declared.table.PartPattern.{PartPattern}
use Rattle.pattern_tables.specs.PatternTables.{match_within}
use Rattle.pattern_tables.proofs.PatternTables.{all_found, found_here, none_left}
use Rattle.pattern_tables.proofs.table.PatternTable.some_matches.Goals as goal

pub returns-then-begun_matches : goal.returns-then-begun_matches
returns-then-begun_matches c =
    let patterns = c.as_slice-patterns.result.now in
    let lengths = c.as_slice-lengths.result.now in
    let path = c.args.path.now in
    let here = found_here patterns lengths path c.loop-rest.left.now c.in-Some.field-0-0.now c.in-Some.rest.now c.in-Some.ensures.cases.0 (sym c.begun_matches.ensures ∙ c.if-begun_matches.true) in
    sym
    (ap (λ (v : List (List ℕ)). some_matches (map segments v) path) (sym c.self.view_is)
    ∙ all_found c.self.inside.patterns.items c.self.inside.lengths.items path c.self.invariant.parts
    ∙ ap (λ (x : List PartPattern). match_within x c.self.inside.lengths.items path path) (sym c.as_slice-patterns.ensures.value)
    ∙ ap (λ (y : List ℕ). match_within patterns y path path) (sym c.as_slice-lengths.ensures.value)
    ∙ sym c.loop-rest.invariant
    ∙ here)

pub returns : goal.returns
returns c =
    let patterns = c.as_slice-patterns.result.now in
    let lengths = c.as_slice-lengths.result.now in
    let path = c.args.path.now in
    sym
    (ap (λ (v : List (List ℕ)). some_matches (map segments v) path) (sym c.self.view_is)
    ∙ all_found c.self.inside.patterns.items c.self.inside.lengths.items path c.self.invariant.parts
    ∙ ap (λ (x : List PartPattern). match_within x c.self.inside.lengths.items path path) (sym c.as_slice-patterns.ensures.value)
    ∙ ap (λ (y : List ℕ). match_within patterns y path path) (sym c.as_slice-lengths.ensures.value)
    ∙ sym c.loop-rest.invariant
    ∙ none_left patterns lengths path c.loop-rest.left.now c.in_default.ensures.cases)
