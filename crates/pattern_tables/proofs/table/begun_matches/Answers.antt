use Rattle.std.proofs.Common.{◌∙◌, ◌==◌, ap, sym, ℕ}
use Rattle.std.specs.Prelude.{filter}
use Rattle.std.specs.List.{list_any}
use Rattle.pattern_tables.specs.PatternTables.{matches_path}
use Rattle.pattern_tables.proofs.PatternTables.{length_found, length_not_found, length_too_long}
use Rattle.pattern_tables.proofs.table.begun_matches.Goals.{then-length-rest+else-one_matches, else-length-rest}
use Rattle.pattern_tables.proofs.table.begun_matches.Goals as goal

pub returns-then-one_matches : goal.returns-then-one_matches
returns-then-one_matches c =
    let found = ap (λ (k : ℕ). list_any (matches_path c.args.path.now) (filter (λ s. s.number == k) c.args.patterns.now)) (sym c.number_of-number.ensures) ∙ ap (list_any (matches_path c.args.path.now)) (sym c.numbered.ensures) ∙ sym c.one_matches.ensures ∙ c.if-one_matches.true in
    sym (sym c.loop-length.invariant ∙ length_found c.args.patterns.now c.args.lengths.now c.args.path.now c.args.rest.now c.loop-length.length-index c.loop-length-test.true c.if-length-rest.true found)

pub loop-length-preserved : goal.loop-length-preserved
loop-length-preserved c = elim c.if-length-rest.branch [
  | then-length-rest+else-one_matches w ↦
      let found = ap (λ (k : ℕ). list_any (matches_path c.args.path.now) (filter (λ s. s.number == k) c.args.patterns.now)) (sym w.number_of-number.ensures) ∙ ap (list_any (matches_path c.args.path.now)) (sym w.numbered.ensures) ∙ sym w.one_matches.ensures ∙ w.if-one_matches.false in
      length_not_found c.args.patterns.now c.args.lengths.now c.args.path.now c.args.rest.now c.loop-length.length-index c.loop-length-test.true found ∙ c.loop-length.invariant
  | else-length-rest w ↦
      length_too_long c.args.patterns.now c.args.lengths.now c.args.path.now c.args.rest.now c.loop-length.length-index c.loop-length-test.true w.if-length-rest.false ∙ c.loop-length.invariant
]
