use Rattle.std.proofs.Common.{◌∙◌, ◌-◌, subst, arith, refl, length, take, drop, List, ℕ}
use Rattle.pattern_tables.specs.PatternTables.{HasNumber}
use Rattle.pattern_tables.proofs.PatternTables.{run_within}
use Rattle.pattern_tables.proofs.table.part_of.Goals as goal

pub returns : goal.returns
returns c =
    let text = c.as_bytes-text.result.now in
    let begin = c.longest_run-begin.result.0 in
    let end = c.longest_run-begin.result.1 in
    let run = c.longest_run-begin.ensures in
    subst (λ (p : List ℕ). HasNumber p c.number_of.result (length (take (end - begin) (drop begin text))))
    (c.as_bytes-text.ensures.value ∙ c.as_str.ensures ∙ c.text.ensures.value)
    (record {
      part = take (end - begin) (drop begin text);
      plain = run.plain;
      within = run_within begin (end - begin) text (omega (arith, run.order, run.within));
      number = c.number_of.ensures;
      long = refl;
    })
