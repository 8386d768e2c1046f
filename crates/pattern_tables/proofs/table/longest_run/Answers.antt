use Rattle.std.proofs.Common.{◌∙◌, ◌+◌, sym, arith}
use Rattle.pattern_tables.proofs.PatternTables.{no_run, run_more}
use Rattle.pattern_tables.proofs.table.longest_run.Goals.{then-not-is_plain, else-not-is_plain+then-at-begin, else-not-is_plain+else-at-begin}
use Rattle.pattern_tables.proofs.table.longest_run.Goals as goal

pub loop-at-preserved : goal.loop-at-preserved
loop-at-preserved c = elim c.if-not-is_plain.branch [
  | then-not-is_plain w ↦ rw (w.longest-is, w.begin-is) (record {
    longest = c.loop-at.invariant.longest;
    begun = omega arith;
    plain = no_run c.args.text.now (c.loop-at.at + 1);
  })
  | else-not-is_plain+then-at-begin w ↦
      let plain = run_more c.args.text.now c.loop-at.begin c.loop-at.at c.loop-at.invariant.begun c.loop-at-test.true (sym c.is_plain.ensures ∙ w.if-not-is_plain.false) c.loop-at.invariant.plain in
      rw (w.longest-is, w.begin-is) (record {
        longest = record { order = omega (arith, c.loop-at.invariant.begun); within = omega (arith, c.loop-at-test.true); plain = plain };
        begun = omega (arith, c.loop-at.invariant.begun);
        plain = plain;
      })
  | else-not-is_plain+else-at-begin w ↦
      let plain = run_more c.args.text.now c.loop-at.begin c.loop-at.at c.loop-at.invariant.begun c.loop-at-test.true (sym c.is_plain.ensures ∙ w.if-not-is_plain.false) c.loop-at.invariant.plain in
      rw (w.longest-is, w.begin-is) (record { longest = c.loop-at.invariant.longest; begun = omega (arith, c.loop-at.invariant.begun); plain = plain })
]
