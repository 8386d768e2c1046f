use Rattle.std.proofs.Common.{◌∙◌, ap, map}
use Rattle.std.specs.Prelude.{◌||◌, nat_eq}
use Rattle.std.specs.HashSet.{contains}
use Rattle.std.specs.Cmp.Lexicographic.{pointwise}
use Rattle.labels.specs.Paths.{segments}
use Rattle.pattern.specs.Globs.{some_matches}
use Rattle.pattern_tables.specs.Excluding.{is_excluded_unsorted}
use Rattle.pattern_tables.proofs.Excluding.{all_sorted, sorted_step}
use Rattle.pattern_tables.proofs.excludes.Excludes.new.Goals as goal

pub loop-pattern-preserved : goal.loop-pattern-preserved
loop-pattern-preserved c = record {
  parts = c.in_ok-add.ensures.parts;
  unsorted = λ path.
      sorted_step c.args.patterns.now c.loop-pattern.pattern-index c.pattern-item.result path (is_excluded_unsorted c.loop-pattern.unsorted path) (is_excluded_unsorted c.add.new.self path) c.loop-pattern-test.true c.pattern-item.is (c.in_ok-add.ensures.added path)
      ∙ c.loop-pattern.invariant.unsorted path;
}

pub returns : goal.returns
returns c = λ path.
    let g = c.loop-pattern.unsorted in
    ap (λ t. contains (pointwise nat_eq) g.plain path || (some_matches (map segments g.tried.items) path || t)) (c.in_ok-found.ensures path)
    ∙ all_sorted c.args.patterns.now c.loop-pattern.pattern-index path (is_excluded_unsorted g path) c.loop-pattern-test.false (c.loop-pattern.invariant.unsorted path)
