use Rattle.std.proofs.Common.{rules, tests, ◌≡◌, lit<, true, length}
use Rattle.std.proofs.lemmas.Iterator.Search.{all_from_yields_List}
use Rattle.std.proofs.lemmas.Iterator.Splits.{YieldsList-from_str_split}
use Rattle.std.specs.Prelude.{nat_le}
use Rattle.std.specs.List.{list_all}
use Rattle.labels.specs.Paths.{segments}
use Rattle.pattern.specs.Patterns as patterns
use Rattle.pattern.proofs.pattern.is_pattern.Goals as goal

pub returns : goal.returns
returns c =
    let each : c.all.result ≡ list_all patterns.is_pattern_segment (segments c.args.text.now) =
    all_from_yields_List patterns.is_pattern_segment _ _ _ c.all.ensures.ran (YieldsList-from_str_split 47 c.args.text.now (lit< tt) c.split.ensures.text c.split.ensures.has_more c.split.ensures.pattern) (λ x b q k. search (rules, tests)) in
    let short : nat_le (length c.args.text.now) 255 ≡ true = search (rules, tests) in
    rw short each
