use Rattle.std.proofs.Common.{rules, subst, sym, List, ltb, leb}
use Rattle.std.specs.List.Sorted.{IsNonDecreasingBy}
use Rattle.std.proofs.lemmas.Fn.{always_returns_same}
use Rattle.std.proofs.lemmas.List.Sorted.{IsNonDecreasingBy-drop, IsPartitionedBy-leb, IsPartitionedBy-ltb}
use Rattle.pattern_tables.specs.declared.table.PartPattern.{PartPattern}
use Rattle.pattern_tables.proofs.PatternTables.{in_middle}
use Rattle.pattern_tables.proofs.table.numbered.Goals as goal

pub returns : goal.returns
returns c =
    let xs = c.args.patterns.now in
    let number = c.args.number in
    let first = c.partition_point-begin.ensures.partitioned (λ s. ltb s.number number) (always_returns_same _ _ _ (λ a r f k. search rules)) (IsPartitionedBy-ltb (λ s. s.number) xs number c.requires) in
    let later = c.split_at.ensures.back in
    let sorted = subst (λ (ys : List PartPattern). IsNonDecreasingBy (λ s. s.number) ys) (sym later) (IsNonDecreasingBy-drop (λ s. s.number) _ xs c.requires) in
    let second = c.partition_point-count.ensures.partitioned (λ s. leb s.number number) (always_returns_same _ _ _ (λ a r f k. search rules)) (IsPartitionedBy-leb (λ s. s.number) _ number sorted) in
    in_middle number xs _ _ _ _ later c.split_at-2.ensures.front c.partition_point-begin.ensures.bound c.partition_point-count.ensures.bound first second
