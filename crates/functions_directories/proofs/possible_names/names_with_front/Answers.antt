use Rattle.std.proofs.Common.{rules}
use Rattle.std.specs.List.{starts_with}
use Rattle.std.specs.Prelude.{nat_eq}
use Rattle.std.specs.Ordering.{is_lt, nat_cmp}
use Rattle.std.specs.Cmp.Lexicographic.{slice_cmp}
use Rattle.std.proofs.lemmas.Fn.{always_returns_same}
use Rattle.functions_directories.proofs.FrontNames.{before_come_first, begun_come_first, begun_names}
use Rattle.functions_directories.proofs.possible_names.names_with_front.Goals as goal

pub returns : goal.returns
returns c =
    let front = c.args.front.now in
    let names = c.args.names.now in
    let first = c.partition_point-begin.ensures.partitioned (λ name. is_lt (slice_cmp nat_cmp name front)) (always_returns_same _ _ _ (λ a r f k. search rules)) (before_come_first front names c.requires) in
    let later = c.split_at.ensures.back in
    let second = c.partition_point-count.ensures.partitioned (λ name. starts_with nat_eq name front) (always_returns_same _ _ _ (λ a r f k. search rules)) (begun_come_first front names _ _ later c.requires first) in
    begun_names front names _ _ _ _ later c.split_at-2.ensures.front c.partition_point-begin.ensures.bound c.partition_point-count.ensures.bound first second
