use Rattle.std.proofs.Common.{rules, ◌∙◌, sym}
use Rattle.std.proofs.lemmas.List.Sorted.{All-permutation, IsNonDecreasingBy-from_sort_by_key, list_any-IsPermutation}
use Rattle.pattern_tables.specs.PatternTables.{HasPart, matches_path}
use Rattle.pattern_tables.proofs.PatternTables.{matched}
use Rattle.pattern_tables.proofs.table.PatternTable.of.Goals as goal

pub invariant_of-result : goal.invariant_of-result
invariant_of-result c = record {
  ordered = IsNonDecreasingBy-from_sort_by_key (λ s. s.number) c.sort_by_key.new.self.items c.in_ok-sort_by_key.ensures.sorted (λ a r f k. search rules);
  parts = All-permutation (HasPart c.args.lengths.items) c.args.patterns.items c.sort_by_key.new.self.items c.in_ok-sort_by_key.ensures.permutation c.requires;
}

pub returns : goal.returns
returns c = λ path.
    matched path c.sort_by_key.new.self.items
    ∙ sym (list_any-IsPermutation (matches_path path) c.args.patterns.items c.sort_by_key.new.self.items c.in_ok-sort_by_key.ensures.permutation)
    ∙ sym (matched path c.args.patterns.items)
