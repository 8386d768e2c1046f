use Rattle.std.proofs.Common.{rules, tests, ◌≡◌, ◌∙◌, ap, sym, true, false, ◌||◌, not, length}
use Rattle.std.proofs.lemmas.Iterator.Search.{all_from_yields_List}
use Rattle.std.proofs.lemmas.Iterator.Adapters.{YieldsList-from_bytes}
use Rattle.std.specs.Prelude.{bytes_eq, codes, ◌==◌}
use Rattle.std.specs.List.{list_all}
use Rattle.labels.specs.Paths.{is_name_byte}
use Rattle.pattern.specs.Patterns as patterns
use Rattle.pattern.proofs.pattern.is_pattern_segment.Goals as goal

pub returns : goal.returns
returns c =
    let each : c.all.result ≡ list_all (λ b. is_name_byte b || patterns.is_star b) c.args.segment.now =
    all_from_yields_List (λ b. is_name_byte b || patterns.is_star b) _ _ _ c.all.ensures.ran (YieldsList-from_bytes c.args.segment.now c.bytes.ensures.rest) (λ x b q k. search (rules, tests)) in
    let all : list_all (λ b. is_name_byte b || patterns.is_star b) c.args.segment.now ≡ true = sym each ∙ c.if-not-all.false in
    let double : patterns.is_double_star c.args.segment.now ≡ false = cc in
    let some : (length c.args.segment.now == 0) ≡ false = cc in
    let one : bytes_eq c.args.segment.now (codes ".") ≡ false = cc in
    let two : bytes_eq c.args.segment.now (codes "..") ≡ false = cc in
    let stars : c.has_two_stars.result ≡ patterns.has_two_stars c.args.segment.now = c.has_two_stars.ensures ∙ ap patterns.has_two_stars c.as_bytes.ensures.value in
    rw (double, some, one, two, all) (ap not stars)
