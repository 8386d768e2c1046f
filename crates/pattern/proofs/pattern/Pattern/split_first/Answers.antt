use Rattle.std.proofs.Common.{◌≡◌, ◌∙◌, ap, sym, arith, lit<, ℕ, ◌+◌, ◌≤◌, List, [], ◌∷◌, length, true, nat_le, ◌==◌}
use Rattle.std.proofs.lemmas.Bool.{and_parts, and_from, leb-true, le-leb}
use Rattle.std.proofs.lemmas.List.{length-drop}
use Rattle.std.proofs.lemmas.Str.Pattern.{split_once_first}
use Rattle.std.specs.List.{list_all, position_or_len, after_first}
use Rattle.labels.specs.Paths.{segments}
use Rattle.pattern.specs.Patterns.{is_pattern, is_pattern_segment}
use Rattle.pattern.proofs.FirstSegment.{one_segment, more_segments}
use Rattle.pattern.proofs.pattern.Pattern.split_first.Goals as goal

rest_is_pattern : (text first rest : List ℕ) → is_pattern text ≡ true → segments text ≡ first ∷ segments rest → length rest ≤ length text → is_pattern rest ≡ true
rest_is_pattern text first rest good cut shorter =
    let both = and_parts (nat_le (length text) 255) (list_all is_pattern_segment (segments text)) good in
    let short : length text ≤ 255 = leb-true (length text) 255 both.0 in
    let all = and_parts (is_pattern_segment first) (list_all is_pattern_segment (segments rest)) (sym (ap (list_all is_pattern_segment) cut) ∙ both.1) in
    and_from (nat_le (length rest) 255) (list_all is_pattern_segment (segments rest)) (le-leb (length rest) 255 (omega arith)) all.1

after_shorter : (text rest : List ℕ) → rest ≡ after_first (λ b. b == 47) text → length rest ≤ length text
after_shorter text rest is = omega (arith, ap length is ∙ length-drop (position_or_len (λ b. b == 47) text + 1) text)

pub invariant_of-rest : goal.invariant_of-rest
invariant_of-rest c =
    let told = split_once_first 47 c.as_str.result.now c.split_once.result c.split_once.ensures.cases (lit< tt) in
    let at = rw c.in-Some.is at told in
    let text = c.as_str.result.now in
    let rest = c.in-Some.rest.now in
    let good : is_pattern text ≡ true = ap is_pattern c.as_str.ensures ∙ c.self.invariant in
    let cut = more_segments text c.in-Some.first.now rest at.0 at.1 at.2 in
    ap is_pattern c.in_ok-new-in-Some.ensures ∙ rest_is_pattern text c.in-Some.first.now rest good cut (after_shorter text rest at.2)

pub returns-in_ok-new-in-Some : goal.returns-in_ok-new-in-Some
returns-in_ok-new-in-Some c =
    let told = split_once_first 47 c.as_str.result.now c.split_once.result c.split_once.ensures.cases (lit< tt) in
    let at = rw c.in-Some.is at told in
    let text = c.as_str.result.now in
    ap segments (sym c.self.view_is) ∙ ap segments (sym c.as_str.ensures) ∙ more_segments text c.in-Some.first.now c.in-Some.rest.now at.0 at.1 at.2
    ∙ ap (λ f. f ∷ segments c.in-Some.rest.now) (sym c.in_ok-first-in-Some.ensures) ∙ ap (λ r. c.in_ok-first-in-Some.first ∷ segments r) (sym c.in_ok-new-in-Some.ensures)

pub returns-in_ok-share-in-None : goal.returns-in_ok-share-in-None
returns-in_ok-share-in-None c =
    let told = split_once_first 47 c.as_str.result.now c.split_once.result c.split_once.ensures.cases (lit< tt) in
    let at = rw c.in-None.is at told in
    let text = c.as_str.result.now in
    ap segments (sym c.self.view_is) ∙ ap segments (sym c.as_str.ensures) ∙ one_segment text at
    ∙ ap (λ t. t ∷ []) c.as_str.ensures ∙ ap (λ t. t ∷ []) (sym c.in_ok-share-in-None.ensures)
