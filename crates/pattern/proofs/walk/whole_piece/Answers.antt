use Rattle.std.proofs.Common.{◌≡◌, ◌∙◌, ap, sym, length, []}
use Rattle.pattern.specs.Parts.{parts}
use Rattle.pattern.specs.Patterns.{is_double_star, segment_matches, path_matches}
use Rattle.pattern.proofs.FirstSegment.{not_empty, nothing_takes_no_text}
use Rattle.pattern.proofs.WildLemmas.{found}
use Rattle.pattern.proofs.walk.whole_piece.Goals as goal

pub returns-in-Some : goal.returns-in-Some
returns-in-Some c =
    let fits = c.in_ok-rest.ensures in
    let done : length (parts c.in_ok-rest.rest) ≡ 0 → parts c.in_ok-rest.after ≡ [] = λ none. absurd (not_empty c.in-Some.field-0 (sym (ap (λ t. length (parts t)) c.in-Some.is) ∙ none)) in
    record {
      ended = fits.ended;
      same = found is_double_star segment_matches (parts c.args.pattern) (parts c.in_ok-rest.rest) (parts c.args.path) (parts c.in_ok-rest.after) fits done;
      shorter = fits.shorter;
    }

pub returns-in-Some-after : goal.returns-in-Some-after
returns-in-Some-after c =
    c.in_ok-rest.ensures.same ∙ ap (λ t. path_matches (parts t) (parts c.in_ok-rest.after)) c.in-None.is ∙ ap (λ t. path_matches [] (parts t)) c.in-Some-after.is ∙ nothing_takes_no_text c.in-Some-after.field-0

pub returns-in-None-after : goal.returns-in-None-after
returns-in-None-after c =
    let fits = c.in_ok-rest.ensures in
    let done : length (parts c.in_ok-rest.rest) ≡ 0 → parts c.in_ok-rest.after ≡ [] = λ none. ap parts c.in-None-after.is in
    record {
      ended = fits.ended;
      same = found is_double_star segment_matches (parts c.args.pattern) (parts c.in_ok-rest.rest) (parts c.args.path) (parts c.in_ok-rest.after) fits done;
      shorter = fits.shorter;
    }
