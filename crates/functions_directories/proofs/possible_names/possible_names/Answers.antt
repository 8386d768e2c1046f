use Rattle.std.proofs.Common.{◌∙◌, ap, sym}
use Rattle.std.specs.List.{before_first}
use Rattle.std.proofs.lemmas.Bool.{false≢true}
use Rattle.pattern.specs.Patterns.{is_star, is_double_star}
use Rattle.pattern.specs.Starless.{is_starless}
use Rattle.functions_directories.proofs.FrontNames.{equal_begun, fitting_asked, fitting_begun, fitting_own}
use Rattle.functions_directories.proofs.PossibleNames.{same_own, same_asked}
use Rattle.functions_directories.proofs.possible_names.possible_names.Goals as goal

pub returns-then-is_plain : goal.returns-then-is_plain
returns-then-is_plain c =
    let plain = sym c.is_plain.ensures ∙ c.if-is_plain.true in
    record {
      own = same_own c.args.pattern.now c.args.names.now _ _ c.split_pattern.ensures.first plain c.equal_names.ensures.equal;
      asked = same_asked c.args.pattern.now c.args.names.now _ _ c.split_pattern.ensures.first plain c.equal_names.ensures.equal;
      few = λ order starless. c.equal_names.ensures.few;
      begun = λ order deep. equal_begun c.args.pattern.now c.args.names.now _ _ c.split_pattern.ensures.first plain c.equal_names.ensures.equal;
    }

pub returns-then-not-is_double_star : goal.returns-then-not-is_double_star
returns-then-not-is_double_star c =
    let front = c.front_of.ensures ∙ ap (before_first is_star) c.split_pattern.ensures.first in
    let shallow = sym (ap is_double_star c.split_pattern.ensures.first) ∙ sym c.is_double_star.ensures ∙ c.if-not-is_double_star.true in
    record {
      own = fitting_own c.args.pattern.now c.args.names.now _ _ shallow front c.names_with_front.ensures;
      asked = fitting_asked c.args.pattern.now c.args.names.now _ _ shallow front c.names_with_front.ensures;
      few = λ order plain. absurd (false≢true (sym c.if-is_plain.false ∙ c.is_plain.ensures ∙ ap is_starless c.split_pattern.ensures.first ∙ plain));
      begun = λ order deep. fitting_begun c.args.pattern.now c.args.names.now _ _ front c.names_with_front.ensures;
    }

pub returns-else-in_order-clause-few : goal.returns-else-in_order-clause-few
returns-else-in_order-clause-few c = λ order plain. absurd (false≢true (sym c.if-in_order.false ∙ order))
