use Rattle.std.proofs.Common.{◌≡◌, ◌∙◌, sym, eqb, [], length}
use Rattle.std.proofs.lemmas.Bool.{eqb-true, eqb-false}
use Rattle.std.proofs.lemmas.List.{nil_from_length}
use Rattle.pattern.specs.Patterns.{is_star}
use Rattle.pattern.proofs.WildLemmas.{found}
use Rattle.pattern.proofs.segment.search.Goals as goal
use Rattle.pattern.proofs.segment.search.Goals.{then-not-is_empty-via-then-not-is_empty, then-not-is_empty-via-else-not-is_empty+then-is_empty}

pub returns-then-not-is_empty : goal.returns-then-not-is_empty
returns-then-not-is_empty c =
    let done : length c.in-Some.rest.now ≡ 0 → c.in-Some.after.now ≡ [] = λ none.
    elim c.then-not-is_empty.branch [
      | then-not-is_empty-via-then-not-is_empty w ↦ absurd (eqb-false (length c.in-Some.rest.now) 0 (sym w.if-not-is_empty.ensures) none)
      | then-not-is_empty-via-else-not-is_empty+then-is_empty w ↦ nil_from_length c.in-Some.after.now (eqb-true (length c.in-Some.after.now) 0 (sym w.if-is_empty.ensures))
    ] in
    record {
      ended = c.in-Some.ensures.ended;
      same = c.loop-rest.invariant ∙ found is_star eqb c.args.pattern.now c.in-Some.rest.now c.loop-rest.name.now c.in-Some.after.now c.in-Some.ensures done;
      shorter = c.in-Some.ensures.shorter;
    }
