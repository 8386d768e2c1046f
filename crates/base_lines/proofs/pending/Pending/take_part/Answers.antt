use Rattle.std.proofs.Common.{◌≡◌, ◌∙◌, ap, sym, ℕ, List, ◌∷◌, ◌++◌, take, Some, None}
use Rattle.base_lines.proofs.Cuts.{is_break, before_break, at_break, no_break, range_rest, range_empty, within_range}
use Rattle.std.specs.Prelude.{slice_range, position}
use Rattle.std.proofs.lemmas.List.Quantifiers.{position-Some}
use Rattle.std.proofs.lemmas.List.{append-nil}
use Rattle.base_lines.proofs.pending.Pending.take_part.Goals as goal

pub returns-in_ok-push-in-Some : goal.returns-in_ok-push-in-Some
returns-in_ok-push-in-Some c =
    let i = c.self.inside in
    let at = c.in-Some.at in
    let xs : List ℕ = slice_range i.bytes.items i.start i.end in
    let value = c.deref.ensures.value in
    let found : position is_break xs ≡ Some at = cc in
    let within = (position-Some is_break xs at 0 found).0 in
    record {
      part = take at xs;
      one = before_break xs at found;
      split = sym c.self.view_is ∙ at_break xs at found ∙ ap (λ r. take at xs ++ 10 ∷ r) (range_rest i.bytes.items i.start at i.end (within_range i.bytes.items i.start at i.end within));
      end = λ h. cc;
      keeps = rw value at c.in_ok-push-in-Some.ensures;
    }

pub returns-in_ok-push-in-None : goal.returns-in_ok-push-in-None
returns-in_ok-push-in-None c =
    let i = c.self.inside in
    let xs : List ℕ = slice_range i.bytes.items i.start i.end in
    let value = c.deref.ensures.value in
    let missed : position is_break xs ≡ None = cc in
    record {
      part = xs;
      one = no_break xs missed;
      split = sym c.self.view_is ∙ sym (append-nil xs);
      end = λ h. range_empty i.bytes.items i.end;
      keeps = rw value at c.in_ok-push-in-None.ensures;
    }
