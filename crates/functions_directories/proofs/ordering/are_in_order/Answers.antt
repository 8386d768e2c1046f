use Rattle.std.proofs.Common.{◌≡◌, ◌∙◌, ap, sym, subst, arith, ℕ, ◌+◌, ◌-◌, length, drop}
use Rattle.std.proofs.lemmas.List.{drop_all}
use Rattle.filetree.specs.Listings.{sorted_names}
use Rattle.functions_directories.proofs.NamesInOrder.{none_sorted}
use Rattle.functions_directories.proofs.ordering.are_in_order.Goals as goal

pub loop-i-init : goal.loop-i-init
loop-i-init c =
    let none = drop_all (length c.args.texts.now) c.args.texts.now (omega arith) in
    record { within = omega arith; sorted = ap sorted_names none ∙ none_sorted ∙ sym none }

pub loop-i-preserved : goal.loop-i-preserved
loop-i-preserved c =
    let next : c.loop-i.i ≡ (c.loop-i.i - 1) + 1 = omega arith in
    record {
      within = omega arith;
      sorted = c.is_below_next.ensures c.if-not-is_below_next.false (subst (λ (i : ℕ). sorted_names (drop i c.args.texts.now) ≡ drop i c.args.texts.now) next c.loop-i.invariant.sorted);
    }

pub returns : goal.returns
returns c = λ yes.
    let first : c.loop-i.i ≡ 0 = omega arith in
    subst (λ (i : ℕ). sorted_names (drop i c.args.texts.now) ≡ drop i c.args.texts.now) first c.loop-i.invariant.sorted
