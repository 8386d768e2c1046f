use Rattle.std.proofs.Common.{◌≡◌, ◌-◌, ◌<◌, length, suc, Some, refl, sym, ap, ◌∙◌, arith}
use Rattle.std.specs.Prelude.{slice_get}
use Rattle.std.proofs.lemmas.Option.{slice_get_read}
use Rattle.values_heap.specs.Ranges.{own_number, found_there, range_standings}
use Rattle.values_heap.proofs.Halving.{before_all, behind_last, in_last}
use Rattle.values_heap.proofs.Places.{lent_found}
use Rattle.values_heap.proofs.objects.seek_in.Goals as goal

pub returns-then-begun-eq0-clause-number : goal.returns-then-begun-eq0-clause-number
returns-then-begun-eq0-clause-number c = λ number from lent order. sym (ap own_number (before_all c.args.ranges.now c.args.place c.count_begun-begun.result c.count_begun-begun.ensures c.if-begun-eq0.true))

pub returns-then-begun-eq0-clause-found : goal.returns-then-begun-eq0-clause-found
returns-then-begun-eq0-clause-found c = λ number from lent order objects. sym (ap (found_there range_standings objects) (before_all c.args.ranges.now c.args.place c.count_begun-begun.result c.count_begun-begun.ensures c.if-begun-eq0.true))

pub returns-then-place-range-clause-number : goal.returns-then-place-range-clause-number
returns-then-place-range-clause-number c = λ number from lent order.
    let rs = c.args.ranges.now in
    let n = c.count_begun-begun.result in
    let r = c.index-ranges-begun.result in
    let begun = c.count_begun-begun.ensures in
    let some : n ≡ suc (n - 1) = omega (arith, c.if-begun-eq0.false) in
    let lt : n - 1 < length rs = omega (arith, c.if-begun-eq0.false, begun.within) in
    let past = c.if-place-range.true in
    ap Some c.saturating_sub.ensures ∙ sym (ap own_number (behind_last rs c.args.place n (n - 1) number from lent r order begun some (slice_get_read rs (length rs) (n - 1) r refl lt c.index-ranges-begun.is) (omega (arith, past))))

pub returns-then-place-range-clause-found : goal.returns-then-place-range-clause-found
returns-then-place-range-clause-found c = λ number from lent order objects.
    let rs = c.args.ranges.now in
    let n = c.count_begun-begun.result in
    let r = c.index-ranges-begun.result in
    let begun = c.count_begun-begun.ensures in
    let some : n ≡ suc (n - 1) = omega (arith, c.if-begun-eq0.false) in
    let lt : n - 1 < length rs = omega (arith, c.if-begun-eq0.false, begun.within) in
    let past = c.if-place-range.true in
    ap (slice_get objects) c.saturating_sub.ensures ∙ sym (ap (found_there range_standings objects) (behind_last rs c.args.place n (n - 1) number from lent r order begun some (slice_get_read rs (length rs) (n - 1) r refl lt c.index-ranges-begun.is) (omega (arith, past))))

pub overflow_sub-place : goal.overflow_sub-place
overflow_sub-place c =
    let rs = c.args.ranges.now in
    let n = c.count_begun-begun.result in
    let r = c.index-ranges-begun.result in
    let begun = c.count_begun-begun.ensures in
    let some : n ≡ suc (n - 1) = omega (arith, c.if-begun-eq0.false) in
    let lt : n - 1 < length rs = omega (arith, c.if-begun-eq0.false, begun.within) in
    begun.last (n - 1) r some (slice_get_read rs (length rs) (n - 1) r refl lt c.index-ranges-begun.is)

pub returns-clause-number : goal.returns-clause-number
returns-clause-number c = λ number from lent order.
    let rs = c.args.ranges.now in
    let n = c.count_begun-begun.result in
    let r = c.index-ranges-begun.result in
    let begun = c.count_begun-begun.ensures in
    let some : n ≡ suc (n - 1) = omega (arith, c.if-begun-eq0.false) in
    let lt : n - 1 < length rs = omega (arith, c.if-begun-eq0.false, begun.within) in
    let before = c.if-place-range.false in
    sym (ap own_number (in_last rs c.args.place n (n - 1) number from lent r order begun some (slice_get_read rs (length rs) (n - 1) r refl lt c.index-ranges-begun.is) (omega (arith, before))))

pub returns-clause-found : goal.returns-clause-found
returns-clause-found c = λ number from lent order.
    let rs = c.args.ranges.now in
    let n = c.count_begun-begun.result in
    let r = c.index-ranges-begun.result in
    let begun = c.count_begun-begun.ensures in
    let some : n ≡ suc (n - 1) = omega (arith, c.if-begun-eq0.false) in
    let lt : n - 1 < length rs = omega (arith, c.if-begun-eq0.false, begun.within) in
    let before = c.if-place-range.false in
    lent_found rs c.args.place r c.deref.result.now c.get-object.result (in_last rs c.args.place n (n - 1) number from lent r order begun some (slice_get_read rs (length rs) (n - 1) r refl lt c.index-ranges-begun.is) (omega (arith, before))) c.deref.ensures c.get-object.ensures
