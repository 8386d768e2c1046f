use Rattle.std.proofs.Common.{◌≡◌, ◌≤◌, true, List, length, length-append, FitsSigned, w64, to_z, refl, sym, subst, ◌∙◌, ap, arith, rules}
use Rattle.std.proofs.lemmas.Int.{to_z-of_z}
use Rattle.values_semantics.specs.declared.val.Val.{Val}
use Rattle.values_semantics.specs.Heap.{is_sized}
use Rattle.values_semantics.specs.Functions.{range_count, numbers}
use Rattle.values_builtins.proofs.RangeNumbers.{range_ends, range_goes, range_last, range_long, past_the_end, sized}
use Rattle.values_builtins.proofs.ranges.numbers.Goals as goal

pub returns-then-len-ge-MAX_LENGTH : goal.returns-then-len-ge-MAX_LENGTH
returns-then-len-ge-MAX_LENGTH c =
    let f : FitsSigned w64 c.args.from = c.ranges.from in
    let g : FitsSigned w64 c.args.to = c.ranges.to in
    let h : FitsSigned w64 c.args.step = c.ranges.step in
    let here = simp to_z-of_z at (sym c.lies_before.ensures ∙ c.loop-members-test.true) in
    (refl, range_long c.loop-members.members.items _ (to_z w64 c.loop-members.next-bits) c.args.to c.args.step c.requires (simp to_z-of_z at c.loop-members.invariant.0) here (omega arith))

pub loop-members-smaller : goal.loop-members-smaller
loop-members-smaller c = omega (arith, ap length c.in_ok-push.ensures.items, length-append {A = Val})

pub loop-members-preserved : goal.loop-members-preserved
loop-members-preserved c =
    let f : FitsSigned w64 c.args.from = c.ranges.from in
    let g : FitsSigned w64 c.args.to = c.ranges.to in
    let h : FitsSigned w64 c.args.step = c.ranges.step in
    let here = simp to_z-of_z at (sym c.lies_before.ensures ∙ c.loop-members-test.true) in
    let sum = simp to_z-of_z at c.in-Some.ensures in
    let k : FitsSigned w64 c.in-Some.n = subst (FitsSigned w64) (sym sum.1) sum.0 in (
      simp to_z-of_z (range_goes c.loop-members.members.items _ (to_z w64 c.loop-members.next-bits) c.args.to c.args.step c.requires (simp to_z-of_z at c.loop-members.invariant.0) c.push.new.self.items here c.in_ok-push.ensures.items c.in-Some.n sum.1),
      omega (arith, ap (length {A = Val}) c.in_ok-push.ensures.items, length-append {A = Val}),
    )

pub returns-in-None : goal.returns-in-None
returns-in-None c =
    let f : FitsSigned w64 c.args.from = c.ranges.from in
    let g : FitsSigned w64 c.args.to = c.ranges.to in
    let h : FitsSigned w64 c.args.step = c.ranges.step in
    let here = simp to_z-of_z at (sym c.lies_before.ensures ∙ c.loop-members-test.true) in
    let made : c.push.new.self.items ≡ numbers (range_count c.args.from c.args.to c.args.step) c.args.from c.args.step = range_last c.loop-members.members.items _ (to_z w64 c.loop-members.next-bits) c.args.to c.args.step c.requires (simp to_z-of_z at c.loop-members.invariant.0) c.push.new.self.items here c.in_ok-push.ensures.items
    (past_the_end (to_z w64 c.loop-members.next-bits) c.args.to c.args.step (search rules) c.ranges.to c.requires (simp to_z-of_z at c.in-None.ensures)) in
    let fits : length c.push.new.self.items ≤ 65536 = omega (arith, ap (length {A = Val}) c.in_ok-push.ensures.items, length-append {A = Val}) in
    (made, subst (λ (l : List Val). is_sized (length l) ≡ true) made (sized (length c.push.new.self.items) fits))

pub returns : goal.returns
returns c =
    let f : FitsSigned w64 c.args.from = c.ranges.from in
    let g : FitsSigned w64 c.args.to = c.ranges.to in
    let h : FitsSigned w64 c.args.step = c.ranges.step in
    let there = simp to_z-of_z at (sym c.lies_before.ensures ∙ c.loop-members-test.false) in
    let made : c.loop-members.members.items ≡ numbers (range_count c.args.from c.args.to c.args.step) c.args.from c.args.step = range_ends c.loop-members.members.items _ (to_z w64 c.loop-members.next-bits) c.args.to c.args.step c.requires (simp to_z-of_z at c.loop-members.invariant.0) there in
    (made, subst (λ (l : List Val). is_sized (length l) ≡ true) made (sized (length c.loop-members.members.items) c.loop-members.invariant.1))
