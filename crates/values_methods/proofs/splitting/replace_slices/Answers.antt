use Rattle.std.proofs.Common.{◌≡◌, true, ℕ, List, length, refl, subst, rules}
use Rattle.values_semantics.specs.Heap.{is_sized}
use Rattle.values_semantics.specs.Methods.{split_by, with_between}
use Rattle.values_methods.proofs.Replacing.{more_replaced, last_replaced, part_refused, rest_refused}
use Rattle.values_methods.proofs.splitting.replace_slices.Goals as goal

pub loop-place-preserved : goal.loop-place-preserved
loop-place-preserved c =
    let rest = c.loop-place.rest.now in
    let found = c.in-Some.ensures in
    (more_replaced c.args.old.now c.requires c.args.new.now c.args.whole.now c.loop-place.all.items _ rest _ _ _ c.in-Some.place c.loop-place.invariant.0 found c.split_at.ensures.front c.split_at.ensures.back refl c.in_ok-push_part.ensures.0, c.in_ok-push_part.ensures.1)

pub returns-in_err-push_part : goal.returns-in_err-push_part
returns-in_err-push_part c =
    let rest = c.loop-place.rest.now in
    let found = c.in-Some.ensures in
    let given = part_refused c.args.old.now c.requires c.args.new.now c.args.whole.now c.loop-place.all.items _ rest _ _ _ c.in-Some.place _ c.loop-place.invariant.0 found c.split_at.ensures.front c.split_at.ensures.back refl c.in_err-push_part.ensures in
    search (given, rules)

pub returns-in_err-push_part-2 : goal.returns-in_err-push_part-2
returns-in_err-push_part-2 c =
    let rest = c.loop-place.rest.now in
    let none = c.in_default.ensures in
    let given = rest_refused c.args.old.now c.requires c.args.new.now c.args.whole.now c.loop-place.all.items _ rest _ c.loop-place.invariant.0 none c.in_err-push_part-2.ensures in
    search (given, rules)

pub returns : goal.returns
returns c =
    let rest = c.loop-place.rest.now in
    let none = c.in_default.ensures in
    let made : c.push_part-2.new.all.items ≡ with_between c.args.new.now (split_by c.args.old.now c.args.whole.now) = last_replaced c.args.old.now c.requires c.args.new.now c.args.whole.now c.loop-place.all.items _ rest c.loop-place.invariant.0 none c.in_ok-push_part-2.ensures.0 in
    (made, subst (λ (l : List ℕ). is_sized (length l) ≡ true) made c.in_ok-push_part-2.ensures.1)
