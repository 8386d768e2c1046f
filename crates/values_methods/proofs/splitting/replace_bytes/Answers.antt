use Rattle.std.proofs.Common.{◌≡◌, true, List, ℕ, ◌+◌, ◌-◌, [], ◌∷◌, ◌++◌, length, take, drop, ap, subst, ◌∙◌, arith, rules}
use Rattle.std.specs.List.{flat_map}
use Rattle.values_methods.specs.Texts.{replaced}
use Rattle.values_semantics.specs.Heap.{is_sized}
use Rattle.values_semantics.specs.Methods.{split_by, with_between}
use Rattle.values_methods.proofs.Replacing.{byte_kept, begun_again, text_refused, all_written, all_refused}
use Rattle.values_methods.proofs.splitting.replace_bytes.Goals as goal
use Rattle.values_methods.proofs.splitting.replace_bytes.Goals.{then-whole-i+in_ok-push_part, else-whole-i}

pub returns-in_err-push_part : goal.returns-in_err-push_part
returns-in_err-push_part c =
    let l = c.loop-i in
    let given = text_refused c.args.old c.args.new.now c.args.whole.now l.all.items _ l.from l.i _ c.loop-i-test.true c.if-whole-i.true l.invariant.made c.in_err-push_part.ensures in
    search (given, rules)

pub loop-i-preserved : goal.loop-i-preserved
loop-i-preserved c =
    let l = c.loop-i in
    let whole = c.args.whole.now in
    let f = replaced c.args.old c.args.new.now in
    let all = c.if-whole-i.all.items in
    let from_place = λ (xs : List ℕ) (n : ℕ). (xs ++ take (l.i + 1 - n) (drop n whole)) ++ flat_map f (drop (l.i + 1) whole) in
    elim c.if-whole-i.branch [
      | then-whole-i+in_ok-push_part w ↦
          let added = ap (λ v. v.items) w.all-is in
          record {
            made = ap (from_place all) w.from-is ∙ begun_again c.args.old c.args.new.now whole l.all.items all l.from l.i c.loop-i-test.true w.if-whole-i.true (added ∙ w.in_ok-push_part.ensures.0) l.invariant.made;
            begun = omega (arith, w.from-is);
            sized = ap (λ (xs : List ℕ). is_sized (length xs)) added ∙ w.in_ok-push_part.ensures.1;
          }
      | else-whole-i w ↦
          let same = ap (λ v. v.items) w.all-is in
          record {
            made = ap (λ xs. from_place xs c.if-whole-i.from) same ∙ (ap (from_place l.all.items) w.from-is ∙ byte_kept c.args.old c.args.new.now whole l.all.items l.from l.i l.invariant.begun c.loop-i-test.true w.if-whole-i.false l.invariant.made);
            begun = omega (arith, w.from-is, l.invariant.begun);
            sized = ap (λ (xs : List ℕ). is_sized (length xs)) same ∙ l.invariant.sized;
          }
    ]

pub returns-in_err-push_part-2 : goal.returns-in_err-push_part-2
returns-in_err-push_part-2 c =
    let l = c.loop-i in
    let given = all_refused c.args.old c.args.new.now c.args.whole.now l.all.items _ l.from l.i _ c.loop-i-test.false l.auto.i-end l.invariant.made c.in_err-push_part-2.ensures in
    search (given, rules)

pub returns : goal.returns
returns c =
    let l = c.loop-i in
    let made : c.push_part-2.new.all.items ≡ with_between c.args.new.now (split_by (c.args.old ∷ []) c.args.whole.now) =
    c.in_ok-push_part-2.ensures.0 ∙ all_written c.args.old c.args.new.now c.args.whole.now l.all.items l.from l.i c.loop-i-test.false l.auto.i-end l.invariant.made in
    (made, subst (λ (l : List ℕ). is_sized (length l) ≡ true) made c.in_ok-push_part-2.ensures.1)
