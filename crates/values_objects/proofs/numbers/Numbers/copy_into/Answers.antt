use Rattle.std.proofs.Common.{◌≡◌, ◌++◌, ◌∷◌, [], pos, take, sym, ap, ◌∙◌, arith}
use Rattle.values_objects.specs.Numbers.{shown}
use Rattle.values_objects.proofs.Consecutive.{all_taken}
use Rattle.values_objects.proofs.DictionaryKeys.{take_some}
use Rattle.values_objects.proofs.numbers.Numbers.copy_into.Goals as goal

pub loop-i-preserved : goal.loop-i-preserved
loop-i-preserved c = c.in_ok-push.ensures.items ∙ ap (λ xs. xs ++ c.at.result ∷ []) c.loop-i.invariant ∙ sym (take_some (shown c.args.self.now) c.loop-i.i c.at.result c.at.ensures)

pub returns : goal.returns
returns c =
    let end : c.loop-i.i ≡ c.args.self.now.count = omega (arith, c.loop-i-test.false, c.loop-i.auto.i-end) in
    c.loop-i.invariant ∙ ap (λ n. take n (shown c.args.self.now)) end ∙ all_taken c.args.self.now.count c.args.self.now.first (pos 1)
