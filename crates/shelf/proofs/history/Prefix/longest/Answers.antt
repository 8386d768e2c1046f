use Rattle.std.proofs.Common.{◌≤◌, ap, subst, arith, length, List, sym}
use mathlib.Core.List.{IsPrefix}
use Rattle.shelf.specs.declared.publish.Publish.{Publish}
use Rattle.shelf.specs.Lists.{Rises}
use Rattle.shelf.proofs.Beginnings.{prefix_shorter}
use Rattle.shelf.proofs.Adding.{rises_prefix}
use Rattle.shelf.proofs.history.Prefix.longest.Goals as goal

pub returns-then-self-other-clause-this : goal.returns-then-self-other-clause-this
returns-then-self-other-clause-this c =
    let me = c.args.self.now in let other = c.args.other.now in
    let both = c.learn.new.self.log in
    let this : IsPrefix me.known.log both = subst (λ (l : List Publish). IsPrefix l both) (ap (λ s. s.log) c.again-both.ensures) c.learn.ensures.2 in
    let less : length me.known.log ≤ length other.known.log = omega (arith, me.counted, other.counted) in
    subst (λ b. IsPrefix me.known.log b.known.log) (sym c.again.ensures) (prefix_shorter me.known.log other.known.log both this c.learn.ensures.3 less)

pub returns-then-self-other-clause-rises : goal.returns-then-self-other-clause-rises
returns-then-self-other-clause-rises c =
    subst (λ b. Rises b.known.log) (sym c.again.ensures) (rises_prefix 0 c.args.other.now.known.log c.learn.new.self.log c.learn.ensures.3 c.learn.ensures.4.1.rises)

pub returns-clause-that : goal.returns-clause-that
returns-clause-that c =
    let me = c.args.self.now in let other = c.args.other.now in
    let both = c.learn.new.self.log in
    let this : IsPrefix me.known.log both = subst (λ (l : List Publish). IsPrefix l both) (ap (λ s. s.log) c.again-both.ensures) c.learn.ensures.2 in
    let less : length other.known.log ≤ length me.known.log = omega (arith, me.counted, other.counted) in
    subst (λ b. IsPrefix other.known.log b.known.log) (sym c.again-else-self-other.ensures) (prefix_shorter other.known.log me.known.log both c.learn.ensures.3 this less)

pub returns-clause-rises : goal.returns-clause-rises
returns-clause-rises c =
    let both = c.learn.new.self.log in
    let this : IsPrefix c.args.self.now.known.log both = subst (λ (l : List Publish). IsPrefix l both) (ap (λ s. s.log) c.again-both.ensures) c.learn.ensures.2 in
    subst (λ b. Rises b.known.log) (sym c.again-else-self-other.ensures) (rises_prefix 0 c.args.self.now.known.log both this c.learn.ensures.4.1.rises)
