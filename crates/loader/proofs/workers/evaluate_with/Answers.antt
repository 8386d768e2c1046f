use Rattle.std.proofs.Common.{List, Ok, Err, subst}
use Rattle.std.specs.Prelude.{IfOk, IfErr}
use Rattle.engine_semantics.specs.Reply.{Reply}
use Rattle.functions.specs.Next.{next}
use Rattle.keys.specs.declared.key.Key.{Key}
use Rattle.keys.specs.declared.value.Value.{Value}
use Rattle.keys.specs.Leaves.{read}
use Rattle.round.specs.Call.{Calls}
use Rattle.loader.proofs.Same.{same_turns}
use Rattle.loader.proofs.workers.evaluate_with.Goals as goal

pub returns-clause-law : goal.returns-clause-law
returns-clause-law g c = subst (λ (f : Key → List Value → Reply Key Value). IfOk c.evaluate.result (λ done. Calls f (read c.args.tree.now) c.args.roots.now c.args.graph.now c.evaluate.new.graph (Ok done.1.items)))
    (same_turns g.R.Rules.next next (g.met.R.LoadRules g.world.𝓛 g.world.𝓜 g.world.𝓡 ((λ s x. x), (λ x. x), (λ x. x), λ x. x)).is_table) c.evaluate.ensures.law

pub returns-clause-stopped : goal.returns-clause-stopped
returns-clause-stopped g c = subst (λ (f : Key → List Value → Reply Key Value). IfErr c.evaluate.result (λ e. Calls f (read c.args.tree.now) c.args.roots.now c.args.graph.now c.evaluate.new.graph (Err e)))
    (same_turns g.R.Rules.next next (g.met.R.LoadRules g.world.𝓛 g.world.𝓜 g.world.𝓡 ((λ s x. x), (λ x. x), (λ x. x), λ x. x)).is_table) c.evaluate.ensures.stopped
