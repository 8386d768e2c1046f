use Rattle.std.proofs.Common.{All, IfSome, subst}
use Rattle.std.specs.BTreeSet.{BTreeSet}
use Rattle.std.specs.BTreeMap.Range.{IsLeBy}
use Rattle.engine_semantics.specs.Value.{In}
use Rattle.keys.specs.Keys.{key_cmp}
use Rattle.keys.specs.declared.key.Key.{Key}
use Rattle.node.proofs.Joining.{in_has}
use Rattle.round_nodes.specs.Ready.{keys_of}
use Rattle.round_nodes.proofs.Least.{if_some, in_next, in_rest, least_next}
use Rattle.round_nodes.proofs.ready.ReadySet.first.Goals as goal

pub returns-in-Some-clause-some : goal.returns-in-Some-clause-some
returns-in-Some-clause-some c = subst (λ (s : BTreeSet Key). In c.in-Some.key s.keys) c.self.view_is (in_next c.self.inside.next c.in-Some.key c.self.inside.rest.keys c.in-Some.is)

pub returns-in-Some-clause-least : goal.returns-in-Some-clause-least
returns-in-Some-clause-least c = subst (λ (s : BTreeSet Key). All (IsLeBy key_cmp c.in-Some.key) s.keys) c.self.view_is (least_next c.self.inside.next c.in-Some.key c.self.inside.rest.keys c.in-Some.is c.self.invariant)

pub returns-in-None-clause-some : goal.returns-in-None-clause-some
returns-in-None-clause-some c =
    subst (λ (s : BTreeSet Key). IfSome c.first.result (λ k. In k.now s.keys)) c.self.view_is
    (if_some _ (λ k. In k.now (keys_of c.self.inside.next c.self.inside.rest.keys)) c.first.result
    (λ k m. in_rest c.self.inside.next c.self.inside.rest.keys k.now (in_has c.self.inside.rest k.now m)) c.first.ensures.member)
