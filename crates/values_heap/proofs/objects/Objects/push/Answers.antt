use Rattle.std.proofs.Common.{◌∷◌, [], ◌++◌, length, false, ap, ◌∙◌, arith}
use Rattle.std.proofs.lemmas.List.{length-append}
use Rattle.values_objects.specs.Objects.{object_of}
use Rattle.values_objects.specs.Pages.{own_standings}
use Rattle.values_objects.specs.Standings.{own}
use Rattle.values_heap.specs.Ranges.{laid}
use Rattle.values_heap.proofs.Laid.{order_more}
use Rattle.values_heap.proofs.Places.{pushed}
use Rattle.values_heap.proofs.objects.Objects.push.Goals as goal

pub invariant_of-self-2 : goal.invariant_of-self-2
invariant_of-self-2 c =
    let fields = c.self.inside in
    let more = ap length c.in_ok-push.ensures.pushed ∙ length-append (own_standings fields.own) (own (object_of c.args.object) false ∷ []) in
    order_more fields.ranges.items 0 0 (length (own_standings fields.own)) (length (own_standings c.push.new.self)) fields.from fields.lent (omega (arith, more)) c.self.invariant

pub returns-clause-pushed : goal.returns-clause-pushed
returns-clause-pushed c =
    let fields = c.self.inside in
    ap (laid fields.ranges.items) c.in_ok-push.ensures.pushed
    ∙ pushed fields.ranges.items fields.from fields.lent (own_standings fields.own) (own (object_of c.args.object) false) c.self.invariant
    ∙ ap (λ w. w ++ own (object_of c.args.object) false ∷ []) c.self.view_is
