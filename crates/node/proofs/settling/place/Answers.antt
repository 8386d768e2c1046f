use Rattle.std.proofs.Common.{◌≡◌, ap, ◌∙◌, ◌++◌, ◌∷◌, [], false}
use Rattle.std.specs.Arc.{arc_value}
use Rattle.keys.specs.declared.key.Key.{Key}
use Rattle.node.specs.declared.records.NodeRecord.{NodeRecord}
use Rattle.node.specs.Records.{row_of}
use Rattle.node.proofs.settling.place.Goals as goal

pub returns-clause-ok : goal.returns-clause-ok
returns-clause-ok c =
    let e : NodeRecord = record { value = c.in_ok-try_clone.field-0; groups = c.new.result; users = c.new-2.result; settled_at = c.args.version; changed_at = c.args.version; dirty = false } in
    let is : row_of e ≡ record { value = arc_value c.args.value.now; groups = []; settled_at = c.args.version; changed_at = c.args.version; dirty = false } =
    λ i. record { value = c.in_ok-try_clone.ensures i; groups = c.new.ensures i; settled_at = c.args.version; changed_at = c.args.version; dirty = false } in
    (e, c.in_ok-number.ensures.ok ∙ ap (λ (k : Key). c.args.records.now ++ (k, e) ∷ []) c.in_ok-share.ensures, is, c.new-2.ensures)
