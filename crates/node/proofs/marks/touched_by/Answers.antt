use Rattle.node.proofs.Touching.{all_touched}
use Rattle.node.proofs.marks.touched_by.Goals as goal

pub returns : goal.returns
returns c =
    all_touched c.args.path.now c.in_ok-new.field-0 c.in_ok-new-2.field-0 c.in_ok-leaves.leaves.items c.push.new.self.items c.push-2.new.self.items c.reverse.new.self.items
    c.in_ok-leaves.ensures c.in_ok-push.ensures.items c.in_ok-push-2.ensures.items c.reverse.ensures.items c.in_ok-new.ensures c.in_ok-new-2.ensures
