use Rattle.std.proofs.Common.{is_some, sym, ap, ◌∙◌}
use Rattle.evaluator_semantics.specs.Names.{is_native, slot}
use Rattle.evaluator_state.specs.View.{world_of, here_of}
use Rattle.evaluator_state.proofs.Distinct.{free, never}
use Rattle.evaluator_state.proofs.reading.is_native_name.Goals as goal

pub returns-then-not-is_native : goal.returns-then-not-is_native
returns-then-not-is_native c = λ line running. never (is_some (slot c.args.x.now (here_of c.args.at.now line running) (world_of c.args.state.now))) (is_native c.args.at.now.kind c.args.x.now) c.if-not-is_native.ensures

pub returns : goal.returns
returns c = λ line running. free (is_some (slot c.args.x.now (here_of c.args.at.now line running) (world_of c.args.state.now))) c.is_none.result (is_native c.args.at.now.kind c.args.x.now) (sym (ap (λ o. is_some o) c.slot.ensures) ∙ c.is_none.ensures) c.if-not-is_native.ensures
