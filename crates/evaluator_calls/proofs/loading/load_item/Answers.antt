use Rattle.std.proofs.Common.{sym, ap, ◌∙◌}
use Rattle.values_heap.specs.View.{store_of}
use Rattle.syntax_tree.specs.Statements.{item_of}
use Rattle.evaluator_state.specs.View.{world_of, here_of}
use Rattle.evaluator_calls.specs.ExportTables.{exported_among}
use Rattle.evaluator_calls.proofs.Worlds.{item_ends}
use Rattle.evaluator_calls.proofs.loading.load_item.Goals as goal

pub returns-clause-says : goal.returns-clause-says
returns-clause-says c = λ line running. item_ends c.args.body.now (item_of c.args.item.now) (here_of c.args.at.now line running) (world_of c.args.state.now) (world_of c.bind.new.state) c.in-Some.f.now c.in-Ok.x (store_of c.thaw_value.new.heap) c.bind.result (sym (c.in-Some.ensures ∙ ap (exported_among (item_of c.args.item.now).exported) c.requires)) c.in-Ok.ensures.says (c.bind.ensures.says line running)
