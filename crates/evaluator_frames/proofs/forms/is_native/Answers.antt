use Rattle.std.proofs.Common.{sym, ap, ◌∙◌}
use Rattle.evaluator_semantics.specs.Names.{is_native_name}
use Rattle.syntax_tree.specs.Tree.{Ex}
use Rattle.syntax_tree.specs.View.{tree_of}
use Rattle.evaluator_state.specs.View.{world_of, here_of}
use Rattle.evaluator_direct.proofs.Trees.{tree-Name}
use Rattle.evaluator_frames.proofs.forms.is_native.Goals as goal

pub returns-in-Name : goal.returns-in-Name
returns-in-Name c = λ line running. c.is_native_name.ensures line running ∙ ap (λ (e : Ex). is_native_name e (here_of c.args.at.now line running) (world_of c.args.state.now)) (sym (ap tree_of c.in-Name.is ∙ tree-Name c.in-Name.x c.in-Name.last))
