use Rattle.std.proofs.Common.{◌∙◌, ap}
use Rattle.std.specs.FinMap as map
use Rattle.filetree.specs.Folders.{entries_of}
use Rattle.filetree.proofs.Whole.{del_entries}
use Rattle.filetree.proofs.tree.Tree.del.Goals as goal

pub returns : goal.returns
returns c = (
  c.in_ok-test_del.ensures,
  del_entries (entries_of c.self.inside.root) (entries_of c.del_in_root.new.root) c.args.path.now c.in_ok-del_in_root.ensures.ok
      ∙ ap (λ m. map.remove m c.args.path.now) c.self.view_is,
)
