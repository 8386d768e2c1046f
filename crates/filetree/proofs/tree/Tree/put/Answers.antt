use Rattle.std.proofs.Common.{◌∙◌, ap}
use Rattle.std.specs.FinMap as map
use Rattle.filetree.specs.Folders.{entries_of}
use Rattle.filetree.proofs.Whole.{put_entries}
use Rattle.filetree.proofs.tree.Tree.put.Goals as goal

pub returns : goal.returns
returns c = (
  c.in_ok-test_put.ensures,
  put_entries (entries_of c.self.inside.root) (entries_of c.put_in_root.new.root) c.args.path.now c.args.text.now c.in_ok-put_in_root.ensures.ok
      ∙ ap (λ m. map.insert m c.args.path.now c.args.text.now) c.self.view_is,
)
