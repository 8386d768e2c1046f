use Rattle.std.proofs.Common.{◌∙◌, sym}
use Rattle.filetree.proofs.NameLists.{names_none, names_there}
use Rattle.filetree.proofs.folder.Folder.listing.Goals as goal

pub returns-in_ok-names-in-Some : goal.returns-in_ok-names-in-Some
returns-in_ok-names-in-Some c =
    c.in_ok-names-in-Some.ensures ∙ sym (names_there c.args.directory.now c.args.self.now.entries c.in-Some.folder.now.entries (sym c.if-is_empty.ensures) c.in-Some.ensures.found)

pub returns-in-None : goal.returns-in-None
returns-in-None c = sym (names_none c.args.directory.now c.args.self.now.entries (sym c.if-is_empty.ensures) c.in-None.ensures.found)
