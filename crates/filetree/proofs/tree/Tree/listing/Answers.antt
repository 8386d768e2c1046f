use Rattle.std.proofs.Common.{◌∙◌, ap, sym, map as each}
use Rattle.filetree.specs.Folders.{entries_of}
use Rattle.filetree.specs.Listings.{names_in, listing}
use Rattle.filetree.proofs.Above.{if_ok_map}
use Rattle.filetree.proofs.NameLists.{listing_names}
use Rattle.filetree.proofs.tree.Tree.listing.Goals as goal

pub returns-in-Some : goal.returns-in-Some
returns-in-Some c =
    let dir = c.args.directory.now in
    if_ok_map _ _ c.listing.result (λ l h. h ∙ ap (λ v. names_in dir (each (λ e. e.0) v.entries)) c.deref.ensures
    ∙ ap (λ r. names_in dir (each (λ e. e.0) (entries_of r))) (sym c.in-Some.is) ∙ sym (listing_names dir (entries_of c.self.inside.root)) ∙ ap (λ m. listing m dir) c.self.view_is) c.listing.ensures

pub returns-in-None : goal.returns-in-None
returns-in-None c =
    let dir = c.args.directory.now in
    ap (λ r. names_in dir (each (λ e. e.0) (entries_of r))) (sym c.in-None.is) ∙ sym (listing_names dir (entries_of c.self.inside.root)) ∙ ap (λ m. listing m dir) c.self.view_is
