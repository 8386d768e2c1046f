-- A listing as the names in it.
use Rattle.filetree.specs.Listings.{Names}
use Rattle.filetree.specs.declared.listing.Listing.{Listing}

abbrev pub names_seen : Listing → Names
names_seen l = record { files = l.files.items; directories = l.directories.items }
