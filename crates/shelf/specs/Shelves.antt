-- What readers know, what the keeper has published, and what it makes known.
use Rattle.std.specs.Prelude.{◌≡◌, ◌⊎◌, ℕ, List}
use Rattle.logbook.specs.Pages.{Book}
use Rattle.shelf.specs.declared.publish.Publish.{Publish}
use Rattle.shelf.specs.declared.reader.Reader.{Reader}
use Rattle.shelf.specs.declared.reader.Told.{Told}
use Rattle.shelf.specs.declared.keeper.Keeper.{Keeper}
use Rattle.shelf.specs.Rules.{publishes_of}
use Rattle.shelf.specs.Lists.{then_published}

-- the prefix of the list that the reader has seen or learnt
abbrev pub known_to : Reader → List Publish
known_to reader = reader.list.known.log

-- the list that ends with the publish that the keeper makes known
abbrev pub told_in : Told → List Publish
told_in told = told.list.known.log

-- the shelf that the reader reads. A book has no two lists
abbrev pub shelf_read_by : Reader → Book
shelf_read_by reader = reader.list.known.book

-- the shelf that the keeper makes known
abbrev pub shelf_told_of : Told → Book
shelf_told_of told = told.list.known.book

-- the list is as it was, or has this publish at its end
abbrev pub IsKeptOrHas : List Publish → ℕ → List (List ℕ × List ℕ) → List Publish → Type 0
IsKeptOrHas before version entries after = (after ≡ before) ⊎ (after ≡ then_published before version entries)

module _ {R : Type 0} where
  -- what was published, and what was taken up though the call failed, in order
  abbrev pub published_by : Keeper R → List Publish
  published_by keeper = keeper.list.known.log

  -- the list of which readers find what names have, if they enter before the keeper's next call
  abbrev pub shown_by : Keeper R → List Publish
  shown_by keeper = publishes_of keeper.writer.desk.shown.value.contents.log.items

  abbrev pub shelf_of : Keeper R → Book
  shelf_of keeper = keeper.list.known.book

  -- a reader of the keeper's shelf that knows what the keeper has published
  abbrev pub IsUpToDate : Reader → Keeper R → Type 0
  IsUpToDate reader keeper = (shelf_read_by reader ≡ shelf_of keeper) × (known_to reader ≡ published_by keeper)
