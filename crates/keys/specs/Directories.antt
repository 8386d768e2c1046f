-- What a contract sees of the names in a directory.
use Rattle.std.specs.Prelude.{ℕ, List}

-- the names of its files, and of its subdirectories
pub record DirectoryView : Type 0 where
  pub files : List (List ℕ)
  pub directories : List (List ℕ)
