-- What a line asks for.
use Rattle.std.specs.Prelude.{ℕ, suc, List, [], ◌∷◌, ◌&&◌, ◌==◌, Option, Some, None, map, option_map, option_and_then, codes, bytes_eq, if◌then◌else◌}
use Rattle.std.specs.Str.{is_utf8}
pub use Rattle.filetree.specs.Changes.{Change, put, del, path_of}
use Rattle.serde_json.specs.Data.{Data, null, boolean, number, string, array, object, Items, no_items, item, Members, no_members, member}
use Rattle.serde_json.specs.Read.{read}
use Rattle.serde_json.specs.Find.{get, as_str, as_array}

-- one change of a file, or several that are made together
pub data Edit : Type 0 where
  one : Change → Edit
  batch : List Change → Edit

-- the changes of an edit, in their order
abbrev pub changes_of : Edit → List Change
changes_of (one c) = c ∷ []
changes_of (batch cs) = cs

-- the paths of the files that it changes
abbrev pub paths_of : Edit → List (List ℕ)
paths_of edit = map path_of (changes_of edit)

-- a question about the present files: the build file of a package, the packages of these names, what the module with a
-- label exports, or all packages at and below a directory
pub data Request : Type 0 where
  find : List ℕ → Request
  load : List (List ℕ) → Request
  module_of : List ℕ → Request
  under : List ℕ → Request

pub data Command : Type 0 where
  change : Edit → Command
  ask : Request → Command

-- the JSON of a line (RFC 8259), if it is JSON
abbrev pub data_of : List ℕ → Option Data
data_of line = if is_utf8 line then read line else None

abbrev pub members_count : Members → ℕ
members_count no_members = 0
members_count (member k d ms) = suc (members_count ms)

-- how many members an object has
abbrev pub member_count : Data → ℕ
member_count null = 0
member_count (boolean b) = 0
member_count (number n) = 0
member_count (string s) = 0
member_count (array ds) = 0
member_count (object ms) = members_count ms

-- the text that is the member of that name
abbrev pub text_at : List ℕ → Data → Option (List ℕ)
text_at key d = option_and_then as_str (get key d)

-- the texts of an array, if all its items are texts
abbrev pub texts_of : Items → Option (List (List ℕ))
texts_of no_items = Some []
texts_of (item d ds) = option_and_then (λ s. option_map (λ ss. s ∷ ss) (texts_of ds)) (as_str d)

-- the texts of the array that is the member of that name
abbrev pub texts_at : List ℕ → Data → Option (List (List ℕ))
texts_at key d = option_and_then texts_of (option_and_then as_array (get key d))

-- the changes with these members
abbrev pub put_in : Data → Option Change
put_in d = option_and_then (λ path. option_map (λ text. put path text) (text_at (codes "text") d)) (text_at (codes "path") d)

abbrev pub del_in : Data → Option Change
del_in d = option_map (λ path. del path) (text_at (codes "path") d)

-- the change of that name, if the object has exactly the members of its form
abbrev pub change_named : List ℕ → Data → Option Change
change_named op d =
    if bytes_eq op (codes "put") && member_count d == 3 then put_in d else
    if bytes_eq op (codes "del") && member_count d == 2 then del_in d else None

abbrev pub change_in : Data → Option Change
change_in d = option_and_then (λ op. change_named op d) (text_at (codes "op") d)

-- the changes of an array, if all its items are changes
abbrev pub changes_in : Items → Option (List Change)
changes_in no_items = Some []
changes_in (item d ds) = option_and_then (λ c. option_map (λ cs. c ∷ cs) (changes_in ds)) (change_in d)

-- the commands with these members
abbrev pub one_change : Change → Command
one_change c = change (one c)

abbrev pub edits_in : Data → Option Command
edits_in d = option_map (λ cs. change (batch cs)) (option_and_then changes_in (option_and_then as_array (get (codes "edits") d)))

abbrev pub find_in : Data → Option Command
find_in d = option_map (λ name. ask (find name)) (text_at (codes "name") d)

abbrev pub load_in : Data → Option Command
load_in d = option_map (λ names. ask (load names)) (texts_at (codes "names") d)

abbrev pub module_in : Data → Option Command
module_in d = option_map (λ label. ask (module_of label)) (text_at (codes "label") d)

abbrev pub under_in : Data → Option Command
under_in d = option_map (λ directory. ask (under directory)) (text_at (codes "dir") d)

-- the command of that name, if the object has exactly the members of its form
abbrev pub command_named : List ℕ → Data → Option Command
command_named op d =
    if bytes_eq op (codes "put") && member_count d == 3 then option_map one_change (put_in d) else
    if bytes_eq op (codes "del") && member_count d == 2 then option_map one_change (del_in d) else
    if bytes_eq op (codes "edit") && member_count d == 2 then edits_in d else
    if bytes_eq op (codes "find") && member_count d == 2 then find_in d else
    if bytes_eq op (codes "load") && member_count d == 2 then load_in d else
    if bytes_eq op (codes "module") && member_count d == 2 then module_in d else
    if bytes_eq op (codes "under") && member_count d == 2 then under_in d else None

abbrev pub command_of : Data → Option Command
command_of d = option_and_then (λ op. command_named op d) (text_at (codes "op") d)
