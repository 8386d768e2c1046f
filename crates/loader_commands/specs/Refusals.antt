-- Which requests are refused before anything is evaluated.
use Rattle.filetree.specs.declared.refusals.TheConstants.{BAD_NAME, NAMES_COUNT}
use Rattle.std.specs.Prelude.{ℕ, List, [], length, ◌||◌, ◌==◌, nat_lt, nat_eq, codes, Option, Some, None, if◌then◌else◌}
use Rattle.std.specs.List.{list_all, starts_with}
use Rattle.labels.specs.Labels.{Target, label_of, is_module}
use Rattle.labels.specs.Paths.{is_package_name}
use Rattle.loader_commands.specs.Commands.{Request, find, load, module_of, under}

-- 9 if there are not 1 to 256 names, then 5 for one that is not a package name
abbrev pub load_refusal : List (List ℕ) → Option ℕ
load_refusal names = if length names == 0 || nat_lt 256 (length names) then Some NAMES_COUNT else if list_all is_package_name names then None else Some BAD_NAME

abbrev pub if_module : Option Target → Option Target
if_module None = None
if_module (Some t) = if is_module t then Some t else None

-- the label of a module, from a text that begins with `//`
abbrev pub module_label : List ℕ → Option Target
module_label text = if starts_with nat_eq text (codes "//") then if_module (label_of text []) else None

abbrev pub refusal_without : Option Target → Option ℕ
refusal_without None = Some BAD_NAME
refusal_without (Some t) = None

-- the first refusal of a request
abbrev pub request_refusal : Request → Option ℕ
request_refusal (find name) = if is_package_name name then None else Some BAD_NAME
request_refusal (load names) = load_refusal names
request_refusal (module_of label) = refusal_without (module_label label)
request_refusal (under directory) = if is_package_name directory then None else Some BAD_NAME
