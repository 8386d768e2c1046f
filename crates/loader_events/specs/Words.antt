-- The words of commands, as lines give them in their member `op`.
use Rattle.std.specs.Prelude.{ℕ, List, codes}
use Rattle.loader_commands.specs.Commands.{Edit, one, batch, put, del, Request, find, load, module_of, under}

abbrev pub edit_word : Edit → List ℕ
edit_word (one (put path text)) = codes "put"
edit_word (one (del path)) = codes "del"
edit_word (batch changes) = codes "edit"

abbrev pub request_word : Request → List ℕ
request_word (find name) = codes "find"
request_word (load names) = codes "load"
request_word (module_of label) = codes "module"
request_word (under directory) = codes "under"
