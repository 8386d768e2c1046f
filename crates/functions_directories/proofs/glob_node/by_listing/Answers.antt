use Rattle.std.proofs.Common.{◌∙◌, ap, sym, subst, ℕ, List, IfOk}
use Rattle.std.proofs.lemmas.Bool.{and_parts}
use Rattle.keys.specs.Ascending.{ascend}
use Rattle.keys.specs.Turns.{values}
use Rattle.functions_directories.specs.Replies.{IsReply}
use Rattle.functions_directories.specs.Globs.{files_in, directories_in, asked_names, after_listing}
use Rattle.functions_directories.proofs.GlobSteps.{own_alone}
use Rattle.functions_directories.proofs.glob_node.by_listing.Goals as goal

pub possible_names-directories-requires : goal.possible_names-directories-requires
possible_names-directories-requires c = λ yes.
    let listing = c.args.listing.now in
    ap ascend c.directories_in.ensures ∙ (and_parts (ascend (files_in listing)) (ascend (directories_in listing)) (sym c.are_in_order-ordered.ensures ∙ yes)).1

pub possible_files-files-requires-clause-ordered : goal.possible_files-files-requires-clause-ordered
possible_files-files-requires-clause-ordered c = λ yes.
    let listing = c.args.listing.now in
    (and_parts (ascend (files_in listing)) (ascend (directories_in listing)) (sym c.are_in_order-ordered.ensures ∙ yes)).0

pub returns : goal.returns
returns c =
    let search = c.args.search in
    let files = files_in c.args.listing.now in
    let answers = values c.args.answers.now in
    subst (λ r. IfOk c.after_listing.result (IsReply r))
    (own_alone search.directory.now search.directories search.pattern.now c.possible_files-files.result.now files c.as_slice.result.now answers
    c.possible_files-files.ensures
    ∙ ap (λ (names : List (List ℕ)). after_listing search.directory.now search.directories search.pattern.now files names answers)
    (c.as_slice.ensures.value ∙ c.in_ok-names.ensures ∙ c.possible_names-directories.ensures.asked search.directories
    ∙ ap (asked_names search.directories search.pattern.now) c.directories_in.ensures))
    c.after_listing.ensures
