use Rattle.std.proofs.Common.{◌∙◌, subst, IfOk}
use Rattle.functions_directories.specs.Replies.{IsReply}
use Rattle.functions_directories.proofs.GlobSteps.{by_open_is}
use Rattle.functions_directories.proofs.glob_node.after_listing.Goals as goal

pub returns : goal.returns
returns c =
    let search = c.args.search in
    subst (λ r. IfOk c.by_open.result (IsReply r))
    (by_open_is search.directory.now search.directories search.pattern.now c.args.files.now c.args.names.now _ c.args.answers.now c.if-answers-names.false (c.as_slice.ensures.value ∙ c.in_ok-free.ensures))
    c.by_open.ensures
