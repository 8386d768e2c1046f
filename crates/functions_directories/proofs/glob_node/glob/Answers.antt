use Rattle.std.proofs.Common.{ap, subst, IfOk}
use Rattle.functions_directories.specs.Replies.{IsReply}
use Rattle.functions_directories.specs.Globs.{files_in, directories_in, asked_names}
use Rattle.functions_directories.proofs.GlobSteps.{after_listing_is}
use Rattle.functions_directories.proofs.glob_node.glob.Goals as goal

pub returns-in-Some : goal.returns-in-Some
returns-in-Some c =
    let search = c.args.search in
    subst (λ r. IfOk c.by_listing.result (IsReply r))
    (after_listing_is search.directory.now search.directories search.pattern.now _ _ c.args.answers.now c.in-Some.answers.now c.in-Some.listing.now
    (ap files_in c.deref.ensures) (ap (λ v. asked_names search.directories search.pattern.now (directories_in v)) c.deref.ensures) c.in-Some.ensures.cases.0)
    c.by_listing.ensures
