use Rattle.std.proofs.Common.{◌∙◌, sym, length}
use Rattle.functions_directories.proofs.GlobCounts.{count_here, count_below}
use Rattle.functions_directories.proofs.glob_node.awaits_globs.Goals as goal

pub returns-then-continues_here : goal.returns-then-continues_here
returns-then-continues_here c = count_here (length c.args.answers.now) c.args.search.directory.now c.args.search.directories c.args.search.pattern.now c.args.names.now (sym c.continues_here.ensures ∙ c.if-continues_here.true)

pub returns-else-continues_here : goal.returns-else-continues_here
returns-else-continues_here c = count_below (length c.args.answers.now) c.args.search.directory.now c.args.search.directories c.args.search.pattern.now c.args.names.now (sym c.continues_here.ensures ∙ c.if-continues_here.false)
