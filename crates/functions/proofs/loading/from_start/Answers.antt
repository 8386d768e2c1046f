use Rattle.std.proofs.Common.{sym, subst}
use Rattle.keys.specs.Turns.{values}
use Rattle.functions_directories.specs.Globs.{step}
use Rattle.functions_directories.specs.Replies.{IsReply}
use Rattle.functions.specs.Next.{next}
use Rattle.functions.proofs.loading.from_start.Goals as goal

pub returns-in_ok-lookup-in-Lookup : goal.returns-in_ok-lookup-in-Lookup
returns-in_ok-lookup-in-Lookup c =
    let answers = values c.args.answers.now in
    c.without_state.ensures (next c.args.key.now) answers (subst (λ k. IsReply (next k answers) c.in_ok-lookup-in-Lookup.field-0) (sym c.in-Lookup.is) c.in_ok-lookup-in-Lookup.ensures)

pub returns-in_ok-glob-in-Glob : goal.returns-in_ok-glob-in-Glob
returns-in_ok-glob-in-Glob c =
    let answers = values c.args.answers.now in
    let reply = c.in_ok-glob-in-Glob.field-0 in
    let wide = c.in-Glob.directories in
    let by_directory = subst (λ d. IsReply (step d wide c.as_str-in-Glob.result.now answers) reply) c.as_str.ensures c.in_ok-glob-in-Glob.ensures in
    let by_pattern = subst (λ p. IsReply (step c.in-Glob.directory wide p answers) reply) c.as_str-in-Glob.ensures by_directory in
    c.without_state-in-Glob.ensures (next c.args.key.now) answers (subst (λ k. IsReply (next k answers) reply) (sym c.in-Glob.is) by_pattern)

pub returns-in_ok-package_names-in-Under : goal.returns-in_ok-package_names-in-Under
returns-in_ok-package_names-in-Under c =
    let answers = values c.args.answers.now in
    c.without_state-in-Under.ensures (next c.args.key.now) answers (subst (λ k. IsReply (next k answers) c.in_ok-package_names-in-Under.field-0) (sym c.in-Under.is) c.in_ok-package_names-in-Under.ensures)
