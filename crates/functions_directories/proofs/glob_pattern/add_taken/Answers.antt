use Rattle.std.proofs.Common.{◌++◌, ◌∙◌, ap, sym, append-nil}
use Rattle.functions_directories.specs.Globs.{ends_here}
use Rattle.functions_directories.proofs.NameEnds.{none_taken}
use Rattle.functions_directories.proofs.glob_pattern.add_taken.Goals as goal

pub returns-then-not-ends_here : goal.returns-then-not-ends_here
returns-then-not-ends_here c =
    let none = none_taken c.args.pattern.now c.args.names.now (ap ends_here (sym c.split_pattern.ensures.others) ∙ sym c.ends_here.ensures ∙ c.if-not-ends_here.true) in
    sym (ap (λ l. c.args.all.now.items ++ l) none ∙ append-nil c.args.all.now.items)
