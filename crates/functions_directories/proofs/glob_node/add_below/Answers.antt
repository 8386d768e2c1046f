use Rattle.std.proofs.Common.{◌++◌, ◌∷◌, ℕ, List, map, ◌∙◌, ap}
use Rattle.functions_directories.specs.Globs.{paths_of}
use Rattle.functions_directories.proofs.GlobSteps.{found_one}
use Rattle.functions_directories.proofs.glob_node.add_below.Goals as goal

pub loop-i-preserved : goal.loop-i-preserved
loop-i-preserved c =
    found_one c.args.names.now c.args.answers.now c.loop-i.i c.index-names-i.result c.index-answers-i.result c.loop-i-test.true c.if-i-answers.false c.index-names-i.is c.index-answers-i.is
    c.loop-i.all.items c.add_under.new.all.items _
    (c.in_ok-add_under.ensures ∙ ap (λ (ps : List (List ℕ)). c.loop-i.all.items ++ map (λ path. c.index-names-i.result ++ 47 ∷ path) ps) (c.paths_of.ensures ∙ ap paths_of c.deref.ensures))
    c.loop-i.invariant
