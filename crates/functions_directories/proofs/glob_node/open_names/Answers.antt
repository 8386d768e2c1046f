use Rattle.std.proofs.Common.{◌∷◌, ◌++◌, [], ℕ, List, ◌∙◌, ap, sym}
use Rattle.functions_directories.specs.Globs.{has_build}
use Rattle.functions_directories.proofs.GlobSteps.{passed_by, kept_one}
use Rattle.functions_directories.proofs.glob_node.open_names.Goals as goal
use Rattle.functions_directories.proofs.glob_node.open_names.Goals.{then-not-has_build+in_ok-share+in_ok-push, else-not-has_build}

pub loop-i-preserved : goal.loop-i-preserved
loop-i-preserved c =
    elim c.if-not-has_build.branch [
      | then-not-has_build+in_ok-share+in_ok-push w ↦ kept_one c.args.names.now c.args.answers.now c.loop-i.i c.index-names-i.result c.index-answers-i.result c.loop-i-test.true c.if-i-answers.false c.index-names-i.is c.index-answers-i.is
          c.loop-i.all.items c.if-not-has_build.all.items _ (ap has_build (sym c.deref.ensures) ∙ sym c.has_build.ensures ∙ w.if-not-has_build.true)
          (ap (λ v. v.items) w.all-is ∙ w.in_ok-push.ensures.items ∙ ap (λ (x : List ℕ). c.loop-i.all.items ++ x ∷ []) w.in_ok-share.ensures) c.loop-i.invariant
      | else-not-has_build w ↦ passed_by c.args.names.now c.args.answers.now c.loop-i.i c.index-names-i.result c.index-answers-i.result c.loop-i-test.true c.if-i-answers.false c.index-names-i.is c.index-answers-i.is
          c.loop-i.all.items c.if-not-has_build.all.items _ (ap has_build (sym c.deref.ensures) ∙ sym c.has_build.ensures ∙ w.if-not-has_build.false)
          (ap (λ v. v.items) w.all-is) c.loop-i.invariant
    ]
