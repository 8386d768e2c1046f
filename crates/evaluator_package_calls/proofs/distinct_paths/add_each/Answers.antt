use Rattle.std.proofs.Common.{sym, ap, ◌∙◌, ◌++◌, arith}
use Rattle.pattern_tables.specs.Excluding.{is_excluded}
use Rattle.evaluator_semantics.specs.Names.{has_name}
use Rattle.evaluator_package_calls.specs.GlobResults.{kept_unless}
use Rattle.evaluator_package_calls.proofs.SameTexts.{all_passed, kept_once, path_added, path_passed}
use Rattle.evaluator_package_calls.proofs.distinct_paths.add_each.Goals as goal

pub adding-preserved-then-some_matches : goal.adding-preserved-then-some_matches
adding-preserved-then-some_matches c =
    let test = is_excluded c.args.excludes.now in
    path_passed test c.args.paths.now c.adding.path-index c.path-item.result c.adding.found.all.items (c.args.found.now.all.items ++ kept_unless test c.args.paths.now) c.adding-test.true c.path-item.is (sym c.if-some_matches.ensures) c.adding.invariant

pub adding-preserved : goal.adding-preserved
adding-preserved c =
    let test = is_excluded c.args.excludes.now in
    path_added test c.args.paths.now c.adding.path-index c.path-item.result c.adding.found.all.items c.add.new.self.all.items (c.args.found.now.all.items ++ kept_unless test c.args.paths.now) c.adding-test.true c.path-item.is (sym c.if-some_matches.ensures)
    (λ x. ap (has_name x) c.in_ok-add.ensures ∙ kept_once c.path-item.result c.adding.found.all.items x)
    c.adding.invariant

pub returns : goal.returns
returns c =
    let test = is_excluded c.args.excludes.now in
    all_passed test c.args.paths.now c.adding.path-index c.adding.found.all.items (c.args.found.now.all.items ++ kept_unless test c.args.paths.now) (omega (arith, c.adding-test.false)) c.adding.invariant
