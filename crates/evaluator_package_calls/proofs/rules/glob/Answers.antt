use Rattle.std.proofs.Common.{ap, sym, ◌∙◌, ◌==◌, Ok, map}
use Rattle.pattern.specs.Globs.{question}
use Rattle.evaluator_semantics.specs.Sorting.{in_order}
use Rattle.evaluator_package_calls.specs.GlobResults.{kept_of, found_all}
use Rattle.values_heap.specs.View.{store_of}
use Rattle.evaluator_semantics.specs.Globs.{makes_paths}
use Rattle.evaluator_package_calls.specs.GlobCalls.{asked_of}
use Rattle.evaluator_package_calls.proofs.Asking.{reads_not, asks, gives_paths, gives_none, makes_paths_down, fewer}
use Rattle.evaluator_package_calls.proofs.rules.glob.Goals as goal

pub returns-in-Err-clause-says : goal.returns-in-Err-clause-says
returns-in-Err-clause-says c = λ here w e. reads_not c.args.answers.now c.args.xs.now c.args.ns.now here w (store_of c.args.heap.now) e c.in-Err.halt _ c.in-Err.ensures

pub returns-then-not-is_empty-clause-says : goal.returns-then-not-is_empty-clause-says
returns-then-not-is_empty-clause-says c = λ here w e.
    let v = c.in_ok-open.open in
    asks c.args.answers.now c.args.xs.now c.args.ns.now here w (store_of c.args.heap.now) e (asked_of c.in-Ok.asked) c.in-Ok.ensures v.items c.as_slice-2.result.now c.in_ok-open.ensures (c.as_slice-2.ensures.value ∙ c.in_ok-questions.ensures ∙ ap (map (question c.in-Ok.asked.directories)) c.as_slice.ensures.value)
    (ap (λ n. n == 0) (sym v.ok.0) ∙ sym c.is_empty.ensures ∙ c.if-not-is_empty.true)

pub returns-in-Ok-make_paths-clause-says : goal.returns-in-Ok-make_paths-clause-says
returns-in-Ok-make_paths-clause-says c = λ here w e.
    let v = c.in_ok-open.open in
    gives_paths c.args.answers.now c.args.xs.now c.args.ns.now here w (store_of c.args.heap.now) e (asked_of c.in-Ok.asked) c.in-Ok.ensures v.items c.as_slice-2.result.now c.in_ok-open.ensures (c.as_slice-2.ensures.value ∙ c.in_ok-questions.ensures ∙ ap (map (question c.in-Ok.asked.directories)) c.as_slice.ensures.value)
    (ap (λ n. n == 0) (sym v.ok.0) ∙ sym c.is_empty.ensures ∙ c.if-not-is_empty.false)
    c.as_slice-5.result.now (c.as_slice-5.ensures.value ∙ c.in_ok-paths.ensures ∙ (λ i. in_order (λ path. path) (kept_of (c.as_slice-4.ensures.value i) (found_all c.args.answers.now ((c.as_slice-3.ensures.value ∙ c.in_ok-questions.ensures ∙ ap (map (question c.in-Ok.asked.directories)) c.as_slice.ensures.value) i))))) c.in-Ok-make_paths.made (store_of c.make_paths.new.heap) c.in-Ok-make_paths.ensures

pub returns-in-Ok-make_paths-clause-steps : goal.returns-in-Ok-make_paths-clause-steps
returns-in-Ok-make_paths-clause-steps c = fewer (makes_paths c.in-Ok.asked.allow_empty c.as_slice-5.result.now) (store_of c.args.heap.now) (store_of c.make_paths.new.heap) (Ok c.in-Ok-make_paths.made) (makes_paths_down c.in-Ok.asked.allow_empty c.as_slice-5.result.now) c.in-Ok-make_paths.ensures

pub returns-clause-says : goal.returns-clause-says
returns-clause-says c = λ here w e.
    let v = c.in_ok-open.open in
    gives_none c.args.answers.now c.args.xs.now c.args.ns.now here w (store_of c.args.heap.now) e (asked_of c.in-Ok.asked) c.in-Ok.ensures v.items c.as_slice-2.result.now c.in_ok-open.ensures (c.as_slice-2.ensures.value ∙ c.in_ok-questions.ensures ∙ ap (map (question c.in-Ok.asked.directories)) c.as_slice.ensures.value)
    (ap (λ n. n == 0) (sym v.ok.0) ∙ sym c.is_empty.ensures ∙ c.if-not-is_empty.false)
    c.as_slice-5.result.now (c.as_slice-5.ensures.value ∙ c.in_ok-paths.ensures ∙ (λ i. in_order (λ path. path) (kept_of (c.as_slice-4.ensures.value i) (found_all c.args.answers.now ((c.as_slice-3.ensures.value ∙ c.in_ok-questions.ensures ∙ ap (map (question c.in-Ok.asked.directories)) c.as_slice.ensures.value) i))))) c.in-Err-make_paths.halt (store_of c.make_paths.new.heap) _ c.in-Err-make_paths.ensures
