use Rattle.std.proofs.Common.{map, ap}
use Rattle.std.specs.Prelude.{zip}
use Rattle.evaluator_semantics.specs.Environment.{Answers}
use Rattle.evaluator_semantics.specs.Laws.{with_answers}
use Rattle.evaluator.specs.Machines.{env_of}
use Rattle.evaluator.specs.Files.{shared_texts}
use Rattle.evaluator.proofs.FileEvaluation.{stands_on}
use Rattle.evaluator.proofs.running.resume.Goals as goal

pub go_on-requires-clause-stands : goal.go_on-requires-clause-stands
go_on-requires-clause-stands c =
    let p = c.into_parts-parts.result.0 in
    let e = p.environment in
    let extra = zip c.as_slice.result.now (map shared_texts c.as_slice-2.result.now) in
    stands_on e p.machine p.control (record e { «package» = record e.package { answers = c.add_answers.new.answers } }) extra (ap (λ (g : Answers). with_answers g (env_of e)) c.in_ok-add_answers.ensures) c.into_parts-parts.ensures.stands
