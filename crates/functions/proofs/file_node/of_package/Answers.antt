use Rattle.std.proofs.Common.{sym, ◌∙◌, ap}
use Rattle.keys.specs.declared.value.Value.TheVariants as value
use Rattle.keys.specs.declared.value.Fault.{Fault}
use Rattle.engine_semantics.specs.Reply.{Done}
use Rattle.functions.specs.Packages.{build_in}
use Rattle.functions.proofs.FileTurns.{no_package}
use Rattle.functions.proofs.file_node.of_package.Goals as goal

pub returns-in_ok-fault_at-in-None-build_in : goal.returns-in_ok-fault_at-in-None-build_in
returns-in_ok-fault_at-in-None-build_in c =
    no_package c.args.name.now c.args.answers.now c.in-Some.answers.now c.in-Some.look.now c.in-Some.ensures.cases.0 (sym (c.build_in.ensures ∙ ap build_in c.deref.ensures) ∙ c.in-None-build_in.is)
    ∙ ap (λ (f : Fault). Done (value.Fault f)) (sym c.in_ok-fault_at-in-None-build_in.ensures)
