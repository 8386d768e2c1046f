use Rattle.std.proofs.Common.{subst, ◌∙◌}
use Rattle.evaluator.specs.declared.machine.Environment.{Environment}
use Rattle.evaluator.specs.Files.{HasTables}
use Rattle.evaluator.specs.Machines.{Leads, means}
use Rattle.evaluator.proofs.turning.go.Goals as goal

pub returns-clause-leads : goal.returns-clause-leads
returns-clause-leads c = subst (λ (s : Environment). Leads s (λ env. means env c.args.m.now c.args.control) c.stretches-progress.result c.stretches-progress.new.m) c.new-setting.ensures c.stretches-progress.ensures.leads

pub returns-clause-tables : goal.returns-clause-tables
returns-clause-tables c = subst (λ (s : Environment). HasTables s c.into_tables.result) (c.stretches-progress.ensures.given ∙ c.new-setting.ensures) c.into_tables.ensures
