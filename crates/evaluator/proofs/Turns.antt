-- Turns one after another.
use Rattle.std.proofs.Common.{◌≡◌, Result, Ok, Err, refl, ◌∙◌}
use Rattle.evaluator_semantics.specs.World.{Ends}
use Rattle.evaluator_semantics.specs.Environment.{Env}
use Rattle.evaluator_semantics.specs.Laws.{KnowsMore}
use Rattle.evaluator_frames.specs.declared.frame.Control.{Control}
use Rattle.evaluator_frames.specs.Frames.{Sig}
use Rattle.evaluator.specs.declared.machine.Environment.{Environment}
use Rattle.evaluator.specs.declared.machine.Machine.{Machine}
use Rattle.evaluator.specs.declared.machine.Stop.{Stop}
use Rattle.evaluator.specs.declared.machine.Stop.TheVariants as s
use Rattle.evaluator.specs.declared.machine.Progress.{Progress}
use Rattle.evaluator.specs.declared.machine.Progress.TheVariants as t
use Rattle.evaluator.specs.Machines.{env_of, Under, Leads, StepsFall, IsOver}

-- what is known of a glob is known
pub knows_own : (e : Environment) → KnowsMore (env_of e).globs (env_of e).globs
knows_own e = λ p paths found. found

-- what leads on from a machine that means the same
pub leads_on : (e : Environment) (before next : Env → Ends Sig) (turned : Progress) (m : Machine) → Under e (λ env. before env ≡ next env) → Leads e next (Ok turned) m → Leads e before (Ok turned) m
leads_on e before next (t.Goes control) m same leads = λ more knows. same more knows ∙ leads more knows
leads_on e before next (t.Ended sig) m same leads = λ more knows. same more knows ∙ leads more knows
leads_on e before next (t.Waits control patterns) m same leads = (same (env_of e).globs (knows_own e) ∙ leads.0, λ more knows. same more knows ∙ leads.1 more knows)

-- the same of what may have stopped
pub leads_after : (e : Environment) (before next : Env → Ends Sig) (r : Result Progress Stop) (m : Machine) → Under e (λ env. before env ≡ next env) → Leads e next r m → Leads e before r m
leads_after e before next (Ok turned) m same leads = leads_on e before next turned m same leads
leads_after e before next (Err (s.Fault code path line)) m same leads = λ more knows. same more knows ∙ leads more knows
leads_after e before next (Err (s.Memory _)) m same leads = tt

pub none_left : (turned : Progress) → ((control : Control) → turned ≡ t.Goes control → ⊥) → IsOver turned
none_left (t.Goes control) h = absurd (h control refl)
none_left (t.Ended sig) h = tt
none_left (t.Waits control patterns) h = tt

pub no_turn : (before after : Machine) (turned : Progress) → ((control : Control) → turned ≡ t.Goes control → ⊥) → StepsFall before after turned
no_turn before after (t.Goes control) h = absurd (h control refl)
no_turn before after (t.Ended sig) h = tt
no_turn before after (t.Waits control patterns) h = tt
