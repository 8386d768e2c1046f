use Rattle.values_modules.proofs.TargetTexts as texts
use Rattle.values_modules.proofs.targets.blocks_tell_targets.Goals as goal

pub returns : goal.returns
returns c = texts.blocks_tell_targets
