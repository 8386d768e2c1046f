use Rattle.std.proofs.Common.{◌∙◌, ap, sym}
use Rattle.functions_directories.specs.Ends.{end_of}
use Rattle.functions_directories.proofs.NameEnds.{end_or_whole}
use Rattle.functions_directories.proofs.name_ends.end_of.Goals as goal

pub loop-first-init : goal.loop-first-init
loop-first-init c = ap end_of (sym c.as_bytes-end.ensures.value) ∙ end_or_whole c.as_bytes-end.result.now
