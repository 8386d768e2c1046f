use Rattle.std.proofs.Common.{sym}
use Rattle.evaluator_package_calls.proofs.AsciiTexts.{no_path}
use Rattle.evaluator_package_calls.proofs.spelling.is_path.Goals as goal

pub returns-in-Err : goal.returns-in-Err
returns-in-Err c = sym (no_path c.args.bytes.now c.in-Err.ensures.cases.0)
