use Rattle.std.proofs.Common.{arith}
use Rattle.std.proofs.lemmas.Grind.{common_steps}
use Rattle.git_check_names.proofs.report.push_details.Goals as goal

pub returns-in_ok-write : goal.returns-in_ok-write
returns-in_ok-write c = grind (arith, common_steps)
