use Rattle.std.proofs.Common.{arith}
use Rattle.std.proofs.lemmas.Grind.{common_steps}
use Rattle.git_check_names.proofs.report.push_unrepaired.Goals as goal

pub returns : goal.returns
returns c = grind (arith, common_steps)
