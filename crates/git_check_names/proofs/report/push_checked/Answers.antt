use Rattle.std.proofs.Common.{arith}
use Rattle.std.proofs.lemmas.Grind.{common_steps}
use Rattle.git_check_names.proofs.report.push_checked.Goals as goal

pub returns-clause-lines : goal.returns-clause-lines
returns-clause-lines c = grind (arith, common_steps)

pub returns-clause-refused : goal.returns-clause-refused
returns-clause-refused c = grind (arith, common_steps)
