use Rattle.std.proofs.Common.{arith}
use Rattle.std.proofs.lemmas.Grind.{common_steps}
use Rattle.programs.proofs.command.execute.Goals as goal

pub returns-in-Ok-Help : goal.returns-in-Ok-Help
returns-in-Ok-Help g c = grind (arith, common_steps)

pub returns-in-Ok-Version : goal.returns-in-Ok-Version
returns-in-Ok-Version g c = grind (arith, common_steps)

pub returns-in-Err : goal.returns-in-Err
returns-in-Err g c = grind (arith, common_steps)

pub returns-else-is_closed : goal.returns-else-is_closed
returns-else-is_closed g c = grind (arith, common_steps)
