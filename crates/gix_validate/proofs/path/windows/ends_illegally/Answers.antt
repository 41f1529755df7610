use Rattle.gix_validate.proofs.Common.{arith, common_steps}
use Rattle.gix_validate.proofs.path.windows.ends_illegally.Goals as goal

pub returns-in-Some-eq46 : goal.returns-in-Some-eq46
returns-in-Some-eq46 c = grind (arith, common_steps)

pub returns-in_default : goal.returns-in_default
returns-in_default c = grind (arith, common_steps)
