use Rattle.gix_validate.proofs.Common.{arith, common_steps}
use Rattle.gix_validate.proofs.Components.FirstUnit.{fits_past}
use Rattle.gix_validate.proofs.path.units.fitting_len.Goals as goal

pub returns-in_default-3 : goal.returns-in_default-3
returns-in_default-3 c = grind (arith, fits_past)

pub returns-in_default : goal.returns-in_default
returns-in_default c = grind (arith, common_steps)

pub returns-in_default-2 : goal.returns-in_default-2
returns-in_default-2 c = grind (arith, common_steps)

pub loop-offset-preserved : goal.loop-offset-preserved
loop-offset-preserved c = grind (arith, common_steps)
