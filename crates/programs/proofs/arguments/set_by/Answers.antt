use Rattle.std.proofs.Common.{arith}
use Rattle.std.proofs.lemmas.Grind.{common_steps}
use Rattle.programs.proofs.arguments.set_by.Goals as goal

pub returns-in-Unknown : goal.returns-in-Unknown
returns-in-Unknown g c = grind (arith, common_steps)

pub returns-in-Set : goal.returns-in-Set
returns-in-Set g c = grind (arith, common_steps)

pub returns-in-NeedsValue : goal.returns-in-NeedsValue
returns-in-NeedsValue g c = grind (arith, common_steps)

pub returns-in-Invalid : goal.returns-in-Invalid
returns-in-Invalid g c = grind (arith, common_steps)
