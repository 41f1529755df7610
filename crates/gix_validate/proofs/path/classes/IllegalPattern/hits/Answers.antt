use Rattle.gix_validate.proofs.Blocks.ByteClasses.{mask_lane}
use Rattle.gix_validate.proofs.Common.{arith, nat_tests}
use Rattle.gix_validate.proofs.path.classes.IllegalPattern.hits.Goals as goal

pub returns-clause-lanes : goal.returns-clause-lanes
returns-clause-lanes c k small = grind (arith, nat_tests, mask_lane)
