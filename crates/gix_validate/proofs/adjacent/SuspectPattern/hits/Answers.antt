use Rattle.gix_validate.proofs.Common.{arith, bit_at-zero}
use Rattle.gix_validate.proofs.Blocks.Lanes.{none_nonzero, suspect_lane}
use Rattle.gix_validate.proofs.adjacent.SuspectPattern.hits.Goals as goal

pub returns-then-suspect-eq0-clause-lanes : goal.returns-then-suspect-eq0-clause-lanes
returns-then-suspect-eq0-clause-lanes c k within = grind (arith, suspect_lane, bit_at-zero, none_nonzero)

pub returns-clause-lanes : goal.returns-clause-lanes
returns-clause-lanes c k within = grind (arith, suspect_lane, c.nonzero_lanes.ensures.lanes k)
