use Rattle.gix_validate.proofs.Common.{arith, common_steps}
use Rattle.git_names.proofs.messages.InPieceDisplay.fmt.Goals as goal

pub loop-byte-preserved : goal.loop-byte-preserved
loop-byte-preserved g c = grind (arith, common_steps)

pub returns-clause-writes : goal.returns-clause-writes
returns-clause-writes g c = grind (arith, common_steps)
