use Rattle.gix_validate.proofs.Common.{arith}
use Rattle.gix_validate.proofs.Components.HfsForm.{word_steps}
use Rattle.gix_validate.proofs.path.hfs.reads_as.Goals as goal

pub returns-in_default : goal.returns-in_default
returns-in_default c = grind (arith, word_steps)

pub loop-wanted-preserved : goal.loop-wanted-preserved
loop-wanted-preserved c = grind (arith, word_steps)

pub returns : goal.returns
returns c = grind (arith, word_steps)
