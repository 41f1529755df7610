use Rattle.gix_validate.proofs.Common.{arith, common_steps}
use Rattle.gix_validate.specs.Hfs.{hfs_form}
use Rattle.gix_validate.proofs.path.hfs.after_ignored.Goals as goal

pub returns-in-len3-up : goal.returns-in-len3-up
unfolding hfs_form
returns-in-len3-up c = grind (arith, common_steps)

pub returns-in_default : goal.returns-in_default
unfolding hfs_form
returns-in_default c = grind (arith, common_steps)
