use Rattle.gix_validate.proofs.Common.{arith, common_steps}
use Rattle.gix_validate.proofs.Components.NtfsForm.{git_by_first}
use Rattle.gix_validate.specs.Bytes.{lower_byte}
use Rattle.gix_validate.proofs.path.ntfs.is_git.Goals as goal

pub returns-in-46 : goal.returns-in-46
unfolding lower_byte
returns-in-46 c = grind (arith, common_steps, git_by_first)

pub returns-in-103 : goal.returns-in-103
unfolding lower_byte
returns-in-103 c = grind (arith, common_steps, git_by_first)

pub returns-in_default : goal.returns-in_default
unfolding lower_byte
returns-in_default c = grind (arith, common_steps, git_by_first)
