use Rattle.gix_validate.proofs.Common.{arith, common_steps}
use Rattle.gix_validate.proofs.Components.ShortNames.{hashed_name}
use Rattle.gix_validate.proofs.path.ntfs.has_hash_of.Goals as goal

pub returns-then-eq_ignore_ascii_case : goal.returns-then-eq_ignore_ascii_case
returns-then-eq_ignore_ascii_case c = grind (arith, common_steps, hashed_name)

pub returns-else-eq_ignore_ascii_case : goal.returns-else-eq_ignore_ascii_case
returns-else-eq_ignore_ascii_case c = grind (arith, common_steps, hashed_name)
