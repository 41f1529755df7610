use Rattle.gix_validate.proofs.Common.{arith}
use Rattle.gix_validate.proofs.Components.ShortNames.{modules_by_first}
use Rattle.gix_validate.specs.Bytes.{lower_byte}
use Rattle.gix_validate.proofs.path.ntfs.is_modules.Goals as goal

pub returns-in-46 : goal.returns-in-46
unfolding lower_byte
returns-in-46 c = grind (arith, modules_by_first)

pub returns-in_default-split_at_checked : goal.returns-in_default-split_at_checked
unfolding lower_byte
returns-in_default-split_at_checked c = grind (arith, modules_by_first)

pub returns-then-is_modules_short_name : goal.returns-then-is_modules_short_name
unfolding lower_byte
returns-then-is_modules_short_name c = grind (arith, modules_by_first)

pub returns-else-is_modules_short_name : goal.returns-else-is_modules_short_name
unfolding lower_byte
returns-else-is_modules_short_name c = grind (arith, modules_by_first)
