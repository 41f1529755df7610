use Rattle.gix_validate.proofs.Common.{arith}
use Rattle.gix_validate.proofs.Components.ShortNames.{eight_is_short}
use Rattle.gix_validate.specs.Bytes.{lower_byte}
use Rattle.gix_validate.proofs.path.ntfs.is_modules_short_name.Goals as goal

pub returns-then-eq_ignore_ascii_case-4 : goal.returns-then-eq_ignore_ascii_case-4
unfolding lower_byte
returns-then-eq_ignore_ascii_case-4 c = grind (arith, eight_is_short)

pub returns-else-eq_ignore_ascii_case-4 : goal.returns-else-eq_ignore_ascii_case-4
unfolding lower_byte
returns-else-eq_ignore_ascii_case-4 c = grind (arith, eight_is_short)
