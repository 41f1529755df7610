use Rattle.gix_validate.proofs.Common.{arith}
use Rattle.gix_validate.proofs.Components.Devices.{special_bits, bits}
use Rattle.gix_validate.specs.Bytes.{lower_byte}
use Rattle.gix_validate.proofs.path.windows.may_be_special.Goals as goal

pub returns-then-name-lt3 : goal.returns-then-name-lt3
unfolding bits lower_byte
returns-then-name-lt3 c = grind (arith, special_bits)

pub returns-then-name-eq4 : goal.returns-then-name-eq4
unfolding bits lower_byte
returns-then-name-eq4 c = grind (arith, special_bits)

pub returns-else-name-eq4 : goal.returns-else-name-eq4
unfolding bits lower_byte
returns-else-name-eq4 c = grind (arith, special_bits)

pub returns-else-words-ne0 : goal.returns-else-words-ne0
unfolding bits lower_byte
returns-else-words-ne0 c = grind (arith, special_bits)
