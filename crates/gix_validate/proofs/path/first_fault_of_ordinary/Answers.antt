use Rattle.gix_validate.proofs.Common.{arith}
use Rattle.gix_validate.proofs.Components.OrdinaryNames.{faults_of_ordinary}
use Rattle.gix_validate.specs.Bytes.{lower_byte}
use Rattle.gix_validate.specs.Private.Classes.{has_ordinary_bytes}
use Rattle.gix_validate.proofs.path.first_fault_of_ordinary.Goals as goal

pub returns-then-eq_ignore_ascii_case : goal.returns-then-eq_ignore_ascii_case
unfolding lower_byte has_ordinary_bytes
returns-then-eq_ignore_ascii_case c = grind (arith, faults_of_ordinary)

pub returns-then-eq_ignore_ascii_case-2 : goal.returns-then-eq_ignore_ascii_case-2
unfolding lower_byte has_ordinary_bytes
returns-then-eq_ignore_ascii_case-2 c = grind (arith, faults_of_ordinary)

pub returns-then-is_device_by_letters : goal.returns-then-is_device_by_letters
unfolding lower_byte has_ordinary_bytes
returns-then-is_device_by_letters c = grind (arith, faults_of_ordinary)

pub returns-else-windows : goal.returns-else-windows
unfolding lower_byte has_ordinary_bytes
returns-else-windows c = grind (arith, faults_of_ordinary)
