use Rattle.gix_validate.proofs.Common.{arith}
use Rattle.gix_validate.proofs.Components.Devices.{device_left, device_all_left}
use Rattle.gix_validate.proofs.path.windows.ends_device_form.Goals as goal

pub returns-in_default : goal.returns-in_default
returns-in_default c = grind (arith, device_left, device_all_left)

pub returns-in-46 : goal.returns-in-46
returns-in-46 c = grind (arith, device_left, device_all_left)

pub loop-byte-preserved : goal.loop-byte-preserved
loop-byte-preserved c = grind (arith, device_left, device_all_left)

pub returns : goal.returns
returns c = grind (arith, device_left, device_all_left)
