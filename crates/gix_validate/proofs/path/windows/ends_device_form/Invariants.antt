use Rattle.gix_validate.proofs.Common.{◌≡◌, drop}
use Rattle.gix_validate.specs.Bytes.{is_empty}
use Rattle.gix_validate.specs.Windows.{device_form}
use Rattle.gix_validate.proofs.path.windows.ends_device_form.Given as goal

abbrev pub invariant-loop-byte : goal.invariant-loop-byte
invariant-loop-byte l = is_empty (device_form l.rest) ≡ is_empty (device_form (drop l.byte-index l.rest))
