use Rattle.gix_validate.proofs.Common.{arith}
use Rattle.gix_validate.proofs.TagNames.FaultTable.{faulty_tabled}
use Rattle.gix_validate.proofs.bytes.may_be_faulty.Goals as goal

pub returns : goal.returns
returns c = grind (arith, faulty_tabled)
