use Rattle.gix_validate.proofs.Common.{[], arith, common_steps}
use Rattle.git_check_names.proofs.ReadNames.{end_read, last_read, long_read, name_read}
use Rattle.git_check_names.proofs.input.next_name.Goals as goal

pub returns-in_ok-skip_past-in-Limit-clause-next : goal.returns-in_ok-skip_past-in-Limit-clause-next
returns-in_ok-skip_past-in-Limit-clause-next g c =
    long_read _ _ [] _ _ _ (rw c.in-Limit.is at c.in_ok-read_before.ensures.read)
    c.in_ok-skip_past-in-Limit.ensures.skips

pub returns-in-End-clause-next : goal.returns-in-End-clause-next
returns-in-End-clause-next g c =
    end_read _ _ _ _ (rw c.in-End.is at c.in_ok-read_before.ensures.read) (grind (arith, common_steps))

pub returns-in-End-2-clause-next : goal.returns-in-End-2-clause-next
returns-in-End-2-clause-next g c =
    last_read _ _ _ _ (rw c.in-End-2.is at c.in_ok-read_before.ensures.read) (grind (arith, common_steps))

pub returns-in-Byte-clause-next : goal.returns-in-Byte-clause-next
returns-in-Byte-clause-next g c = name_read _ _ _ _ (rw c.in-Byte.is at c.in_ok-read_before.ensures.read)

pub returns-in-End-clause-stop : goal.returns-in-End-clause-stop
returns-in-End-clause-stop g c = grind (arith, common_steps)

pub returns-in-End-2-clause-stop : goal.returns-in-End-2-clause-stop
returns-in-End-2-clause-stop g c = grind (arith, common_steps)

pub returns-in-Byte-clause-stop : goal.returns-in-Byte-clause-stop
returns-in-Byte-clause-stop g c = grind (arith, common_steps)
