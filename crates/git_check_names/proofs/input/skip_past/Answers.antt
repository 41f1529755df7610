use Rattle.git_check_names.proofs.ReadNames.{skipped_all, skipped_more, skipped_past}
use Rattle.gix_validate.proofs.Common.{arith}
use Rattle.git_check_names.proofs.input.skip_past.Goals as goal

pub loop-of-until_returned-preserved : goal.loop-of-until_returned-preserved
loop-of-until_returned-preserved g c =
    skipped_more _ _ _ _ _ c.loop-of-until_returned.invariant
    (rw c.in-Limit.is at c.in_ok-read_before.ensures.read)

pub returns-in-Byte : goal.returns-in-Byte
returns-in-Byte g c = record {
  skips = skipped_past _ _ _ _ _ c.loop-of-until_returned.invariant
      (rw c.in-Byte.is at c.in_ok-read_before.ensures.read);
  stop = λ e. absurd (grind (arith, e));
}

pub returns-in-End : goal.returns-in-End
returns-in-End g c = record {
  skips = skipped_all _ _ _ _ _ c.loop-of-until_returned.invariant
      (rw c.in-End.is at c.in_ok-read_before.ensures.read);
  stop = λ e. absurd (grind (arith, e));
}
