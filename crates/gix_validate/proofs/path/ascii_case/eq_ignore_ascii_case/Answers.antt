use Rattle.gix_validate.proofs.Common.{arith, common_steps}
use Rattle.gix_validate.proofs.path.ascii_case.eq_ignore_ascii_case.Goals as goal

pub returns-then-text-word : goal.returns-then-text-word
returns-then-text-word c = grind (arith, common_steps)

pub loop-offset-preserved : goal.loop-offset-preserved
loop-offset-preserved c = grind (arith, common_steps)

pub returns-then-not-bytes_eq_ignore_ascii_case : goal.returns-then-not-bytes_eq_ignore_ascii_case
returns-then-not-bytes_eq_ignore_ascii_case c = grind (arith, common_steps)

pub returns : goal.returns
returns c = grind (arith, common_steps)
