-- By the three looks that say whether a text is clear; a text without a byte is not.
use Rattle.gix_validate.proofs.Common.{arith, nat_tests, false≢true}
use Rattle.gix_validate.proofs.Blocks.Lanes.{clear_by_looks}
use Rattle.gix_validate.proofs.adjacent.is_clear.Goals as goal

pub returns-then-is_empty : goal.returns-then-is_empty
returns-then-is_empty c = (
  λ is. absurd (false≢true is),
  λ clear. grind (arith, nat_tests, (clear_by_looks c.args.text.now clear.some).0 clear, clear.some),
)

pub returns : goal.returns
returns c = grind (arith, nat_tests, clear_by_looks c.args.text.now)
