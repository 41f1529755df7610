use Rattle.gix_validate.proofs.Common.{arith, common_steps, take_all}
use Rattle.gix_validate.proofs.Components.JoinedParts.{length_joined}
use Rattle.std.proofs.lemmas.List.Sums.{sum_by_more_le}
use Rattle.gix_validate.proofs.pieces.joined_len.Goals as goal

pub returns-in_err-len : goal.returns-in_err-len
returns-in_err-len c = grind (arith, length_joined, sum_by_more_le, take_all)

pub loop-part-preserved : goal.loop-part-preserved
loop-part-preserved c = grind (arith, common_steps)

pub returns : goal.returns
returns c = grind (arith, length_joined, sum_by_more_le, take_all)
