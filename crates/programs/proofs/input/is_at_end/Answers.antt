use Rattle.std.proofs.Common.{arith}
use Rattle.std.proofs.lemmas.Grind.{common_steps}
use Rattle.programs.proofs.input.is_at_end.Goals as goal

pub loop-preserved : goal.loop-preserved
loop-preserved g c = grind (arith, common_steps)

pub returns-in_err-read_again-in-Err : goal.returns-in_err-read_again-in-Err
returns-in_err-read_again-in-Err g c = grind (arith, common_steps)

pub returns-in-loop : goal.returns-in-loop
returns-in-loop g c = grind (arith, common_steps)

pub returns : goal.returns
returns g c = grind (arith, common_steps)
