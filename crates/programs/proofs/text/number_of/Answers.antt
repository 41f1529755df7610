use Rattle.std.proofs.Common.{arith}
use Rattle.std.proofs.lemmas.Grind.{common_steps}
use Rattle.programs.proofs.Numbers.{number_of_some, number_too_large}
use Rattle.programs.proofs.text.number_of.Goals as goal

pub loop-digit-init : goal.loop-digit-init
loop-digit-init c = grind (arith, common_steps, number_of_some)

pub returns-in_err-checked_sub : goal.returns-in_err-checked_sub
returns-in_err-checked_sub c = grind (arith, common_steps)

pub returns-then-value-base : goal.returns-then-value-base
returns-then-value-base c = grind (arith, common_steps)

pub returns-in_err-checked_mul : goal.returns-in_err-checked_mul
returns-in_err-checked_mul c = grind (arith, common_steps, number_too_large)

pub returns-in_err-number : goal.returns-in_err-number
returns-in_err-number c = grind (arith, common_steps, number_too_large)

pub loop-digit-preserved : goal.loop-digit-preserved
loop-digit-preserved c = grind (arith, common_steps)

pub returns : goal.returns
returns c = grind (arith, common_steps)
