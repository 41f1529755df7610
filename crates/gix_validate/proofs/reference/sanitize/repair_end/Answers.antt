use Rattle.gix_validate.proofs.Common.{arith, common_steps}
use Rattle.gix_validate.proofs.Sanitizing.OneBuffer.{repaired_none}
use Rattle.gix_validate.proofs.reference.sanitize.repair_end.Goals as goal

pub returns-then-end-eq0-clause-text : goal.returns-then-end-eq0-clause-text
returns-then-end-eq0-clause-text c = repaired_none c.args.buf.now c.args.end c.requires.some c.if-end-eq0.true

pub returns-then-last-eq46-clause-text : goal.returns-then-last-eq46-clause-text
returns-then-last-eq46-clause-text c = grind (arith, common_steps)

pub returns-else-end-eq1-clause-text : goal.returns-else-end-eq1-clause-text
returns-else-end-eq1-clause-text c = grind (arith, common_steps)

pub returns-then-last-eq46-clause-rest : goal.returns-then-last-eq46-clause-rest
returns-then-last-eq46-clause-rest c = grind (arith, common_steps)

pub returns-then-end-eq0-clause-rest : goal.returns-then-end-eq0-clause-rest
returns-then-end-eq0-clause-rest c = grind (arith, common_steps)
