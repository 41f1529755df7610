use Rattle.std.proofs.Common.{arith}
use Rattle.std.proofs.lemmas.Grind.{common_steps}
use Rattle.git_check_names.proofs.check.check_given.Goals as goal

pub returns-clause-verdict : goal.returns-clause-verdict
returns-clause-verdict g c = grind (arith, common_steps)

pub loop-rest-smaller : goal.loop-rest-smaller
loop-rest-smaller g c = grind (arith, common_steps)

pub bounds-rest-0 : goal.bounds-rest-0
bounds-rest-0 g c = omega arith

pub slice_bounds-after-start : goal.slice_bounds-after-start
slice_bounds-after-start g c = omega arith

pub slice_bounds-after-count : goal.slice_bounds-after-count
slice_bounds-after-count g c = omega arith
