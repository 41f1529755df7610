use Rattle.std.proofs.Common.{arith}
use Rattle.std.proofs.lemmas.Grind.{common_steps}
use Rattle.git_check_names.proofs.check.asked_of.Goals as goal

pub returns-in_default-2 : goal.returns-in_default-2
returns-in_default-2 c = grind (arith, common_steps)

pub returns-in_default : goal.returns-in_default
returns-in_default c = grind (arith, common_steps)

pub returns-then-not-is_repairable : goal.returns-then-not-is_repairable
returns-then-not-is_repairable c = grind (arith, common_steps)

pub bounds-word-0 : goal.bounds-word-0
bounds-word-0 c = omega arith

pub slice_bounds-names-start : goal.slice_bounds-names-start
slice_bounds-names-start c = omega arith

pub slice_bounds-names-count : goal.slice_bounds-names-count
slice_bounds-names-count c = omega arith

pub returns-in_default-kind_of : goal.returns-in_default-kind_of
returns-in_default-kind_of c = grind (arith, common_steps)
