-- What is left of the path has the fault of the whole.
use Rattle.gix_validate.proofs.Common.{◌-◌, length}
use Rattle.git_names.proofs.PathLemmas.{LeftOf}
use Rattle.git_names.proofs.paths.first_fault.Given as goal

abbrev pub invariant-loop-end : goal.invariant-loop-end
invariant-loop-end l = LeftOf l.fn.options l.fn.mode l.fn.path l.start

abbrev pub decreases-loop-end : goal.decreases-loop-end
decreases-loop-end l = length l.fn.path - l.start
