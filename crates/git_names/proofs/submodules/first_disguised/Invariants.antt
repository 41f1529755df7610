use Rattle.gix_validate.proofs.Common.{◌-◌, length}
use Rattle.git_names.proofs.SubmoduleLemmas.{DisguisedFrom}
use Rattle.git_names.proofs.submodules.first_disguised.Given as goal

abbrev pub invariant-loop-end : goal.invariant-loop-end
invariant-loop-end l = DisguisedFrom l.fn.options l.fn.name l.start

abbrev pub decreases-loop-end : goal.decreases-loop-end
decreases-loop-end l = length l.fn.name - l.start
