use Rattle.gix_validate.proofs.Common.{◌≡◌, None}
use Rattle.gix_validate.specs.Faults.{at_first_offset}
use Rattle.git_names.specs.Offsets.{parent_at}
use Rattle.git_names.proofs.offsets.first_parent.Given as goal

abbrev pub invariant-loop-offset : goal.invariant-loop-offset
invariant-loop-offset l = at_first_offset (parent_at l.name) l.offset ≡ None
