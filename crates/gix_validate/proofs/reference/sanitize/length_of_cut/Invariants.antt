use Rattle.gix_validate.proofs.Common.{◌≡◌, ◌≤◌, length, take}
use Rattle.gix_validate.specs.Sanitized.{cut}
use Rattle.gix_validate.proofs.reference.sanitize.length_of_cut.Given as goal

abbrev pub invariant-loop-end : goal.invariant-loop-end
invariant-loop-end l = record { within : l.end ≤ length l.text; same : cut (take l.end l.text) ≡ cut l.text }

abbrev pub decreases-loop-end : goal.decreases-loop-end
decreases-loop-end l = l.end
