-- what is left has it if and only if the name has it
use Rattle.gix_validate.proofs.Common.{◌≡◌, codes, length}
use Rattle.gix_validate.specs.Bytes.{holds}
use Rattle.git_check_names.proofs.report.has_separator.Given as goal

abbrev pub invariant-loop-after : goal.invariant-loop-after
invariant-loop-after l = holds l.fn.name (codes ": ") ≡ holds l.rest (codes ": ")

abbrev pub decreases-loop-after : goal.decreases-loop-after
decreases-loop-after l = length l.rest
