use Rattle.gix_validate.proofs.Common.{◌≡◌, ◌≤◌, length, take}
use Rattle.git_names.specs.Suggestions.{trimmed}
use Rattle.git_names.proofs.suggestions.length_of_trimmed.Given as goal

abbrev pub invariant-loop-end : goal.invariant-loop-end
invariant-loop-end l =
    record { within : l.end ≤ length l.text; same : trimmed (take l.end l.text) ≡ trimmed l.text }

abbrev pub decreases-loop-end : goal.decreases-loop-end
decreases-loop-end l = l.end
