use Rattle.gix_validate.proofs.Common.{◌-◌, length}
use Rattle.git_names.proofs.SuggestionLemmas.{WrittenUpTo}
use Rattle.git_names.proofs.suggestions.write_repaired.Given as goal

abbrev pub invariant-loop-slash : goal.invariant-loop-slash
invariant-loop-slash l = WrittenUpTo l.fn.name l.buffer l.end l.start

abbrev pub decreases-loop-slash : goal.decreases-loop-slash
decreases-loop-slash l = length l.fn.name - l.start
