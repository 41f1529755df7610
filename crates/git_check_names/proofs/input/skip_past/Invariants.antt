-- what was skipped so far
use Rattle.git_check_names.proofs.ReadNames.{Skipped}
use Rattle.git_check_names.proofs.input.skip_past.Given as goal

abbrev pub invariant-loop-of-until_returned : goal.invariant-loop-of-until_returned
invariant-loop-of-until_returned g l =
    Skipped l.end (g.R.Read.remaining l.fn.input) (g.R.Read.remaining l.input)
