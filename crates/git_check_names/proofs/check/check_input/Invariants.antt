-- what was said of the names so far is said, and what is said of those that are left follows
use Rattle.gix_validate.proofs.Common.{◌+◌}
use Rattle.git_check_names.proofs.InputReports.{SoFar}
use Rattle.git_check_names.specs.Names.{input_report}
use Rattle.git_check_names.specs.Options.{as_options}
use Rattle.git_check_names.proofs.check.check_input.Given as goal

abbrev pub invariant-loop-of-until_returned : goal.invariant-loop-of-until_returned
invariant-loop-of-until_returned g l =
    let options = as_options l.options in
    SoFar (input_report options l.kind 1) (input_report options l.kind (l.before + 1))
    (g.R.Read.remaining l.fn.input) (g.R.Read.remaining l.input)
    (g.W.Write.contents l.fn.output) (g.W.Write.contents l.output) l.messages.items l.refused l.failed
