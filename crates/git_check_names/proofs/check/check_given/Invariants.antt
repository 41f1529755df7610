-- what is said so far, and what is said of the names that are left, are said of all
use Rattle.gix_validate.proofs.Common.{◌≡◌, ◌||◌, ◌++◌, length, map}
use Rattle.std.specs.String.{string_bytes}
use Rattle.git_check_names.specs.Names.{given_report}
use Rattle.git_check_names.specs.Options.{as_options}
use Rattle.git_check_names.proofs.check.check_given.Given as goal

abbrev pub invariant-loop-rest : goal.invariant-loop-rest
invariant-loop-rest g l =
    let left = given_report (as_options l.options) l.kind (map string_bytes l.rest) in
    let all = given_report (as_options l.options) l.kind (map string_bytes l.names) in record {
      lines : l.lines.items ++ left.lines ≡ all.lines;
      messages : l.messages.items ++ left.messages ≡ all.messages;
      refused : (l.refused || left.refused) ≡ all.refused;
      failed : left.failed ≡ all.failed;
    }

abbrev pub decreases-loop-rest : goal.decreases-loop-rest
decreases-loop-rest g l = length l.rest
