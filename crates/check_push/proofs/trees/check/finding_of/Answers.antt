use Rattle.gix_validate.proofs.Common.{arith}
use Rattle.check_push.specs.Trees.Arguments.{as_options}
use Rattle.check_push.specs.Trees.Private.{as_entry_header}
use Rattle.check_push.proofs.trees.Findings.{valid_as_symlink}
use Rattle.check_push.proofs.trees.check.finding_of.Goals as goal

pub returns-in-Ok : goal.returns-in-Ok
returns-in-Ok c =
    let accepted = valid_as_symlink (as_options c.args.options.now) (as_entry_header c.args.front)
    (rw c.new.ensures at c.in-Ok.ensures.fewer) in
    grind arith
