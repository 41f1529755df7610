use Rattle.gix_validate.proofs.Common.{◌+◌, ◌≤◌, length}
use Rattle.gix_validate.specs.Pieces.{names_in}
use Rattle.gix_validate_c.proofs.NumbersWritten.{Written}
use Rattle.gix_validate_c.specs.Kinds.{kind_of, number_by}
use Rattle.gix_validate_c.proofs.many.gix_validate_faults_of.Given as goal

-- the numbers so far are written; each name that is done had at least the byte that ended it, or was the last
abbrev pub invariant-loop-name : goal.invariant-loop-name
invariant-loop-name l = record {
  written : Written (number_by (kind_of l.fn.kind) l.fn.flags)
      (names_in l.end l.names) (names_in l.end l.rest) l.fn.faults l.faults l.count;
  bound : l.count + length l.rest ≤ length l.names;
}

abbrev pub decreases-loop-name : goal.decreases-loop-name
decreases-loop-name l = length l.rest
