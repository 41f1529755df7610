use Rattle.gix_validate.proofs.Sanitizing.OneBuffer.{MendedUpTo}
use Rattle.gix_validate.proofs.reference.sanitize.mend_pieces.Given as goal

abbrev pub invariant-loop-read : goal.invariant-loop-read
invariant-loop-read l = MendedUpTo l.fn.text l.text l.end l.read l.previous
