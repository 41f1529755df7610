use Rattle.gix_validate.proofs.Common.{arith, length-take, nat_tests, take-take}
use Rattle.gix_validate.proofs.Sanitizing.OneBuffer.{MendedUpTo, MendedUpTo-start, MendedUpTo-byte}
use Rattle.gix_validate.proofs.Sanitizing.OneBuffer.{MendedUpTo-dots, MendedUpTo-slash, mended_text}
use Rattle.gix_validate.proofs.Sanitizing.OneBuffer.{before_front, added-plain, mended-some}
use Rattle.gix_validate.proofs.Sanitizing.OneBuffer.{mended-none}
use Rattle.gix_validate.proofs.reference.sanitize.mend_pieces.Goals as goal

pub loop-read-init : goal.loop-read-init
loop-read-init c = elim c.if-clear-eq0.branch [
  | goal.then-clear-eq0 w ↦ grind (arith, nat_tests, MendedUpTo, MendedUpTo-start)
  | goal.else-clear-eq0 w ↦ grind (arith, nat_tests, MendedUpTo, MendedUpTo-start, before_front)
]

pub loop-read-preserved : goal.loop-read-preserved
loop-read-preserved c = elim c.if-not-may_be_faulty.branch [
  | goal.then-not-may_be_faulty w ↦ grind (arith, nat_tests, MendedUpTo, MendedUpTo-byte, added-plain)
  | goal.else-not-may_be_faulty+then-byte-ne47+in-Some w ↦
      grind (arith, nat_tests, MendedUpTo, MendedUpTo-byte, mended-some)
  | goal.else-not-may_be_faulty+then-byte-ne47+in_default w ↦
      grind (arith, nat_tests, MendedUpTo, MendedUpTo-dots, mended-none)
  | goal.else-not-may_be_faulty+else-byte-ne47+then-previous-ne47 w ↦
      grind (arith, nat_tests, MendedUpTo, MendedUpTo-slash)
  | goal.else-not-may_be_faulty+else-byte-ne47+else-previous-ne47 w ↦
      grind (arith, nat_tests, MendedUpTo, MendedUpTo-slash)
]

pub returns-then-previous-eq47-clause-text : goal.returns-then-previous-eq47-clause-text
returns-then-previous-eq47-clause-text c =
    let text = mended_text _ _ _ _ _ c.loop-read.invariant (omega (arith, c.loop-read.invariant.long)) in
    grind (arith, nat_tests, take-take, length-take)

pub returns-else-previous-eq47-clause-text : goal.returns-else-previous-eq47-clause-text
returns-else-previous-eq47-clause-text c =
    let text = mended_text _ _ _ _ _ c.loop-read.invariant (omega (arith, c.loop-read.invariant.long)) in
    grind (arith, nat_tests, take-take, length-take)
