use Rattle.gix_validate.proofs.Common.{arith, nat_tests}
use Rattle.gix_validate.proofs.TagNames.ClearTexts.{fault_found, fault_none, none_to_suspect}
use Rattle.gix_validate.proofs.tag.fault_at_first_offset.Goals as goal

pub loop-offset-init : goal.loop-offset-init
loop-offset-init c =
    none_to_suspect c.args.bytes.now _ c.requires.within c.requires.quiet

pub returns-in-Some : goal.returns-in-Some
returns-in-Some c = grind (
  arith,
  fault_found c.args.bytes.now c.loop-offset.offset c.in-Some.fault (omega arith) c.loop-offset.invariant,
)

pub returns-then-bytes-ne5 : goal.returns-then-bytes-ne5
returns-then-bytes-ne5 c = grind (
  arith,
  nat_tests,
  fault_none c.args.bytes.now c.loop-offset.offset (omega arith) c.loop-offset.invariant,
  c.if-ends_with.ensures.value,
)

pub returns : goal.returns
returns c = grind (
  arith,
  nat_tests,
  fault_none c.args.bytes.now c.loop-offset.offset (omega arith) c.loop-offset.invariant,
)
