-- A fault of the tag name is that of each of the first six kinds.
use Rattle.gix_validate.proofs.Common.{arith, sym}
use Rattle.bstr.specs.BStr.{bstr_bytes}
use Rattle.gix_validate_c.proofs.TagFaults.{number_by_tag, offset_by_tag}
use Rattle.gix_validate_c.proofs.names.reference_fault_at.Goals as goal

pub returns-in-Some-clause-number : goal.returns-in-Some-clause-number
returns-in-Some-clause-number c = λ flags. grind (
  arith,
  number_by_tag c.args.kind flags (bstr_bytes c.args.name) c.in-Some.fault c.in-Some.offset c.requires
      (sym c.in-Some.ensures.fault),
  c.number.ensures.number,
  c.into.ensures,
)

pub returns-in-Some-clause-offset : goal.returns-in-Some-clause-offset
returns-in-Some-clause-offset c = λ flags. sym (offset_by_tag c.args.kind flags (bstr_bytes c.args.name)
    c.in-Some.fault c.in-Some.offset c.requires (sym c.in-Some.ensures.fault)
    (λ lock. grind (arith, lock, c.is_lock.ensures, c.if-not-is_lock.ensures)))
