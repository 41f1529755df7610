-- the parts so far have no fault
use Rattle.gix_validate.proofs.Common.{◌≡◌, ◌+◌, length}
use Rattle.gix_validate.specs.Pieces.{pieces}
use Rattle.git_check_names.specs.Faults.{parts_fault_of}
use Rattle.git_check_names.specs.Options.{as_options}
use Rattle.git_check_names.proofs.fault.parts_fault.Given as goal

abbrev pub invariant-loop-part : goal.invariant-loop-part
invariant-loop-part l = record {
  within : l.offset + length l.rest ≡ length l.fn.name;
  left : parts_fault_of (as_options l.fn.options) 0 (pieces l.fn.name)
      ≡ parts_fault_of (as_options l.fn.options) l.offset (pieces l.rest);
}

abbrev pub decreases-loop-part : goal.decreases-loop-part
decreases-loop-part l = length l.rest
