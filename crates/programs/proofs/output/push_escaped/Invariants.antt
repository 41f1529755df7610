-- the escapes of the bytes so far are appended
use Rattle.gix_validate.proofs.Common.{◌≡◌, ◌++◌, take, flat_map}
use Rattle.gix_validate.specs.Quoted.{escape_of}
use Rattle.programs.proofs.output.push_escaped.Given as goal

abbrev pub invariant-loop-byte : goal.invariant-loop-byte
invariant-loop-byte l = l.line.items ≡ l.fn.line.items ++ flat_map escape_of (take l.byte-index l.bytes)
