-- The quote and the escapes of the bytes so far are written.
use Rattle.gix_validate.proofs.Common.{◌++◌, take, HasWritten, IsPlainFormatter, codes, flat_map}
use Rattle.gix_validate.specs.Quoted.{escape_of}
use Rattle.git_names.proofs.messages.InPieceDisplay.fmt.Given as goal

abbrev pub invariant-loop-byte : goal.invariant-loop-byte
invariant-loop-byte g l =
    IsPlainFormatter l.fn.f → HasWritten g.W.Write.write_str_gives l.fn.f
    (codes ", in \"" ++ flat_map escape_of (take l.byte-index l.self.0.now)) l.f
