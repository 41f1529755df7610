use Rattle.std.proofs.Common.{drop}
use Rattle.gitmodules.proofs.ReadNames.{IsAppended}
use Rattle.gitmodules.proofs.escaped.EscapedName.push_to.Given as goal

abbrev pub invariant-loop-byte : goal.invariant-loop-byte
invariant-loop-byte l =
    IsAppended l.fn.name.items l.name.items l.escaped (drop l.byte-index l.byte-items) l.fn.self
