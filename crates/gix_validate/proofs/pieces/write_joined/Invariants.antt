-- The buffer has what it had and the parts so far, joined, and its capacity has not shrunk.
use Rattle.gix_validate.proofs.Common.{◌≡◌, ◌≤◌, ◌++◌, map, take, vec_capacity}
use Rattle.bstr.specs.BStr.{bstr_bytes}
use Rattle.gix_validate.specs.Pieces.{joined}
use Rattle.gix_validate.proofs.pieces.write_joined.Given as goal

abbrev pub invariant-loop-i : goal.invariant-loop-i
invariant-loop-i l = record {
  written : l.buffer.items ≡ l.initial.buffer.items ++ joined (take l.i (map bstr_bytes l.parts));
  room : vec_capacity l.initial.buffer ≤ vec_capacity l.buffer;
}
