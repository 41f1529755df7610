-- The length so far has all the slashes, and the parts that were passed.
use Rattle.gix_validate.proofs.Common.{◌≡◌, ◌+◌, ◌-◌, ◌<◌, ◌^◌, length, take, sum_by}
use Rattle.bstr.specs.BStr.{bstr_bytes}
use Rattle.gix_validate.proofs.pieces.joined_len.Given as goal

abbrev pub invariant-loop-part : goal.invariant-loop-part
invariant-loop-part l = record {
  counted : l.len
      ≡ (length l.parts - 1) + sum_by (λ part. length (bstr_bytes part)) (take l.part-index l.parts);
  small : l.len < 2 ^ 64;
}
