-- No offset so far is a hit.
use Rattle.gix_validate.proofs.Common.{◌≡◌, ◌+◌, ◌-◌, length}
use Rattle.gix_validate.specs.Private.Scan.{NoneBelow, at_both}
use Rattle.gix_validate.proofs.scan.first_by_blocks.Given as goal

abbrev pub invariant-loop-at : goal.invariant-loop-at
invariant-loop-at g l = record {
  room : l.last + 16 ≡ length l.front;
  none : NoneBelow (at_both g.P.Pattern.hit l.front l.back) l.at;
}

abbrev pub decreases-loop-at : goal.decreases-loop-at
decreases-loop-at g l = l.last - l.at
