-- No byte so far is a hit.
use Rattle.gix_validate.proofs.Common.{◌≡◌, ◌+◌, ◌-◌, false, take, length, list_any}
use Rattle.gix_validate.proofs.scan.has.Given as goal

abbrev pub invariant-loop-at : goal.invariant-loop-at
invariant-loop-at g l = record {
  room : l.last + 64 ≡ length l.text;
  none : list_any (λ b. g.P.Pattern.hit b b) (take l.at l.text) ≡ false;
}

abbrev pub decreases-loop-at : goal.decreases-loop-at
decreases-loop-at g l = l.last - l.at
