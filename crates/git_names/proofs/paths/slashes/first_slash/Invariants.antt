-- No slash so far.
use Rattle.gix_validate.proofs.Common.{◌≡◌, ◌≤◌, ◌+◌, ◌-◌, length}
use Rattle.git_names.specs.Private.Slashes.{NoSlash}
use Rattle.git_names.proofs.paths.slashes.first_slash.Given as goal

abbrev pub invariant-loop-at : goal.invariant-loop-at
invariant-loop-at l = record {
  order : l.fn.start ≤ l.at;
  within : l.at ≤ l.last + 16;
  room : l.last + 16 ≡ length l.fn.text;
  none : NoSlash l.fn.text l.fn.start l.at;
}

abbrev pub decreases-loop-at : goal.decreases-loop-at
decreases-loop-at l = l.last - l.at
