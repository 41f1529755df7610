use Rattle.gix_validate.proofs.Common.{◌≡◌, ◌≤◌, ◌+◌, length, take}
use Rattle.std.specs.List.{suffix_len}
use Rattle.git_names.specs.Offsets.{is_dot_or_space}
use Rattle.git_names.proofs.offsets.end_start.Given as goal

abbrev pub invariant-loop-end : goal.invariant-loop-end
invariant-loop-end l = record {
  within : l.end ≤ length l.name;
  trimmed : l.end + suffix_len is_dot_or_space l.name
      ≡ length l.name + suffix_len is_dot_or_space (take l.end l.name);
}

abbrev pub decreases-loop-end : goal.decreases-loop-end
decreases-loop-end l = l.end
