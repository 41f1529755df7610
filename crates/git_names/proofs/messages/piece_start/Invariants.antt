use Rattle.gix_validate.proofs.Common.{◌≡◌, ◌≤◌, ◌+◌, not, take}
use Rattle.std.specs.List.{suffix_len}
use Rattle.gix_validate.specs.Pieces.{is_slash}
use Rattle.git_names.proofs.messages.piece_start.Given as goal

abbrev pub invariant-loop-start : goal.invariant-loop-start
invariant-loop-start l = record {
  within : l.start ≤ l.at;
  passed : l.start + suffix_len (λ b. not (is_slash b)) (take l.at l.name)
      ≡ l.at + suffix_len (λ b. not (is_slash b)) (take l.start l.name);
}

abbrev pub decreases-loop-start : goal.decreases-loop-start
decreases-loop-start l = l.start
