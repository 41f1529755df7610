use Rattle.gix_validate.proofs.Common.{◌≡◌, length}
use Rattle.gix_validate.specs.Hfs.{hfs_form}
use Rattle.git_names.proofs.submodules.hfs.next_kept.Given as goal

abbrev pub invariant-loop-after : goal.invariant-loop-after
invariant-loop-after l = hfs_form l.rest ≡ hfs_form l.fn.bytes

abbrev pub decreases-loop-after : goal.decreases-loop-after
decreases-loop-after l = length l.rest
