use Rattle.gix_validate.proofs.Common.{◌≡◌, drop}
use Rattle.gix_validate.specs.Bytes.{is_empty}
use Rattle.gix_validate.specs.Ntfs.{ntfs_form}
use Rattle.git_names.proofs.submodules.is_nothing_on_ntfs.Given as goal

abbrev pub invariant-loop-byte : goal.invariant-loop-byte
invariant-loop-byte l = is_empty (ntfs_form (drop l.byte-index l.part)) ≡ is_empty (ntfs_form l.part)
