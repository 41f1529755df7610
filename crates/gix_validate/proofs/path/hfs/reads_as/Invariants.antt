use Rattle.gix_validate.proofs.Common.{◌≡◌, drop, bytes_eq}
use Rattle.gix_validate.specs.Bytes.{lower}
use Rattle.gix_validate.specs.Hfs.{hfs_form}
use Rattle.gix_validate.proofs.path.hfs.reads_as.Given as goal

abbrev pub invariant-loop-wanted : goal.invariant-loop-wanted
invariant-loop-wanted l =
    bytes_eq (lower (hfs_form l.name)) (lower l.word)
    ≡ bytes_eq (lower (hfs_form l.rest)) (lower (drop l.wanted-index l.word))
