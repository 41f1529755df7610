use Rattle.gix_validate.proofs.Common.{◌≡◌, drop, bytes_eq}
use Rattle.gix_validate.specs.Bytes.{lower}
use Rattle.gix_validate.proofs.path.ascii_case.eq_ignore_ascii_case.Given as goal

abbrev pub invariant-loop-offset : goal.invariant-loop-offset
invariant-loop-offset l =
    bytes_eq (lower l.text) (lower l.word)
    ≡ bytes_eq (lower (drop l.offset l.text)) (lower (drop l.offset l.word))
