use Rattle.gix_validate.proofs.Common.{◌≡◌}
use Rattle.gix_validate.proofs.Components.ShortNames.{is_short_from}
use Rattle.gix_validate.specs.Bytes.{lower}
use Rattle.gix_validate.proofs.path.ntfs.is_hashed_short_name.Given as goal

abbrev pub invariant-loop-letters : goal.invariant-loop-letters
invariant-loop-letters l = is_short_from 0 (lower l.word) ≡ is_short_from l.letters (lower l.word)
