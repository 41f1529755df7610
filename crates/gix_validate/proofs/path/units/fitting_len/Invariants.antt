use Rattle.gix_validate.proofs.Common.{◌≡◌, ◌+◌, drop}
use Rattle.gix_validate.specs.Units.{fitting_len}
use Rattle.gix_validate.proofs.path.units.fitting_len.Given as goal

abbrev pub invariant-loop-offset : goal.invariant-loop-offset
invariant-loop-offset l =
    fitting_len l.row l.text ≡ l.offset + fitting_len (drop l.offset l.row) (drop l.offset l.text)
