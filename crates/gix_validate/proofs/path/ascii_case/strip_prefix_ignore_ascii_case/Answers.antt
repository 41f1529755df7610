use Rattle.gix_validate.proofs.Common.{arith}
use Rattle.gix_validate.proofs.Texts.LetterCase.{begins_word, begins_short}
use Rattle.gix_validate.proofs.path.ascii_case.strip_prefix_ignore_ascii_case.Goals as goal

pub returns-in-Some : goal.returns-in-Some
returns-in-Some c = grind (arith, begins_word, begins_short)

pub returns-in_default : goal.returns-in_default
returns-in_default c = grind (arith, begins_word, begins_short)
