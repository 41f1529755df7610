-- A clear name stays. Of any other the front is mended, and then repaired.
use Rattle.gix_validate.proofs.Common.{◌≡◌, ℕ, ◌<◌, List, length, sym, refl, arith, length-take}
use Rattle.gix_validate.proofs.TagNames.ClearTexts.{clear_is_partial}
use Rattle.gix_validate.proofs.Sanitizing.Laws.{sanitized-own}
use Rattle.gix_validate.proofs.Sanitizing.OneBuffer.{sanitized-in_place, rest-in_place}
use Rattle.gix_validate.specs.Private.Adjacent.{IsClear}
use Rattle.gix_validate.specs.Sanitized.{sanitized}
use Rattle.gix_validate.proofs.reference.sanitize.write_sanitized.Goals as goal

clear_stays : (x : List ℕ) → 1 < length x → IsClear x → x ≡ sanitized x
clear_stays x long clear = sym (sanitized-own x (clear_is_partial x long clear))

pub returns-then-clear-len-clause-text : goal.returns-then-clear-len-clause-text
returns-then-clear-len-clause-text c = grind (arith, length-take, clear_stays)

pub returns-then-clear-len-clause-rest : goal.returns-then-clear-len-clause-rest
returns-then-clear-len-clause-rest c = refl

pub returns-clause-text : goal.returns-clause-text
returns-clause-text c = grind (arith, length-take, sanitized-in_place)

pub returns-clause-rest : goal.returns-clause-rest
returns-clause-rest c = grind (arith, length-take, rest-in_place)
