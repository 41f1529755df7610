use Rattle.gix_validate.proofs.Common.{refl}
use Rattle.programs.proofs.CutTexts.{none_found}
use Rattle.programs.proofs.ShownReads.{cut_found}
use Rattle.programs.proofs.input.cut_at.Goals as goal

pub returns-in-Some : goal.returns-in-Some
returns-in-Some c = cut_found c.args.byte c.args.shown.now c.in-Some.at c.in-Some.ensures

pub returns-in-None : goal.returns-in-None
returns-in-None c = (none_found c.args.byte c.args.shown.now c.in-None.ensures, refl, refl)
