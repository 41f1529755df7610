use Rattle.gix_validate.proofs.Common.{bit_or, eqb, byte}
use Rattle.gix_validate.proofs.Blocks.Lanes.{both_mask, of_either}
use Rattle.gix_validate.proofs.path.classes.SeparatorPattern.hits.Goals as goal

pub returns : goal.returns
returns c =
    let law = both_mask bit_or _ of_either eqb eqb c.args.front c.args.front
    (byte "/") (byte "\\") c.fits-front.0 c.fits-front.0 in
    record { few = law.0; lanes = law.1 }
