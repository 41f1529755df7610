use Rattle.gix_validate.proofs.Common.{bit_and, eqb, byte}
use Rattle.gix_validate.proofs.Blocks.Lanes.{both_mask, of_both}
use Rattle.gix_validate.proofs.submodule.TwoDotsPattern.hits.Goals as goal

pub returns : goal.returns
returns c =
    let law = both_mask bit_and _ of_both eqb eqb c.args.front c.args.back
    (byte ".") (byte ".") c.fits-front.0 c.fits-back.0 in
    record { few = law.0; lanes = law.1 }
