use Rattle.gix_validate.proofs.Common.{eqb, byte}
use Rattle.gix_validate.proofs.Blocks.Lanes.{lane_mask}
use Rattle.gix_validate.proofs.pieces.SlashPattern.hits.Goals as goal

pub returns : goal.returns
returns c =
    let law = lane_mask eqb c.args.front (byte "/") c.fits-front.0 in
    record { few = law.0; lanes = law.1 }
