use Rattle.gix_validate.proofs.Common.{eqb, not}
use Rattle.gix_validate.proofs.Blocks.Lanes.{lane_mask}
use Rattle.gix_validate.proofs.lanes.nonzero_lanes.Goals as goal

pub returns : goal.returns
returns c =
    let law = lane_mask (λ x y. not (eqb x y)) c.args.bytes 0 c.fits-bytes.0 in
    record { few = law.0; lanes = law.1 }
