use Rattle.gix_validate.proofs.Common.{arith, w64, bit_at-trailing_zeros}
use Rattle.git_names.proofs.paths.slashes.first_lane.Goals as goal

pub returns : goal.returns
returns c =
    let law = bit_at-trailing_zeros w64 c.args.lanes (omega (arith, c.requires)) c.ranges.lanes.fits in
    record { bound = law.0; set = law.1; below = law.2 }
