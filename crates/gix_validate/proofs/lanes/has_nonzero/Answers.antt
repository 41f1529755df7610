use Rattle.gix_validate.specs.Private.Scan.{is_nonzero}
use Rattle.gix_validate.proofs.Blocks.Lanes.{any_marked}
use Rattle.gix_validate.proofs.lanes.has_nonzero.Goals as goal

pub returns : goal.returns
returns c =
    any_marked is_nonzero c.args.bytes _ c.fits-bytes.0
    c.nonzero_lanes.ensures.few c.nonzero_lanes.ensures.lanes
