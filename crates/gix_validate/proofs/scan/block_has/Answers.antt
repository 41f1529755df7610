use Rattle.gix_validate.proofs.Common.{arith, length-chunk}
use Rattle.gix_validate.proofs.Blocks.Lanes.{any_marked}
use Rattle.gix_validate.proofs.scan.block_has.Goals as goal

pub returns : goal.returns
returns g c =
    let h = c.hits.ensures in
    any_marked (λ b. g.P.Pattern.hit b b) _ _
    (length-chunk c.args.at 16 c.args.text.now (omega arith)) h.few h.lanes
