use Rattle.gix_validate.proofs.Blocks.Lanes.{low, high, classes_are}
use Rattle.gix_validate.proofs.lanes.classify.Goals as goal

pub swizzle-low : goal.swizzle-low
swizzle-low c = (low c.args.bytes c.fits-bytes).0

pub swizzle-high : goal.swizzle-high
swizzle-high c = (high c.args.bytes c.fits-bytes).0

pub returns : goal.returns
returns c = classes_are c.args.by_low_nibble c.args.by_high_nibble c.args.bytes c.fits-bytes
