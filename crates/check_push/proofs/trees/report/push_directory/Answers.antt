use Rattle.gix_validate.proofs.Common.{arith, length-take}
use Rattle.check_push.proofs.trees.report.push_directory.Goals as goal

pub slice_bounds-front-end : goal.slice_bounds-front-end
slice_bounds-front-end c =
    omega (arith, length-take 128 c.args.directory.now, c.if-directory-le-MAX_DIRECTORY.false)
