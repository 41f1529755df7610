use Rattle.gix_validate.proofs.Common.{eqb, byte, arith, drop, take, length-chunk, get_or-chunk}
use Rattle.gix_validate.proofs.Blocks.Lanes.{lane_mask}
use Rattle.git_names.proofs.paths.slashes.slashes_of_block.Goals as goal

pub returns : goal.returns
returns c =
    let x = c.args.text.now in
    let law = lane_mask eqb (take 16 (drop c.args.at x)) (byte "/")
    (length-chunk c.args.at 16 x c.requires) in
    record { few = law.0; lanes = λ k small. grind (arith, law.1 k small, get_or-chunk c.args.at 16 x k 0) }
