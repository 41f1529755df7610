use Rattle.gix_validate.proofs.Common.{refl, arith, ◌++◌, range_with_len}
use Rattle.gix_validate.proofs.Blocks.Parts.{has_parts}
use Rattle.gix_validate.proofs.lanes.first_and_last_two.Goals as goal

pub returns : goal.returns
returns c =
    let a = range_with_len 0 4 in
    has_parts 2 _ _ c.args.text.now (a ++ (a ++ (a ++ a))) (omega arith) (omega arith) (omega arith) refl refl
