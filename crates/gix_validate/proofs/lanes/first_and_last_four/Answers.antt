use Rattle.gix_validate.proofs.Common.{refl, arith, ◌++◌, range_with_len}
use Rattle.gix_validate.proofs.Blocks.Parts.{has_parts}
use Rattle.gix_validate.proofs.lanes.first_and_last_four.Goals as goal

pub returns : goal.returns
returns c =
    has_parts 4 _ _ c.args.text.now (range_with_len 0 8 ++ range_with_len 0 8)
    (omega arith) (omega arith) (omega arith) refl refl
