use Rattle.gix_validate.proofs.Common.{refl, arith, range_with_len}
use Rattle.gix_validate.proofs.Blocks.Parts.{has_parts}
use Rattle.gix_validate.proofs.lanes.halves.Goals as goal

pub returns : goal.returns
returns c =
    has_parts 8 _ _ c.args.text.now (range_with_len 0 16)
    (omega arith) c.requires.first c.requires.second refl refl
