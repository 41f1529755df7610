-- Two blocks and two more.
use Rattle.gix_validate.proofs.Blocks.Parts.{any_of_four}
use Rattle.gix_validate.proofs.scan.four_have.Goals as goal

pub returns : goal.returns
returns g c =
    any_of_four _ c.args.text.now c.args.at _ _ _ _ c.block_has.ensures
    c.block_has-2.ensures c.block_has-3.ensures c.block_has-4.ensures
