use Rattle.gix_validate.proofs.Common.{◌-◌, arith, length}
use Rattle.git_names.proofs.SlashLemmas.{block_at_start, block_moved, marked_by_four, marked_by_two}
use Rattle.git_names.proofs.paths.slashes.slashes_of.Goals as goal

pub returns-then-last-le-LANES : goal.returns-then-last-le-LANES
returns-then-last-le-LANES c =
    let x = c.args.text.now in
    let last = length x - 16 in
    let first = c.slashes_of_block.ensures in
    let second = c.slashes_of_block-2.ensures in
    marked_by_two x last _ _ (omega arith) (omega arith) (block_at_start x _ first.few first.lanes)
    (block_moved x last _ (omega arith) second.few second.lanes)

pub returns : goal.returns
returns c =
    let x = c.args.text.now in
    let last = length x - 16 in
    let first = c.slashes_of_block.ensures in
    let fourth = c.slashes_of_block-2.ensures in
    let second = c.slashes_of_block-3.ensures in
    let third = c.slashes_of_block-4.ensures in
    marked_by_four x last _ _ _ _ (omega arith) (omega arith) (omega arith)
    (block_at_start x _ first.few first.lanes)
    (block_moved x last _ (omega arith) fourth.few fourth.lanes)
    (block_moved x 16 _ (omega arith) second.few second.lanes)
    (block_moved x (last - 16) _ (omega arith) third.few third.lanes)
