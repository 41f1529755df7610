use Rattle.gix_validate.proofs.Common.{◌-◌, arith, length}
use Rattle.git_names.proofs.SlashLemmas.{first_in_block, first_in_next, none_in_block, none_in_next}
use Rattle.git_names.proofs.paths.slashes.first_slash.Goals as goal

pub returns-then-slashes-ne0 : goal.returns-then-slashes-ne0
returns-then-slashes-ne0 c =
    let block = c.slashes_of_block-slashes.ensures in
    let lane = c.first_lane.ensures in
    first_in_next c.args.text.now c.args.start c.loop-at.at _ _ c.loop-at.invariant.order (omega arith)
    block.few block.lanes lane.set lane.below c.loop-at.invariant.none

pub loop-at-preserved : goal.loop-at-preserved
loop-at-preserved c =
    let block = c.slashes_of_block-slashes.ensures in
    record {
      order = omega arith;
      within = omega arith;
      room = omega arith;
      none = none_in_next c.args.text.now c.args.start c.loop-at.at _ block.few block.lanes
          (omega (arith, c.if-slashes-ne0.false)) c.loop-at.invariant.none;
    }

pub returns-then-slashes-ne0-2 : goal.returns-then-slashes-ne0-2
returns-then-slashes-ne0-2 c =
    let block = c.slashes_of_block.ensures in
    let lane = c.first_lane-then-slashes-ne0-2.ensures in
    first_in_block c.args.text.now c.args.start (length c.args.text.now - 16) c.loop-at.at _ _
    c.loop-at.invariant.order (omega arith) (omega arith) (omega arith)
    block.few block.lanes lane.set lane.below c.loop-at.invariant.none

pub returns : goal.returns
returns c =
    let block = c.slashes_of_block.ensures in
    let none = none_in_block c.args.text.now c.args.start (length c.args.text.now - 16) c.loop-at.at _
    (omega arith) (omega arith) block.few block.lanes (omega (arith, c.if-slashes-ne0-2.false))
    c.loop-at.invariant.none in
    λ k from below. none k from (omega (arith, below))
