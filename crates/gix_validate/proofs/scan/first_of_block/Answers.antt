use Rattle.gix_validate.proofs.Blocks.Parts.{block_found}
use Rattle.gix_validate.proofs.scan.first_of_block.Goals as goal

pub returns-then-hits-eq0 : goal.returns-then-hits-eq0
returns-then-hits-eq0 g c =
    let h = c.hits-hits.ensures in
    (block_found g.P.Pattern.hit c.args.front.now c.args.back.now c.args.at
    _ c.requires.room c.requires.none h.few h.lanes).0 c.if-hits-eq0.true

pub returns : goal.returns
returns g c =
    let h = c.hits-hits.ensures in
    let found = block_found g.P.Pattern.hit c.args.front.now c.args.back.now
    c.args.at _ c.requires.room c.requires.none h.few h.lanes in
    found.1 _ c.first_lane.ensures.set c.first_lane.ensures.below
