use Rattle.gix_validate.proofs.Common.{◌-◌, length, arith, subst}
use Rattle.gix_validate.proofs.Blocks.Parts.{parts_found, in_front, in_back}
use Rattle.gix_validate.specs.Private.Scan.{IsFirst, at_both}
use Rattle.gix_validate.proofs.scan.first_of_parts.Goals as goal

pub returns-then-hits-eq0 : goal.returns-then-hits-eq0
returns-then-hits-eq0 g c =
    let h = c.hits-hits.ensures in
    let x = c.args.front.now in
    let found = parts_found g.P.Pattern.hit x c.args.back.now _ _ c.args.size
    (length x - c.args.size) _ (omega arith) c.requires.front c.requires.back in
    (found h.few h.lanes).0 c.if-hits-eq0.true

pub returns-then-lane-size : goal.returns-then-lane-size
returns-then-lane-size g c =
    let h = c.hits-hits.ensures in
    let x = c.args.front.now in
    let found = parts_found g.P.Pattern.hit x c.args.back.now _ _ c.args.size
    (length x - c.args.size) _ (omega arith) c.requires.front c.requires.back in
    subst (IsFirst (at_both g.P.Pattern.hit x c.args.back.now) (length x))
    (in_front c.args.size _ _ c.if-lane-size.true)
    ((found h.few h.lanes).1 _ c.first_lane.ensures.set c.first_lane.ensures.below)

pub returns-else-lane-size : goal.returns-else-lane-size
returns-else-lane-size g c =
    let h = c.hits-hits.ensures in
    let x = c.args.front.now in
    let found = parts_found g.P.Pattern.hit x c.args.back.now _ _ c.args.size
    (length x - c.args.size) _ (omega arith) c.requires.front c.requires.back in
    subst (IsFirst (at_both g.P.Pattern.hit x c.args.back.now) (length x))
    (in_back c.args.size _ _ c.if-lane-size.false)
    ((found h.few h.lanes).1 _ c.first_lane.ensures.set c.first_lane.ensures.below)
