use Rattle.check_push.proofs.trees.FirstEntry.{front_past, front_long, front_cut}
use Rattle.check_push.proofs.trees.check.read_front.Goals as goal

pub returns-in-Limit-clause-front : goal.returns-in-Limit-clause-front
returns-in-Limit-clause-front g c =
    front_past c.args.left c.min-limit.ensures
    (rw c.in-Limit.is at c.in_ok-read_before.ensures.read) c.if-left-lt-MAX_LINE.true

pub returns-in-Limit-2-clause-front : goal.returns-in-Limit-2-clause-front
returns-in-Limit-2-clause-front g c =
    front_long c.args.left c.min-limit.ensures
    (rw c.in-Limit-2.is at c.in_ok-read_before.ensures.read) c.if-left-lt-MAX_LINE.false

pub returns-in-End-clause-front : goal.returns-in-End-clause-front
returns-in-End-clause-front g c =
    front_cut c.args.left c.min-limit.ensures (rw c.in-End.is at c.in_ok-read_before.ensures.read)
