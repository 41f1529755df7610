use Rattle.gix_validate.proofs.Common.{sym}
use Rattle.check_push.proofs.refs.InnerNames.{inner_shorter}
use Rattle.check_push.proofs.refs.namespaces.innermost.Goals as goal

pub loop-inner-smaller : goal.loop-inner-smaller
loop-inner-smaller c = rw (sym c.in-Some.ensures) at (inner_shorter c.loop-inner.innermost.now)
