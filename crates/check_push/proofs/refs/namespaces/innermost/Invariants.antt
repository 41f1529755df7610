-- the name so far has the same innermost name
use Rattle.gix_validate.proofs.Common.{◌≡◌, length}
use Rattle.check_push.specs.Refs.Private.{innermost}
use Rattle.check_push.proofs.refs.namespaces.innermost.Given as goal

abbrev pub invariant-loop-inner : goal.invariant-loop-inner
invariant-loop-inner l = innermost l.innermost ≡ innermost l.fn.name

abbrev pub decreases-loop-inner : goal.decreases-loop-inner
decreases-loop-inner l = length l.innermost
