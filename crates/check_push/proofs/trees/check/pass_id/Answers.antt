use Rattle.gix_validate.proofs.Common.{false, true, refl}
use Rattle.check_push.proofs.trees.check.pass_id.Goals as goal

pub returns-then-not-branch-clause-id : goal.returns-then-not-branch-clause-id
returns-then-not-branch-clause-id g c =
    (false, rw (c.if-not-branch.true, c.min.ensures) at c.in_ok-read_or_skip_id.ensures, λ e. absurd cc, refl)

pub returns-then-left-len-clause-id : goal.returns-then-left-len-clause-id
returns-then-left-len-clause-id g c = (
  true,
  rw (c.if-not-branch.false, c.min.ensures) at c.in_ok-read_or_skip_id.ensures,
  λ _. c.if-left-len.true,
  refl,
)
