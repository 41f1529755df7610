use Rattle.gix_validate.proofs.Common.{sym}
use Rattle.check_push.proofs.refs.FirstRefusals.{own_first}
use Rattle.check_push.proofs.refs.refusal.refusal_of.Goals as goal

pub returns-in-Some : goal.returns-in-Some
returns-in-Some c = sym (own_first _ _ _ (sym c.in-Some.ensures))
