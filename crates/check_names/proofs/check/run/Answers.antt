use Rattle.gix_validate.proofs.Common.{arith}
use Rattle.check_names.proofs.AnswerLemmas.{answers_nil}
use Rattle.check_names.proofs.check.run.Goals as goal

pub returns-clause-empty : goal.returns-clause-empty
returns-clause-empty g c = grind (arith, answers_nil)
