use Rattle.git_check_names.proofs.AllValid.{valid_run}
use Rattle.git_check_names.proofs.check.CheckOptionsCommand.run.Goals as goal

pub returns-clause-valid : goal.returns-clause-valid
returns-clause-valid g c = valid_run _ _ _ _ _ _ c.check_names.ensures.runs
