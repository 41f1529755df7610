use Rattle.gix_validate.proofs.Components.Laws.{device_form_law, device_case_law, same_form_law}
use Rattle.gix_validate.proofs.Common.{arith}
use Rattle.gix_validate.proofs.path.component_is_windows_device.Goals as goal

pub returns-clause-form : goal.returns-clause-form
returns-clause-form c = device_form_law _

pub returns-clause-answer : goal.returns-clause-answer
returns-clause-answer c = grind (arith, device_case_law, same_form_law)

pub returns-clause-case : goal.returns-clause-case
returns-clause-case c = grind (arith, device_case_law, same_form_law)

pub returns-clause-same_form : goal.returns-clause-same_form
returns-clause-same_form c = grind (arith, device_case_law, same_form_law)
