use Rattle.gix_validate.proofs.Common.{sym, ap, ◌∙◌}
use Rattle.gix_validate.proofs.Components.Laws.{fewer_law, case_law, units_law, basic_law}
use Rattle.gix_validate.proofs.Components.DecodedUnit.{first_unit_law}
use Rattle.gix_validate.specs.Component.{fault_of}
use Rattle.gix_validate.proofs.path.component.Goals as goal

pub returns-in-None-clause-case : goal.returns-in-None-clause-case
returns-in-None-clause-case c = case_law _ _ _

pub returns-in-None-clause-decoded : goal.returns-in-None-clause-decoded
returns-in-None-clause-decoded c = first_unit_law _

pub returns-in-None-clause-units : goal.returns-in-None-clause-units
returns-in-None-clause-units c = units_law _

pub returns-in-Some-clause-case : goal.returns-in-Some-clause-case
returns-in-Some-clause-case c = case_law _ _ _

pub returns-in-Some-clause-decoded : goal.returns-in-Some-clause-decoded
returns-in-Some-clause-decoded c = first_unit_law _

pub returns-in-Some-clause-units : goal.returns-in-Some-clause-units
returns-in-Some-clause-units c = units_law _

pub returns-in-None-clause-fewer : goal.returns-in-None-clause-fewer
returns-in-None-clause-fewer c =
    fewer_law _ _ _ (sym (c.first_fault.ensures
    ∙ ap (fault_of c.args.options c.args.mode) c.as_bytes.ensures) ∙ c.in-None.is)

pub returns-in-None-clause-basic : goal.returns-in-None-clause-basic
returns-in-None-clause-basic c =
    basic_law _ _ _ (sym (c.first_fault.ensures
    ∙ ap (fault_of c.args.options c.args.mode) c.as_bytes.ensures) ∙ c.in-None.is)
