use Rattle.gix_validate.proofs.Common.{on_ok_weaker}
use Rattle.gix_validate.specs.Submodule
use Rattle.check_names.proofs.AnswerLemmas.{asked_otherwise, appended, verdict-of_checked}
use Rattle.check_names.specs.Answers.{answer_of, kinds}
use Rattle.check_names.proofs.check.push_other_answer.Goals as goal

pub returns-in-Some-clause-ok : goal.returns-in-Some-clause-ok
unfolding answer_of kinds
returns-in-Some-clause-ok c =
    rw c.in-Some.ensures
    (on_ok_weaker _ (verdict-of_checked _ Submodule.fault_of _ _ _ _ _ c.name.ensures.answer)
    c.push_verdict.ensures.ok)

pub returns-in-Some-name_after-clause-ok : goal.returns-in-Some-name_after-clause-ok
unfolding answer_of kinds
returns-in-Some-name_after-clause-ok c = rw c.in-Some-name_after.ensures c.push_component.ensures.ok

pub returns-in-Some-name_after-2-clause-ok : goal.returns-in-Some-name_after-2-clause-ok
unfolding answer_of kinds
returns-in-Some-name_after-2-clause-ok c =
    rw c.in-Some-name_after-2.ensures c.push_component-in-Some-name_after-2.ensures.ok

pub returns-in-Some-name_after-3-clause-ok : goal.returns-in-Some-name_after-3-clause-ok
unfolding answer_of kinds
returns-in-Some-name_after-3-clause-ok c = rw c.in-Some-name_after-3.ensures c.push_device.ensures

pub returns-in-Some-name_after-4-clause-ok : goal.returns-in-Some-name_after-4-clause-ok
unfolding answer_of kinds
returns-in-Some-name_after-4-clause-ok c = rw c.in-Some-name_after-4.ensures c.push_sanitized.ensures

pub returns-in_default-name_after-4-clause-ok : goal.returns-in_default-name_after-4-clause-ok
returns-in_default-name_after-4-clause-ok c =
    rw (asked_otherwise c.args.line.now c.requires.no_ref c.requires.no_tag c.requires.no_partial
    c.requires.no_branch c.in_default.ensures c.in_default-name_after.ensures
    c.in_default-name_after-2.ensures c.in_default-name_after-3.ensures c.in_default-name_after-4.ensures)
    (appended c.extend_from_slice.result _ c.args.answers.now.items _ c.extend_from_slice.ensures.items)
