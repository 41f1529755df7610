use Rattle.gix_validate.proofs.Common.{on_ok_weaker}
use Rattle.gix_validate.specs.Reference.{branch_fault_of, full_fault_of, partial_fault_of}
use Rattle.gix_validate.specs.Tag
use Rattle.check_names.proofs.AnswerLemmas.{verdict-of_checked}
use Rattle.check_names.specs.Answers.{answer_of, kinds}
use Rattle.check_names.proofs.check.push_answer.Goals as goal

pub returns-in-Some-clause-ok : goal.returns-in-Some-clause-ok
unfolding answer_of kinds
returns-in-Some-clause-ok c =
    rw c.in-Some.ensures
    (on_ok_weaker _ (verdict-of_checked _ full_fault_of _ _ _ _ _ c.new.ensures.answer)
    c.push_verdict.ensures.ok)

pub returns-in-Some-name_after-clause-ok : goal.returns-in-Some-name_after-clause-ok
unfolding answer_of kinds
returns-in-Some-name_after-clause-ok c =
    rw c.in-Some-name_after.ensures
    (on_ok_weaker _ (verdict-of_checked _ Tag.fault_of _ _ _ _ _ c.new-in-Some-name_after.ensures.answer)
    c.push_verdict-in-Some-name_after.ensures.ok)

pub returns-in-Some-name_after-2-clause-ok : goal.returns-in-Some-name_after-2-clause-ok
unfolding answer_of kinds
returns-in-Some-name_after-2-clause-ok c =
    rw c.in-Some-name_after-2.ensures
    (on_ok_weaker _
    (verdict-of_checked _ partial_fault_of _ _ _ _ _ c.new-in-Some-name_after-2.ensures.answer)
    c.push_verdict-in-Some-name_after-2.ensures.ok)

pub returns-in-Some-name_after-3-clause-ok : goal.returns-in-Some-name_after-3-clause-ok
unfolding answer_of kinds
returns-in-Some-name_after-3-clause-ok c =
    rw c.in-Some-name_after-3.ensures
    (on_ok_weaker _ (verdict-of_checked _ branch_fault_of _ _ _ _ _ c.branch_name.ensures.answer)
    c.push_verdict-in-Some-name_after-3.ensures.ok)
