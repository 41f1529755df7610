use Rattle.gix_validate.proofs.Common.{◌≡◌, ◌≢◌, ◌∙◌, [], ◌∷◌, ℕ, List, IfOk, IfOk-weaker, ap, arith}
use Rattle.gix_validate.proofs.Common.{nat_tests, sym, Result, Ok, Err}
use Rattle.std.specs.Result.{IsErrAnd}
use Rattle.programs.proofs.ReportSoFar.{on_err}
use Rattle.git_check_names.specs.Names.{Outcome, as_outcome}
use Rattle.git_check_names.specs.declared.problem.Ended.TheVariants.{Failed}
use Rattle.git_check_names.specs.declared.problem.Verdict.{Verdict}
use Rattle.git_check_names.proofs.InputReports.{empty_stops, long_goes, name_told, names_end, next_as}
use Rattle.git_check_names.proofs.InputReports.{names_pause, names_spent, nul_stops, starts}
use Rattle.git_check_names.proofs.check.check_input.Goals as goal

pub loop-of-until_returned-init : goal.loop-of-until_returned-init
loop-of-until_returned-init g c = starts _ _ _ _ c.new-messages.ensures.items

pub loop-of-until_returned-preserved : goal.loop-of-until_returned-preserved
loop-of-until_returned-preserved g c =
    name_told _ _ _ _ c.loop-of-until_returned.invariant _ _ _ _ _ c.deref.ensures.value
    c.deref-in-loop-of-until_returned.ensures.value
    (next_as _ _ _ c.name_end.ensures c.in-Name.is c.in_ok-next_name.ensures.next)
    (sym c.has_nul.ensures ∙ c.if-has_nul.false) c.in_ok-refused.ensures.lines
    c.in_ok-refused.ensures.messages c.in_ok-refused.ensures.refused c.in_ok-refused.ensures.failed

pub loop-of-until_returned-preserved-in-TooLong : goal.loop-of-until_returned-preserved-in-TooLong
loop-of-until_returned-preserved-in-TooLong g c =
    long_goes _ _ _ [] c.loop-of-until_returned.invariant _
    (next_as _ _ _ c.name_end.ensures c.in-TooLong.is c.in_ok-next_name.ensures.next)
    c.in_ok-push_problem-in-TooLong.ensures.messages

pub returns-in_err-next_name-clause-stopped : goal.returns-in_err-next_name-clause-stopped
returns-in_err-next_name-clause-stopped g c = λ _.
    on_err _ _ (names_pause _ _ _ (0 ∷ []) c.loop-of-until_returned.invariant)

pub returns-in_err-push_problem-in-TooLong-clause-stopped
    : goal.returns-in_err-push_problem-in-TooLong-clause-stopped
returns-in_err-push_problem-in-TooLong-clause-stopped g c = λ _.
    on_err _ _ (names_pause _ _ _ (0 ∷ []) c.loop-of-until_returned.invariant)

pub returns-in-End-clause-verdict : goal.returns-in-End-clause-verdict
returns-in-End-clause-verdict g c =
    IfOk-weaker _ _ _ (λ verdict is. empty_stops _ _ _ [] c.loop-of-until_returned.invariant _
    (as_outcome verdict) is (next_as _ _ _ c.name_end.ensures c.in-End.is c.in_ok-next_name.ensures.next)
    (rw c.if-number-eq1.true)) c.stopped_by.ensures.verdict

pub returns-in-End-clause-stopped : goal.returns-in-End-clause-stopped
returns-in-End-clause-stopped g c = λ _.
    on_err _ _ (names_pause _ _ _ (0 ∷ []) c.loop-of-until_returned.invariant)

pub returns-in-End-2-clause-verdict : goal.returns-in-End-2-clause-verdict
returns-in-End-2-clause-verdict g c =
    names_end _ _ _ [] c.loop-of-until_returned.invariant _ _ c.ended_of.ensures
    (next_as _ _ _ c.name_end.ensures c.in-End-2.is c.in_ok-next_name.ensures.next) (grind (arith, nat_tests))

pub returns-then-has_nul-clause-verdict : goal.returns-then-has_nul-clause-verdict
returns-then-has_nul-clause-verdict g c =
    IfOk-weaker _ _ _ (λ verdict is. nul_stops _ _ _ _ c.loop-of-until_returned.invariant _
    (as_outcome verdict) is (next_as _ _ _ c.name_end.ensures c.in-Name.is c.in_ok-next_name.ensures.next)
    (rw c.deref.ensures.value at (sym c.has_nul.ensures ∙ c.if-has_nul.true)))
    c.stopped_by-then-has_nul.ensures.verdict

pub returns-then-has_nul-clause-stopped : goal.returns-then-has_nul-clause-stopped
returns-then-has_nul-clause-stopped g c = λ _.
    on_err _ _ (names_pause _ _ _ (0 ∷ []) c.loop-of-until_returned.invariant)

-- the error that a call returned is passed on
passed : {A B E : Type 0} (r : Result A E) (e stop : E) → IsErrAnd r (λ x. x ≡ e)
    → ◌≡◌ {A = Result B E} (Err e) (Err stop) → r ≡ Err stop
passed (Ok x) e stop is same = absurd is
passed (Err x) e stop is same = cc

pub returns-in_err-refused-clause-stopped : goal.returns-in_err-refused-clause-stopped
returns-in_err-refused-clause-stopped g c = λ other.
    let same : c.write_report.new.output ≡ c.loop-of-until_returned.output =
    c.in_err-refused.ensures.stopped
    (λ is. other (passed _ _ _ c.from_residual-in_err-refused.ensures.1 is)) in
    on_err _ _ (rw (← same) at (names_pause _ _ _ (0 ∷ []) c.loop-of-until_returned.invariant))

pub returns-clause-stopped : goal.returns-clause-stopped
returns-clause-stopped g c = λ _. names_pause _ _ _ (0 ∷ []) c.loop-of-until_returned.invariant

-- nothing is said of the rest of the input if the run failed
unless_failed : {E : Type 0} (P : Type 0) (ran : Result Verdict E) (messages : List ℕ)
    → IfOk ran (λ verdict. as_outcome verdict ≡ record { ended = Failed; messages = messages })
    → IfOk ran (λ verdict. verdict.ended ≢ Failed → P)
unless_failed P (Ok verdict) messages is = λ other. absurd (other (ap Outcome.ended is))
unless_failed P (Err stop) messages is = is

pub returns-in-End-clause-spent : goal.returns-in-End-clause-spent
returns-in-End-clause-spent g c = unless_failed _ c.stopped_by.result _ c.stopped_by.ensures.verdict

pub returns-then-has_nul-clause-spent : goal.returns-then-has_nul-clause-spent
returns-then-has_nul-clause-spent g c =
    unless_failed _ c.stopped_by-then-has_nul.result _ c.stopped_by-then-has_nul.ensures.verdict

pub returns-in-End-2-clause-spent : goal.returns-in-End-2-clause-spent
returns-in-End-2-clause-spent g c = λ _.
    names_spent _ _ _ [] c.loop-of-until_returned.invariant _
    (next_as _ _ _ c.name_end.ensures c.in-End-2.is c.in_ok-next_name.ensures.next)
