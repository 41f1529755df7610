use Rattle.gix_validate.proofs.Common.{arith, sym, ◌∙◌, false≢true, nat_tests}
use Rattle.gix_validate.proofs.Blocks.Lanes.{first_look, quiet_by_looks, clear_by_looks}
use Rattle.gix_validate.proofs.Blocks.Lanes.{unclear_by_pair}
use Rattle.gix_validate.proofs.adjacent.clear_front.Goals as goal

pub returns-then-may_be_faulty-clause-all : goal.returns-then-may_be_faulty-clause-all
returns-then-may_be_faulty-clause-all c = grind (arith, first_look c.args.text.now)

pub returns-in-Some-clause-quiet : goal.returns-in-Some-clause-quiet
returns-in-Some-clause-quiet c =
    quiet_by_looks _ _ (sym c.may_be_faulty.ensures ∙ c.if-may_be_faulty.false) c.in-Some.ensures.none

pub returns-in-None-clause-quiet : goal.returns-in-None-clause-quiet
returns-in-None-clause-quiet c k below =
    quiet_by_looks c.args.text.now _
    (sym c.may_be_faulty.ensures ∙ c.if-may_be_faulty.false) c.in-None.ensures k (omega (arith, below))

pub returns-in-None-2 : goal.returns-in-None-2
returns-in-None-2 c = grind (arith, nat_tests, clear_by_looks)

pub returns-in-Some-clause-within : goal.returns-in-Some-clause-within
returns-in-Some-clause-within c = omega (arith, c.in-Some.ensures.within)

pub returns-in-Some-clause-all : goal.returns-in-Some-clause-all
returns-in-Some-clause-all c = unclear_by_pair c.args.text.now c.in-Some.offset c.in-Some.ensures

pub returns-in-None-clause-within : goal.returns-in-None-clause-within
returns-in-None-clause-within c = omega arith

pub returns-in-None-clause-all : goal.returns-in-None-clause-all
returns-in-None-clause-all c =
    let broken = sym c.ends_in_break.ensures ∙ c.if-ends_in_break.true in
    (λ e. absurd (omega arith), λ clear. absurd (false≢true (sym clear.end ∙ broken)))
