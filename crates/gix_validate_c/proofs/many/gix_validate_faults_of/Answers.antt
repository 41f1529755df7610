use Rattle.gix_validate.proofs.Common.{arith}
use Rattle.gix_validate_c.proofs.NumbersWritten.{one_more, no_room}
use Rattle.gix_validate_c.specs.Kinds.{kind_of, number_by}
use Rattle.gix_validate_c.proofs.many.gix_validate_faults_of.Goals as goal
use Rattle.gix_validate_c.proofs.many.gix_validate_faults_of.Goals.{then-count-faults, else-count-faults}

pub loop-name-preserved : goal.loop-name-preserved
loop-name-preserved c = record {
  written = elim c.if-count-faults.branch [
    | then-count-faults w ↦
        one_more (number_by (kind_of c.args.kind) c.args.flags) _ _ _ _ _ _ _ _ _
        c.in-Some.ensures.names
        (grind arith) w.faults-is w.if-count-faults.true c.loop-name.invariant.written
    | else-count-faults w ↦
        no_room (number_by (kind_of c.args.kind) c.args.flags) _ _ _ _ _ _ _ _
        c.in-Some.ensures.names w.faults-is w.if-count-faults.false c.loop-name.invariant.written
  ];
  bound = omega (arith, c.in-Some.ensures.shorter, c.loop-name.invariant.bound);
}
