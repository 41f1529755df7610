use Rattle.programs.proofs.WellFormedStreams.{reported_in_order, well_formed_only_if_spelled}
use Rattle.programs.proofs.WellFormedStreams.{clean_run}
use Rattle.programs.proofs.WholeStreams.{whole_stream}
use Rattle.programs.specs.Objects.{object_reach, object_report}
use Rattle.programs.specs.Promises.{Runs}
use Rattle.programs.proofs.objects.run.Goals as goal

pub returns : goal.returns
returns g c =
    let rule = g.C.ObjectCheck.object_rule c.args.check in
    let needs_end = c.args.needs_end in
    let ran = rw c.ending_of.ensures at c.run.ensures in
    let runs : Runs (object_report rule needs_end) object_reach _ _ _ _ c.run.result =
    record { verdict = ran.verdict; spent = ran.spent; within = ran.within; stopped = ran.stopped } in
    record {
      runs = runs;
      clean = clean_run rule needs_end _ (λ object good. (λ e. e, λ e. e)) c.run.result runs;
      spelled = reported_in_order rule needs_end;
      well_formed = well_formed_only_if_spelled rule needs_end;
      whole = whole_stream rule needs_end;
    }
