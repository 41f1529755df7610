use Rattle.gix_validate.proofs.Common.{sym, ◌∙◌}
use Rattle.programs.proofs.Commas.{switched_part}
use Rattle.programs.proofs.protections.protections_of.Goals as goal

pub loop-end-preserved : goal.loop-end-preserved
loop-end-preserved c =
    switched_part c.loop-end.rest.now c.in-Some.end c.loop-end.options c.in_ok-options.options _
    c.in-Some.ensures (sym c.switched_on.ensures ∙ c.in_ok-options.was) c.loop-end.invariant
