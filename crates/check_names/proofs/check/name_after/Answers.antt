use Rattle.gix_validate.proofs.Common.{Some, None, strip_prefix_is, Decides-eqb}
use Rattle.check_names.proofs.check.name_after.Goals as goal

pub returns-in_err-name : goal.returns-in_err-name
returns-in_err-name c =
    rw c.from_residual.ensures
    (strip_prefix_is Decides-eqb c.args.line.now c.args.kind_and_space.now None c.in_err-name.ensures.cases)

pub returns : goal.returns
returns c =
    rw c.new.ensures (strip_prefix_is Decides-eqb c.args.line.now c.args.kind_and_space.now
    (Some c.in_ok-name.name) c.in_ok-name.ensures.cases)
