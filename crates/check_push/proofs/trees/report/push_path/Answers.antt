use Rattle.gix_validate.proofs.Common.{arith, append_assoc, option_map}
use Rattle.check_push.proofs.trees.Paths.{escaped_parts}
use Rattle.check_push.proofs.trees.report.push_path.Goals as goal

pub returns : goal.returns
returns c = grind (
  arith,
  append_assoc,
  escaped_parts (option_map (λ directory. directory.now) c.args.directory) c.args.name.now,
)
