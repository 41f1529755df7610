use Rattle.gix_validate.proofs.Common.{arith, byte}
use Rattle.gix_validate.proofs.Blocks.Parts.{either_among}
use Rattle.gix_validate.proofs.path.classes.has_separator.Goals as goal

pub returns-then-windows : goal.returns-then-windows
returns-then-windows c = grind (arith, c.has.ensures, either_among (byte "/") (byte "\\") c.args.name.now)
