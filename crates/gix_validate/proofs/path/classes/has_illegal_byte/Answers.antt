use Rattle.gix_validate.proofs.Common.{◌∙◌}
use Rattle.gix_validate.proofs.Blocks.ByteClasses.{illegal_is}
use Rattle.gix_validate.proofs.path.classes.has_illegal_byte.Goals as goal

pub returns-then-name-gt-MAX_SHORT : goal.returns-then-name-gt-MAX_SHORT
returns-then-name-gt-MAX_SHORT c = c.has.ensures ∙ illegal_is c.args.name.now c.type_inv.name
