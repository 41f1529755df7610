use Rattle.std.proofs.Common.{arith}
use Rattle.std.proofs.lemmas.Grind.{common_steps}
use Rattle.std.proofs.lemmas.List.{take_rest}
use Rattle.gitmodules.proofs.FirstBracket.{bracket_searched}
use Rattle.gitmodules.proofs.reader.bracket_from.Goals as goal

pub returns-in_err-count : goal.returns-in_err-count
returns-in_err-count c = grind (
  arith,
  common_steps,
  take_rest,
  bracket_searched c.args.start c.in_ok-get.field-0.now c.memchr.result c.memchr.ensures,
)

pub returns : goal.returns
returns c = grind (
  arith,
  common_steps,
  take_rest,
  bracket_searched c.args.start c.in_ok-get.field-0.now c.memchr.result c.memchr.ensures,
)
