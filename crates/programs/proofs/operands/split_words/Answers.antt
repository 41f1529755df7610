use Rattle.std.proofs.Common.{arith}
use Rattle.std.proofs.lemmas.Grind.{common_steps}
use Rattle.programs.proofs.operands.split_words.Goals as goal

pub loop-word-preserved-then-is_option : goal.loop-word-preserved-then-is_option
loop-word-preserved-then-is_option g c = grind (arith, common_steps)

pub loop-word-preserved-in-Value-1 : goal.loop-word-preserved-in-Value-1
loop-word-preserved-in-Value-1 g c = grind (arith, common_steps)

pub loop-word-preserved : goal.loop-word-preserved
loop-word-preserved g c = grind (arith, common_steps)
