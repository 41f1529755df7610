-- No slash so far.
use Rattle.git_names.specs.Private.Slashes.{NoSlash}
use Rattle.git_names.proofs.paths.slashes.first_slash_by_bytes.Given as goal

abbrev pub invariant-loop-at : goal.invariant-loop-at
invariant-loop-at l = NoSlash l.fn.text l.fn.start l.at
