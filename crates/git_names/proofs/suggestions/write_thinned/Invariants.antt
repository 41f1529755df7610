-- What is written, and what the rest of the piece gives after it, is what the piece gives.
use Rattle.gix_validate.proofs.Common.{◌≡◌, ◌≤◌, ◌++◌, None, drop, false, take}
use Rattle.git_names.specs.Suggestions.{dashed, thinned}
use Rattle.git_names.proofs.suggestions.write_thinned.Given as goal

abbrev pub invariant-loop-byte : goal.invariant-loop-byte
invariant-loop-byte l = record {
  within : l.end ≤ l.byte-index;
  text : take l.end l.buffer ++ thinned l.kept (dashed l.after_at (drop l.byte-index l.piece))
      ≡ thinned None (dashed false l.piece);
}
