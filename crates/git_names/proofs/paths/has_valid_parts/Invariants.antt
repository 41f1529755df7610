-- The text is a path if what is left of it is one, and the bits are the slashes of what is left.
use Rattle.gix_validate.proofs.Common.{◌≡◌, length}
use Rattle.git_names.specs.Paths.{has_valid_parts}
use Rattle.git_names.specs.Private.Slashes.{MarksSlashes}
use Rattle.git_names.proofs.paths.has_valid_parts.Given as goal

abbrev pub invariant-loop-slashes : goal.invariant-loop-slashes
invariant-loop-slashes l =
    let options = l.fn.options in
    record {
      marks : MarksSlashes l.rest l.slashes;
      same : has_valid_parts options l.fn.mode l.fn.path ≡ has_valid_parts options l.fn.mode l.rest;
    }

abbrev pub decreases-loop-slashes : goal.decreases-loop-slashes
decreases-loop-slashes l = length l.rest
