-- the sections from here on are all that are left
use Rattle.std.proofs.Common.{◌≡◌, ◌-◌, drop, length}
use Rattle.gitmodules.specs.Sections.{sections}
use Rattle.gitmodules.proofs.reader.section_from.Given as goal

abbrev pub invariant-loop-offset : goal.invariant-loop-offset
invariant-loop-offset l =
    sections l.from (drop l.from l.file) ≡ sections l.fn.start (drop l.fn.start l.fn.file)

abbrev pub decreases-loop-offset : goal.decreases-loop-offset
decreases-loop-offset l = length l.file - l.from
