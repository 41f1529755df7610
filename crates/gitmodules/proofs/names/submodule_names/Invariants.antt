use Rattle.gitmodules.specs.Sections.{sections}
use Rattle.gitmodules.proofs.NamesSoFar.{ReadSoFar}
use Rattle.gitmodules.proofs.names.submodule_names.Given as goal

abbrev pub invariant-loop-section : goal.invariant-loop-section
invariant-loop-section l = ReadSoFar (sections 0 l.fn.file) l.section-iterator l.names.items
