use Rattle.gitmodules.proofs.ReadSections.{each_header_given}
use Rattle.gitmodules.proofs.reader.Sections.new.Goals as goal

pub returns-clause-given : goal.returns-clause-given
returns-clause-given c = each_header_given
