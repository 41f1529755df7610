-- What a header and a section of the program are in the terms of the rule.
use Rattle.std.specs.Prelude.{ℕ, List, Option, Some, None}
use Rattle.gitmodules.specs.declared.reader.Header.{Header}
use Rattle.gitmodules.specs.declared.reader.Section.{Section}
use Rattle.gitmodules.specs.declared.reader.Header.TheVariants as code
use Rattle.gitmodules.specs.Sections as rule

abbrev pub header_of : Header → rule.Header
header_of (code.Submodule (Some name)) = rule.Named name
header_of (code.Submodule None) = rule.Unreadable
header_of code.Other = rule.Other

-- the offset and the name of a section
abbrev pub section_pair : Section → ℕ × Option (List ℕ)
section_pair section = (section.offset, section.name)
