pub mod ReadNames
pub mod FirstBracket
pub mod SpelledSections
pub mod ReadSections
pub mod Blanks
pub mod NamesSoFar
mod Rows
