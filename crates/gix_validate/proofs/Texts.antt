-- Texts: pieces, ends, offsets, words and letter case.
pub mod Endings
pub mod Pieces
pub mod Joined
pub mod LetterCase
pub mod Words
pub mod NamesIn
