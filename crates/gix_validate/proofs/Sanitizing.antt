-- The sanitised text, and the buffer in which it is made.
pub mod LockSuffixes
pub mod MendedPieces
pub mod WrittenPiece
pub mod OneBuffer
pub mod Laws
