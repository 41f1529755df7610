pub mod IgnoredCharacters
