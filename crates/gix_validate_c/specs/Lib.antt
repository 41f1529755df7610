pub mod Numbers
pub mod Flags
pub mod Texts
pub mod Kinds
