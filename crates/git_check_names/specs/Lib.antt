pub mod Kinds
pub mod Options
pub mod Faults
pub mod Problems
pub mod GitQuoted
pub mod Names
pub mod Private
pub mod ValidNames
