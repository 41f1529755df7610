-- Definitions computed on literal texts, in tables.
pub mod Tables
pub mod TagNames
pub mod References
pub mod Submodules
pub mod Sanitized
pub mod Components
pub mod Pieces
pub mod ComponentLaws
