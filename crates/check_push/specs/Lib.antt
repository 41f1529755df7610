pub mod Subcommands
pub mod Refs
pub mod Trees
pub mod Submodules
